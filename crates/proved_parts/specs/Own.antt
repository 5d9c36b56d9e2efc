-- A type of another crate, with a byte for each value.
use Rattle.std.proofs.Common.{◌≡◌, ℕ, Bool, true, List, [], ◌∷◌, Ok, refl}
use Rattle.std.specs.Cmp.{IsEquivalence}
use Rattle.wenc_base.specs.Delimited.{IsWritten, AlikeIsEqual}
use Rattle.wenc_base.specs.Piece.{Form, byte}
use Rattle.wenc_base.specs.Readers.{Lawful, Reader, give, nowhere, choose}
use Rattle.proved_parts.specs.declared.strangers.own.Light.{Light}
use Rattle.proved_parts.specs.declared.strangers.own.Light.TheVariants.{Red, Green}

abbrev pub light : Form Light
light Red = byte 0x72
light Green = byte 0x67

abbrev pub read_light : Reader Light
read_light = choose ((0x72, give Red) ∷ (0x67, give Green) ∷ []) nowhere

-- A piece of one byte, which the reader finds, is lawful.
one_byte : (b : ℕ) (l : Light) → ((rest : List ℕ) → read_light (b ∷ rest) ≡ Ok (l, rest))
    → Lawful (byte b) (λ fuel. read_light) l
one_byte b l found = record {
  text_is_read = λ mode rest h. refl;
  strict_is_text = λ bytes rest r. r;
  fits = λ bytes rest r. tt;
  leaves = λ mode bytes rest r. (b ∷ [], r);
  free = λ h fault c. c;
  never = λ c. c;
  depth = 0;
  finds = λ fuel le mode bytes rest r. rw r (found rest);
}

pub light_lawful : (l : Light) → Lawful (light l) (λ fuel. read_light) l
unfolding choose
light_lawful Red = one_byte 0x72 Red (λ rest. refl)
light_lawful Green = one_byte 0x67 Green (λ rest. refl)

-- `encode` writes the form.
pub light_written : IsWritten light (λ l. l) light
light_written l = record { text = refl; fits = λ h. h; among = λ fault c. c; free = λ none. none }

-- `==` is an equivalence.
pub light_alike : (eq : Light → Light → Bool) → IsEquivalence eq → AlikeIsEqual eq (λ l. l)
light_alike eq laws a b e = rw e (laws.refl b)
