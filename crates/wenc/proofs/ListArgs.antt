-- The arguments of the use `list`.
use Rattle.std.proofs.Common.{◌≡◌, ℕ, Bool, true, List, [], ◌∷◌, map, length, get_or, string_bytes, sym, ap, ◌∙◌, arith}
use Rattle.std.proofs.lemmas.List.{length-map}
use Rattle.std.proofs.lemmas.Slice.Eq.{bytes_eq-Decides}
use Rattle.std.specs.Prelude.{String, codes}
use Rattle.std.specs.Str.{bytes_eq}
use Rattle.wenc.specs.Listed.{IsList}

pub list_is_one : {A : Type 0} (args : List (String A)) → IsList args → length args ≡ 1
list_is_one args h = sym (length-map args string_bytes) ∙ ap length h

one_word : {A : Type 0} (args : List (String A)) (word : String A) → length args ≡ 1 → word ≡ get_or args 0 word
    → map string_bytes args ≡ string_bytes word ∷ []
one_word (x ∷ []) word one is = ap (λ w. string_bytes w ∷ []) (sym is)
one_word args word one is = absurd (omega (arith, one))

-- the one word is `list` where its comparison says so
pub told : {A : Type 0} (args : List (String A)) (word : String A) (text : List ℕ) (r : Bool) → length args ≡ 1 → word ≡ get_or args 0 word
    → text ≡ string_bytes word
    → r ≡ bytes_eq text (codes "list") → (r ≡ true → IsList args) × (IsList args → r ≡ true)
told args word text r one is said tells = grind (arith, one_word args word one is, bytes_eq-Decides text (codes "list"))
