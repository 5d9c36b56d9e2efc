-- What a line says by its words.
use Rattle.std.proofs.Common.{◌≡◌, ℕ, Bool, true, false, cond, List, None, refl, arith}
use Rattle.std.specs.Str.{IsUtf8, is_utf8}
use Rattle.std.proofs.lemmas.Str.{IsUtf8-from_is_utf8, is_utf8-from_IsUtf8}
use Rattle.wenc.specs.Prelude.{command_of, has_empty, line_command, parted}

pub false_without : (b : Bool) (P : Type 0) → (b ≡ true → P) → ¬ P → b ≡ false
false_without b P h n = grind arith

pub not_text : (line : List ℕ) → ¬ IsUtf8 line → line_command line ≡ None
not_text line h = rw (false_without (is_utf8 line) (IsUtf8 line) (IsUtf8-from_is_utf8 line) h) refl

-- of a text only the words count
pub of_text : (line : List ℕ) → IsUtf8 line → line_command line ≡ cond (has_empty (parted 32 line)) None (command_of (parted 32 line))
of_text line h = rw (is_utf8-from_IsUtf8 line h) refl
