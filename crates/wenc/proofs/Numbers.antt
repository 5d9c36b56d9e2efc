-- Numbers read from their first digit on.
use Rattle.std.proofs.Common.{◌≡◌, ℕ, ◌++◌, Option, ◌+◌, ◌-◌, ◌*◌, ◌^◌, ◌<◌, ◌≤◌, false, List, [], ◌∷◌, Some, None, refl, arith, length, drop, get_or, eqb}
use Rattle.std.proofs.lemmas.Bool.{le-ltb}
use Rattle.std.proofs.lemmas.Grind.{common_steps}
use Rattle.wenc.specs.Fields.{value_behind, at_most_32_bits, number_word}

value_too_large : (n : ℕ) (bytes : List ℕ) → 2 ^ 32 ≤ n → at_most_32_bits (value_behind n bytes) ≡ None
value_too_large n [] h = rw (le-ltb _ _ h) refl
value_too_large n (b ∷ bytes) h = grind (arith, value_too_large (n * 10 + (b - 48)) bytes (omega arith))

-- the next digit makes the number too large, or isn't one
pub number_stops : (word : List ℕ) (i n : ℕ) → i < length word → at_most_32_bits (value_behind 0 word) ≡ at_most_32_bits (value_behind n (drop i word))
    → 2 ^ 32 ≤ n * 10 + (get_or word i 0 - 48) → number_word word ≡ None
number_stops word i n h same large = grind (arith, common_steps, value_too_large)

-- there is no next digit
pub number_ends : (word : List ℕ) (i n : ℕ) → eqb (length word) 0 ≡ false → length word ≤ i
    → at_most_32_bits (value_behind 0 word) ≡ at_most_32_bits (value_behind n (drop i word))
    → n < 2 ^ 32 → number_word word ≡ Some n
number_ends word i n some ended same small = grind (arith, common_steps)

-- ---- numbers one after the other

-- numbers, and then those that words are, where all of these are numbers
abbrev pub put_front : List ℕ → Option (List ℕ) → Option (List ℕ)
put_front ns None = None
put_front ns (Some behind) = Some (ns ++ behind)
