use Rattle.std.proofs.Common.{[], ◌∷◌, refl}
use Rattle.wenc_base.specs.Number.{groups}
use Rattle.wenc_base.specs.reading.Numbers.{read_groups}
use Rattle.proved_parts.proofs.values.numbers.numbers.Goals as goal

pub returns : goal.returns
unfolding groups read_groups
returns c = let law = c.readers_are_exact.ensures.short in record {
  last_of_one = refl;
  first_of_two = refl;
  largest = refl;
  below_zero = refl;
  lowest_of_one = refl;
  highest_of_two = refl;
  three = refl;
  padded = (law (0x82 ∷ 0x80 ∷ 0x80 ∷ 0x80 ∷ 0x00 ∷ [])).given_is_read 2 [] refl;
  too_long = λ n rest r. (let e = (law (0x82 ∷ 0x80 ∷ 0x80 ∷ 0x80 ∷ 0x80 ∷ 0x00 ∷ [])).read_is_given n rest r in absurd cc);
  too_large = λ n rest r. (let e = (law (0xff ∷ 0xff ∷ 0xff ∷ 0xff ∷ 0x1f ∷ [])).read_is_given n rest r in absurd cc);
}
