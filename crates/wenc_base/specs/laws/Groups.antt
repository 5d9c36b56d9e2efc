-- Groups of seven bits, below the largest last one and from it on.
use Rattle.std.proofs.Common.{◌≡◌, ℕ, zero, suc, ◌+◌, ◌*◌, ◌/◌, ◌%◌, ◌<◌, ◌≤◌, [], ◌∷◌, refl}
use Rattle.wenc_base.specs.Number.{groups}
use Rattle.std.proofs.lemmas.Bool.{le-ltb, lt-ltb}

-- what a number is below, that is written with so many bytes before the last
abbrev pub limit : ℕ → ℕ → ℕ
limit top zero = top
limit top (suc room) = 128 * limit top room

pub groups_below : (top room n : ℕ) → n < top → groups top room n ≡ n ∷ []
unfolding groups
groups_below top zero n h = refl
groups_below top (suc room) n h = rw (lt-ltb _ _ h) refl

pub groups_from : (top room n : ℕ) → top ≤ n → groups top (suc room) n ≡ (n % 128 + 128) ∷ groups top room (n / 128)
unfolding groups
groups_from top room n h = rw (le-ltb _ _ h) refl
