-- Lists of bytes.
use Rattle.std.proofs.Common.{ℕ, zero, suc, List, [], ◌∷◌, ◌++◌, take}
use Rattle.wenc_base.specs.Forms.{AreBytes}

-- one after the other
pub both_below : (xs ys : List ℕ) → AreBytes xs → AreBytes ys → AreBytes (xs ++ ys)
both_below [] ys a b = b
both_below (x ∷ xs) ys a b = (a.0, both_below xs ys a.1 b)

-- the first of them
pub first_below : (n : ℕ) (xs : List ℕ) → AreBytes xs → AreBytes (take n xs)
first_below zero xs a = tt
first_below (suc n) [] a = tt
first_below (suc n) (x ∷ xs) a = (a.0, first_below n xs a.1)
