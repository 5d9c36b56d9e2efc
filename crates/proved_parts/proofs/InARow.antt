-- Values that are appended one by one.
use Rattle.std.proofs.Common.{◌≡◌, ◌++◌, ◌∷◌, [], List, ap, refl}

pub four_in_a_row : {D : Type 0} (ds : List D) (a b c d : D)
    → (((ds ++ a ∷ []) ++ b ∷ []) ++ c ∷ []) ++ d ∷ [] ≡ ds ++ a ∷ b ∷ c ∷ d ∷ []
four_in_a_row [] a b c d = refl
four_in_a_row (x ∷ ds) a b c d = ap (λ ys. x ∷ ys) (four_in_a_row ds a b c d)
