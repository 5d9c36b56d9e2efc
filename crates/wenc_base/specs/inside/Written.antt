-- One value after the other, as far as they are written.
use Rattle.std.specs.List.{flat_map, AllByRecursion}
use Rattle.std.specs.Prelude.{◌≡◌, ℕ, List, ◌++◌}
use Rattle.wenc_base.specs.Fault.{NoCause, member_cause}
use Rattle.wenc_base.specs.Piece.{Form}

-- After the bytes at the start come the texts of these values, which fit and have no cause.
pub record Written {A : Type 0} (form : Form A) (start : List ℕ) (vs : List A)
    (now : List ℕ) : Type 0 where
  pub items : now ≡ start ++ flat_map (λ v. (form v).text) vs
  pub fit : AllByRecursion (λ v. (form v).Fits) vs
  pub no_cause : NoCause (member_cause (λ v. (form v).Cause) vs)
