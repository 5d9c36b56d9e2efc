-- The parent that an encoder borrows.
use Rattle.std.specs.Prelude.{◌≡◌, Result}
use Rattle.std.specs.Borrow.{Fml, RattleType, MutBor, RestsIfErr}

-- If a call returns no encoder, which would borrow the parent, the parent is unchanged.
abbrev pub unchanged_on_err : (R : RattleType) → MutBor R.Denot → {E X : Type 0}
    → (E → MutBor R.Denot) → Result E X → Fml
unchanged_on_err R parent borrowed result =
    RestsIfErr R parent (λ e. (borrowed e).ghost_name) result (λ last. last ≡ parent.now)
