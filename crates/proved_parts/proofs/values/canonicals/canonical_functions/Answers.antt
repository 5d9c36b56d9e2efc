use Rattle.std.proofs.Common.{refl, inr, lit<, lit≤}
use Rattle.wenc_base.specs.Number.{last, more}
use Rattle.proved_parts.proofs.values.canonicals.canonical_functions.Goals as goal

pub returns-clause-padded_lower : goal.returns-clause-padded_lower
returns-clause-padded_lower c = (
  _,
  refl,
  (
    _,
    refl,
    (
      _,
      (lit< tt, inr (tt, more {high = 0} (lit≤ tt) (lit< tt) refl (last (lit< tt)))),
      (_, (lit< tt, inr (tt, last (lit< tt))), refl),
    ),
  ),
)
