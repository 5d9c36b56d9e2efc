use Rattle.std.proofs.Common.{[], ◌∷◌, refl}
use Rattle.wenc_base.specs.Number.{groups}
use Rattle.wenc_canon.specs.Canonicals.{OfBuiltin, TaskCancel}
use Rattle.proved_parts.proofs.holders.function_kept.Goals as goal

pub returns : goal.returns
unfolding groups
returns g c = rw (c.over.ensures, c.in_ok-from_array.ensures.items) (record {
  settled = ∣ record {
    members = (0x05 ∷ []) ∷ [];
    contained = record { finished = refl; count = refl; body = refl; fit = (tt, tt) };
    each = (record { value = OfBuiltin TaskCancel tt; fits = tt; is = refl }, tt);
  } ∣₁;
  opening = tt;
})
