use Rattle.std.proofs.Common.{ℕ, List}
use Rattle.wenc_base.specs.Prelude.{Piece, Serves, appends_as, fits_as, in_order, list_in_order}
use Rattle.wenc_base.specs.Prelude.{list_is_list, order_serves, serves_itself, serves_then, u32}
use Rattle.wenc_base.specs.Prelude.{◌▸◌}
use Rattle.wenc_canon.specs.Prelude.{Lift, canonical, canonical_option, lift_serves}
use Rattle.wenc_canon.specs.declared.canonicals.CanonicalOption.{CanonicalOption}
use Rattle.wenc_sections.proofs.canon_tree.lifted.Goals as goal

abbrev lead : ℕ → Piece
lead function = 0x00 ▸ 0x00 ▸ u32 function

serves : (function type_index : ℕ) (os : List CanonicalOption)
    → Serves (in_order (lead function) (in_order (list_in_order canonical_option os) (u32 type_index)))
    (canonical (Lift function os type_index))
serves function type_index os =
    serves_then (order_serves {p = lead function} {p' = lead function} serves_itself
    (order_serves {q = u32 type_index} {q' = u32 type_index} (list_is_list canonical_option os) serves_itself))
    (lift_serves function type_index os)

pub returns-clause-appended : goal.returns-clause-appended
returns-clause-appended g c = rw (← c.as_slice.ensures.value)
    (appends_as _ _ _ c.encode.result (serves c.args.core_func.now c.args.ty c.as_slice.result.now) c.encode.ensures.appended)

pub returns-clause-fits : goal.returns-clause-fits
returns-clause-fits g c = rw (← c.as_slice.ensures.value)
    (fits_as c.encode.result (serves c.args.core_func.now c.args.ty c.as_slice.result.now) c.encode.ensures.fits)
