use Rattle.std.proofs.Common.{ℕ, List, [], ◌∷◌}
use Rattle.wenc_base.specs.Prelude.{Piece, Serves, appends_as, fits_as, in_order, list}
use Rattle.wenc_base.specs.Prelude.{list_in_order, list_is_list, order_serves, serves_itself}
use Rattle.wenc_base.specs.Prelude.{serves_then, u32, ◌▸◌}
use Rattle.wenc_canon.specs.Prelude.{Lower, canonical, canonical_option}
use Rattle.wenc_canon.specs.declared.canonicals.CanonicalOption.{CanonicalOption}
use Rattle.wenc_canon.specs.laws.Rows.{front_serves}
use Rattle.wenc_sections.proofs.canon_tree.lowered.Goals as goal

abbrev lead : ℕ → Piece
lead function = 0x01 ▸ 0x00 ▸ u32 function

serves : (function : ℕ) (os : List CanonicalOption) → Serves (in_order (lead function) (list_in_order canonical_option os)) (canonical (Lower function os))
serves function os =
    serves_then (order_serves {p = lead function} {p' = lead function} serves_itself (list_is_list canonical_option os))
    (front_serves (0x01 ∷ 0x00 ∷ []) (u32 function) (list canonical_option os))

pub returns-clause-appended : goal.returns-clause-appended
returns-clause-appended g c = rw (← c.as_slice.ensures.value)
    (appends_as _ _ _ c.encode.result (serves c.args.func.now c.as_slice.result.now) c.encode.ensures.appended)

pub returns-clause-fits : goal.returns-clause-fits
returns-clause-fits g c = rw (← c.as_slice.ensures.value) (fits_as c.encode.result (serves c.args.func.now c.as_slice.result.now) c.encode.ensures.fits)
