use Rattle.std.proofs.Common.{ℕ, List}
use Rattle.wenc_base.specs.Prelude.{Piece, Serves, appends_as, fits_as, in_order, list_in_order}
use Rattle.wenc_base.specs.Prelude.{list_is_list, order_serves, serves_itself, serves_then, ◌▸◌}
use Rattle.wenc_canon.specs.Prelude.{Field, Values, canonical_option, fields, row_then}
use Rattle.wenc_canon.specs.declared.canonicals.CanonicalOption.{CanonicalOption}
use Rattle.wenc_canon.specs.laws.Rows.{row_serves}
use Rattle.wenc_sections.proofs.canon_tree.with_options.Goals as goal

serves : {p : Piece} (opcode : ℕ) (fs : List Field) (vs : Values fs) (os : List CanonicalOption) → Serves p (fields fs vs)
    → Serves (in_order (opcode ▸ p) (list_in_order canonical_option os)) (row_then opcode fs vs os)
serves {p} opcode fs vs os s = serves_then (order_serves {p = opcode ▸ p} {p' = opcode ▸ p} serves_itself
    (list_is_list canonical_option os)) (row_serves opcode fs vs os s)

pub returns-clause-appended : goal.returns-clause-appended
returns-clause-appended g c =
    rw (← c.as_slice.ensures.value) (appends_as _ _ _ c.encode.result
    (serves c.args.opcode g.F.Fields.kinds (g.F.Fields.values c.args.fields.now) c.as_slice.result.now
    (g.met.F.Fields.written c.args.fields.now)) c.encode.ensures.appended)

pub returns-clause-fits : goal.returns-clause-fits
returns-clause-fits g c =
    rw (← c.as_slice.ensures.value) (fits_as c.encode.result
    (serves c.args.opcode g.F.Fields.kinds (g.F.Fields.values c.args.fields.now) c.as_slice.result.now
    (g.met.F.Fields.written c.args.fields.now)) c.encode.ensures.fits)
