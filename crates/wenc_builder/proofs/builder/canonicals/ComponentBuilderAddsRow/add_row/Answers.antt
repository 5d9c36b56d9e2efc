use Rattle.std.proofs.Common.{Some, None, refl, ap}
use Rattle.wenc_canon.specs.Prelude.{Values, as_values, builtin_by, builtin_serves, row_with}
use Rattle.wenc_builder.specs.Prelude.{CanonItem, canonical_tree_entry, kind_id}
use Rattle.wenc_builder.specs.declared.builder.kind.Kind.TheVariants as kinds
use Rattle.wenc_sections.specs.declared.space.Space.TheVariants as spaces
use Rattle.wenc_builder.proofs.Entered.{new_item_enters}
use Rattle.wenc_builder.proofs.Texts.{item_piece}
use Rattle.wenc_builder.proofs.builder.canonicals.ComponentBuilderAddsRow.add_row.Goals as goal

pub add-requires : goal.add-requires
add-requires g c =
    let values : Values g.F.Fields.kinds = g.F.Fields.values c.args.fields.now in
    item_piece (CanonItem (builtin_by c.args.row.1 g.F.Fields.kinds values))
    (builtin_serves c.args.row.0.now c.args.row.1 g.F.Fields.kinds values (g.met.F.Fields.written c.args.fields.now) c.requires.row)

pub returns : goal.returns
returns g c =
    let values : Values g.F.Fields.kinds = g.F.Fields.values c.args.fields.now in
    new_item_enters c.args.self.now c.add.new.self c.add.result
    (canonical_tree_entry None (builtin_by c.args.row.1 g.F.Fields.kinds values)) (kind_id kinds.CanonicalFunction) spaces.CoreFuncs
    (Some c.args.row.0.now)
    (record { section = refl; defined = refl; named = ap Some (c.requires.name (as_values g.F.Fields.kinds (row_with c.args.row.1).fields values)) })
    (builtin_serves c.args.row.0.now c.args.row.1 g.F.Fields.kinds values (g.met.F.Fields.written c.args.fields.now) c.requires.row) c.add.ensures
