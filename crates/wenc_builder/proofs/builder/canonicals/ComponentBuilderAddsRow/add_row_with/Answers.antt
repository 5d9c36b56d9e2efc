use Rattle.std.proofs.Common.{Some, None, refl, ap}
use Rattle.wenc_base.specs.Prelude.{listed, nothing, ◌▸◌}
use Rattle.wenc_canon.specs.Prelude.{Values, and_options, as_values, builtin_with}
use Rattle.wenc_canon.specs.Prelude.{builtin_with_serves, canonical_option, row_with, values_then}
use Rattle.wenc_builder.specs.Prelude.{CanonItem, canonical_tree_entry, kind_id}
use Rattle.wenc_builder.specs.declared.builder.kind.Kind.TheVariants as kinds
use Rattle.wenc_sections.specs.declared.space.Space.TheVariants as spaces
use Rattle.wenc_builder.proofs.Listed.{listed_enters}
use Rattle.wenc_builder.proofs.Texts.{item_piece}
use Rattle.wenc_builder.proofs.builder.canonicals.ComponentBuilderAddsRow.add_row_with.Goals as goal

pub add_listed-requires-clause-whole : goal.add_listed-requires-clause-whole
add_listed-requires-clause-whole g c os =
    let values : Values g.F.Fields.kinds = g.F.Fields.values c.args.fields.now in
    item_piece (CanonItem (builtin_with c.args.row.1 g.F.Fields.kinds values os))
    (builtin_with_serves c.args.row.0.now c.args.row.1 g.F.Fields.kinds values
    (g.met.F.Fields.written c.args.fields.now) c.requires.row os)

pub returns : goal.returns
returns g c =
    let values : Values g.F.Fields.kinds = g.F.Fields.values c.args.fields.now in
    listed_enters g.I.Iterator.next_gives c.args.options c.args.self.now c.add_listed.new.self c.add_listed.result
    (λ os. canonical_tree_entry None (builtin_with c.args.row.1 g.F.Fields.kinds values os))
    (kind_id kinds.CanonicalFunction) spaces.CoreFuncs (Some c.args.row.0.now)
    (listed (c.args.row.1 ▸ g.F.Encode.piece c.args.fields.now) canonical_option nothing)
    (λ os. record {
      section = refl;
      defined = refl;
      named =
          ap Some (c.requires.name (as_values (and_options g.F.Fields.kinds) (row_with c.args.row.1).fields
          (values_then g.F.Fields.kinds values os)));
    })
    (builtin_with_serves c.args.row.0.now c.args.row.1 g.F.Fields.kinds values (g.met.F.Fields.written c.args.fields.now) c.requires.row) c.add_listed.ensures
