use Rattle.std.proofs.Common.{refl}
use Rattle.wenc_builder.specs.Prelude.{ExportItem, export_entry, kind_id}
use Rattle.std.proofs.Common.{Some}
use Rattle.wenc_parts.specs.Prelude.{extern_name_view}
use Rattle.wenc_builder.proofs.Texts.{export_serves}
use Rattle.wenc_builder.specs.declared.builder.kind.Kind.TheVariants as kinds
use Rattle.wenc_builder.proofs.Entered.{new_item_enters}
use Rattle.wenc_builder.proofs.Texts.{item_piece}
use Rattle.wenc_builder.proofs.builder.ComponentBuilder.export.Goals as goal

pub returns : goal.returns
returns g c =
    new_item_enters c.args.self.now c.add.new.self c.add.result
    (export_entry (extern_name_view c.args.name) c.args.kind c.args.index c.args.ty) (kind_id kinds.Export) c.from.result (Some _)
    (record { section = refl; defined = rw c.from.ensures refl; named = rw c.as_str-name.ensures.value refl })
    (export_serves (extern_name_view c.args.name) c.args.kind c.args.index c.args.ty) c.add.ensures

pub add-requires : goal.add-requires
add-requires g c =
    rw c.from.ensures
    (item_piece (ExportItem (record { name = extern_name_view c.args.name; kind = c.args.kind; index = c.args.index; ty = c.args.ty }))
    (export_serves (extern_name_view c.args.name) c.args.kind c.args.index c.args.ty))
