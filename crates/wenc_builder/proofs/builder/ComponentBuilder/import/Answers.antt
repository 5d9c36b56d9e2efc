use Rattle.std.proofs.Common.{refl}
use Rattle.wenc_builder.specs.Prelude.{ImportItem, import_entry, kind_id}
use Rattle.std.proofs.Common.{Some}
use Rattle.wenc_parts.specs.Prelude.{extern_name, extern_name_view, type_reference}
use Rattle.wenc_base.specs.Prelude.{two_serve}
use Rattle.wenc_builder.specs.declared.builder.kind.Kind.TheVariants as kinds
use Rattle.wenc_builder.proofs.Entered.{new_item_enters}
use Rattle.wenc_builder.proofs.Texts.{item_piece}
use Rattle.wenc_builder.proofs.builder.ComponentBuilder.import.Goals as goal

pub returns : goal.returns
returns g c =
    new_item_enters c.args.self.now c.add.new.self c.add.result (import_entry (extern_name_view c.args.name) c.args.ty)
    (kind_id kinds.Import) c.from.result (Some _)
    (record { section = refl; defined = rw (c.from.ensures, c.kind.ensures.is) refl; named = rw c.as_str-name.ensures.value refl })
    (two_serve (extern_name (extern_name_view c.args.name)) (type_reference c.args.ty)) c.add.ensures

pub add-requires : goal.add-requires
add-requires g c = rw (c.from.ensures, c.kind.ensures.is)
    (item_piece (ImportItem (record { name = extern_name_view c.args.name; ty = c.args.ty }))
    (two_serve (extern_name (extern_name_view c.args.name)) (type_reference c.args.ty)))
