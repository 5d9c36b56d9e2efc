use Rattle.std.proofs.Common.{refl}
use Rattle.std.specs.Option.{option_copied}
use Rattle.wenc_base.specs.Prelude.{option, u32, val_type}
use Rattle.wenc_types.specs.Prelude.{ResourceType}
use Rattle.wenc_types.proofs.Serving.{pair_serves}
use Rattle.wenc_builder.specs.Prelude.{TypeItem, kind_id, type_entry}
use Rattle.wenc_builder.specs.declared.builder.kind.Kind.TheVariants as kinds
use Rattle.wenc_sections.specs.declared.space.Space.TheVariants as spaces
use Rattle.wenc_builder.proofs.Entered.{new_item_enters}
use Rattle.wenc_builder.proofs.Texts.{item_piece}
use Rattle.wenc_builder.proofs.builder.ComponentBuilder.type_resource.Goals as goal

pub returns : goal.returns
returns g c =
    new_item_enters c.args.self.now c.add.new.self c.add.result
    (type_entry (option_copied c.args.debug_name) (ResourceType c.args.rep c.args.dtor))
    (kind_id kinds.«Type») spaces.Types (option_copied c.args.debug_name)
    (record { section = refl; defined = refl; named = refl })
    (pair_serves 0x3f (val_type c.args.rep) (option u32 c.args.dtor)) c.add.ensures

pub add-requires : goal.add-requires
add-requires g c = item_piece (TypeItem (ResourceType c.args.rep c.args.dtor))
    (pair_serves 0x3f (val_type c.args.rep) (option u32 c.args.dtor))
