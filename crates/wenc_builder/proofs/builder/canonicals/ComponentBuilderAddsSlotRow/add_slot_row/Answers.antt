use Rattle.std.proofs.Common.{[], ◌∷◌, Some, None, refl, ap, sym, ◌∙◌}
use Rattle.wenc_canon.specs.Prelude.{CoreType, Index, builtin_by, builtin_serves, builtins}
use Rattle.wenc_canon.specs.Prelude.{two_fields}
use Rattle.wenc_canon.specs.inside.Rows.{first_with}
use Rattle.wenc_canon.specs.laws.Rows.{slot_named}
use Rattle.wenc_builder.specs.Prelude.{CanonItem, canonical_tree_entry, kind_id}
use Rattle.wenc_builder.specs.declared.builder.kind.Kind.TheVariants as kinds
use Rattle.wenc_sections.specs.declared.space.Space.TheVariants as spaces
use Rattle.wenc_builder.proofs.Entered.{new_item_enters}
use Rattle.wenc_builder.proofs.Texts.{item_piece}
use Rattle.wenc_builder.proofs.builder.canonicals.ComponentBuilderAddsSlotRow.add_slot_row.Goals as goal

pub add-requires : goal.add-requires
add-requires g c =
    item_piece (CanonItem (builtin_by c.args.row.1 (CoreType ∷ Index ∷ []) (c.args.ty, c.args.slot)))
    (builtin_serves c.args.row.0.now c.args.row.1 (CoreType ∷ Index ∷ []) (c.args.ty, c.args.slot) (two_fields CoreType Index c.args.ty c.args.slot) c.requires)

pub returns : goal.returns
returns g c =
    new_item_enters c.args.self.now c.add.new.self c.add.result
    (canonical_tree_entry None (builtin_by c.args.row.1 (CoreType ∷ Index ∷ []) (c.args.ty, c.args.slot)))
    (kind_id kinds.CanonicalFunction) spaces.CoreFuncs (Some c.as_str.result.now)
    (record {
      section = refl;
      defined = refl;
      named =
          ap Some (slot_named (first_with c.args.row.1 builtins) c.args.row.0.now c.args.row.1 c.args.ty c.args.slot c.requires
          ∙ sym (c.as_str.ensures.value ∙ c.in_ok-name.ensures.ok));
    })
    (builtin_serves c.args.row.0.now c.args.row.1 (CoreType ∷ Index ∷ []) (c.args.ty, c.args.slot)
    (two_fields CoreType Index c.args.ty c.args.slot) c.requires) c.add.ensures
