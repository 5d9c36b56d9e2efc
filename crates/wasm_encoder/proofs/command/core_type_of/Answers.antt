use Rattle.std.proofs.Common.{rules, []}
use Rattle.std.specs.Option.{option_copied}
use Rattle.wenc_builder.specs.Prelude.{core_type_entry, new_item_in}
use Rattle.wenc_parts.specs.declared.component.ComponentSectionId.TheVariants as ids
use Rattle.wenc_sections.specs.declared.space.Space.TheVariants as spaces
use Rattle.wenc_types.specs.Prelude.{core_type_view}
use Rattle.wenc_builder.specs.laws.Typed.{core_type_is_written}
use Rattle.wasm_encoder.proofs.Typed.{type_accepted, opening_refused, type_refused}
use Rattle.wasm_encoder.proofs.command.core_type_of.Goals as goal

pub returns-in-Ok-tree : goal.returns-in-Ok-tree
returns-in-Ok-tree g c =
    let n = option_copied c.args.debug_name in
    let t = core_type_view c.args.ty.now in
    let e = c.in-Ok.ensures.begun in
    type_accepted c.args.builder.now _ _ _ c.in-Ok.index (core_type_entry n t) (new_item_in ids.CoreType spaces.CoreTypes n [])
    (core_type_is_written n t) e.begun e.indexed e.free c.in-Ok-tree.ensures.ok c.in-Ok-tree.ensures.fits c.in-Ok-tree.ensures.free
    (search rules)

pub returns-in-Err-tree : goal.returns-in-Err-tree
returns-in-Err-tree g c =
    let n = option_copied c.args.debug_name in
    let t = core_type_view c.args.ty.now in
    type_refused c.args.builder.now _ _ _ c.in-Err-tree.fault (core_type_entry n t) (new_item_in ids.CoreType spaces.CoreTypes n []) tt
    (core_type_is_written n t) c.in-Ok.ensures.begun.begun c.in-Err-tree.ensures.warranted c.in-Err-tree.ensures.err (search rules)

pub returns-in-Err : goal.returns-in-Err
returns-in-Err g c =
    let n = option_copied c.args.debug_name in
    let t = core_type_view c.args.ty.now in
    opening_refused c.args.builder.now _ c.in-Err.fault (core_type_entry n t) (new_item_in ids.CoreType spaces.CoreTypes n [])
    (core_type_is_written n t) (search rules) c.in-Err.ensures.begun.warranted
