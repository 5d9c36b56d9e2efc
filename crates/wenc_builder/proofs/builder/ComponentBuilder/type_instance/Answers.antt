use Rattle.std.proofs.Common.{refl, sym, ◌∙◌}
use Rattle.std.proofs.Math.Logic.{∥∥₁_map}
use Rattle.std.specs.Option.{option_copied}
use Rattle.wenc_base.specs.Prelude.{serves_itself}
use Rattle.wenc_types.specs.Prelude.{InstanceType, instance_has_form, instance_serves, instances_of}
use Rattle.wenc_types.specs.Prelude.{type_lawful}
use Rattle.wenc_builder.specs.Prelude.{TypeItem, kind_id, type_entry}
use Rattle.wenc_builder.specs.declared.builder.kind.Kind.TheVariants as kinds
use Rattle.wenc_sections.specs.declared.space.Space.TheVariants as spaces
use Rattle.wenc_builder.proofs.Entered.{new_item_as, new_item_enters}
use Rattle.wenc_builder.proofs.builder.ComponentBuilder.type_instance.Goals as goal

pub returns-clause-entered : goal.returns-clause-entered
returns-clause-entered g c ds h =
    let t = c.args.ty.now in
    let s = instance_serves t ds h in
    let finished = c.if-not-is_finished.ensures.finished in
    new_item_enters c.args.self.now c.add.new.self c.add.result
    (type_entry (option_copied c.args.debug_name) (InstanceType (instances_of ds))) (kind_id kinds.«Type») spaces.Types
    (option_copied c.args.debug_name)
    (record { section = refl; defined = refl; named = refl }) serves_itself
    (new_item_as c.args.self.now c.add.new.self c.add.result (kind_id kinds.«Type») spaces.Types
    (option_copied c.args.debug_name) s.text s.fits (λ fault own. (let unfinished = own.1 in cc))
    (type_lawful (InstanceType (instances_of ds))).free c.add.ensures)

pub add-requires : goal.add-requires
add-requires g c fits =
    ∥∥₁_map (instance_has_form c.args.ty.now fits (c.is_finished.ensures.declares (sym c.is_finished.ensures.finished ∙ c.if-not-is_finished.false)))
    (λ f. record { value = TypeItem f.value; collects = refl; takes = refl; fits = f.fits; is = f.is })
