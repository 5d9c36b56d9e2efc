use Rattle.std.proofs.Common.{refl}
use Rattle.std.specs.Option.{option_copied}
use Rattle.wenc_canon.specs.Prelude.{Lift, lift_serves}
use Rattle.wenc_builder.specs.Prelude.{CanonItem}
use Rattle.wenc_sections.specs.declared.space.Space.TheVariants as spaces
use Rattle.wenc_builder.proofs.Listed.{options_enter}
use Rattle.wenc_builder.proofs.Texts.{item_piece}
use Rattle.wenc_builder.proofs.builder.ComponentBuilder.lift_func.Goals as goal

pub returns : goal.returns
returns g c =
    options_enter g.I.Iterator.next_gives c.args.options c.args.self.now c.add_listed.new.self c.add_listed.result
    (λ os. Lift c.args.core_func_index os c.args.type_index) spaces.Funcs (option_copied c.args.debug_name)
    _ (λ os. refl) (lift_serves c.args.core_func_index c.args.type_index) c.add_listed.ensures

pub add_listed-requires-clause-whole : goal.add_listed-requires-clause-whole
add_listed-requires-clause-whole g c os =
    item_piece (CanonItem (Lift c.args.core_func_index os c.args.type_index)) (lift_serves c.args.core_func_index c.args.type_index os)
