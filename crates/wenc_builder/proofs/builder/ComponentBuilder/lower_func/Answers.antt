use Rattle.std.proofs.Common.{refl}
use Rattle.std.specs.Option.{option_copied}
use Rattle.wenc_canon.specs.Prelude.{Lower, lower_serves}
use Rattle.wenc_builder.specs.Prelude.{CanonItem}
use Rattle.wenc_sections.specs.declared.space.Space.TheVariants as spaces
use Rattle.wenc_builder.proofs.Listed.{options_enter}
use Rattle.wenc_builder.proofs.Texts.{item_piece}
use Rattle.wenc_builder.proofs.builder.ComponentBuilder.lower_func.Goals as goal

pub returns : goal.returns
returns g c =
    options_enter g.I.Iterator.next_gives c.args.options c.args.self.now c.add_listed.new.self c.add_listed.result
    (λ os. Lower c.args.func_index os) spaces.CoreFuncs (option_copied c.args.debug_name)
    _ (λ os. refl) (lower_serves c.args.func_index) c.add_listed.ensures

pub add_listed-requires-clause-whole : goal.add_listed-requires-clause-whole
add_listed-requires-clause-whole g c os = item_piece (CanonItem (Lower c.args.func_index os)) (lower_serves c.args.func_index os)
