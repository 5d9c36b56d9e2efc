use Rattle.std.proofs.Common.{ℕ, List, ◌∙◌, subst}
use Rattle.std.specs.Option.{option_copied}
use Rattle.wenc_builder.specs.Prelude.{Enters, component_entry}
use Rattle.wenc_builder.proofs.builder.ComponentBuilder.component.Goals as goal

pub returns-clause-entered : goal.returns-clause-entered
returns-clause-entered g c es h =
    subst (λ (bytes : List ℕ). Enters c.args.self.now c.component_raw.new.self c.component_raw.result
    (component_entry (option_copied c.args.debug_name) bytes)) (c.as_slice.ensures.value ∙ c.in_ok-bytes.ensures.held es h)
    c.component_raw.ensures

pub returns-clause-bytes : goal.returns-clause-bytes
returns-clause-bytes g c done =
    subst (λ (bytes : List ℕ). Enters c.args.self.now c.component_raw.new.self c.component_raw.result
    (component_entry (option_copied c.args.debug_name) bytes)) (c.as_slice.ensures.value ∙ c.in_ok-bytes.ensures.bytes)
    c.component_raw.ensures
