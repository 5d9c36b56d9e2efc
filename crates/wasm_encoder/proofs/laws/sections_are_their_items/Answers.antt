use Rattle.wenc_base.specs.laws.Holders.{section_text_of}
use Rattle.wenc_base.proofs.Produced.{section_of_fields}
use Rattle.wenc_types.specs.laws.Declarations.{module_serves, component_serves, instance_serves}
use Rattle.wasm_encoder.specs.AllForms.{form_of}
use Rattle.wasm_encoder.proofs.laws.sections_are_their_items.Goals as goal

pub returns-clause-sections : goal.returns-clause-sections
returns-clause-sections c = λ f section items contains. section_text_of (form_of f) section items contains

pub returns-clause-producers : goal.returns-clause-producers
returns-clause-producers c = λ section fields contains. section_of_fields section fields contains

pub returns-clause-module_types : goal.returns-clause-module_types
returns-clause-module_types c = λ t ds declares. (module_serves t ds declares).text

pub returns-clause-component_types : goal.returns-clause-component_types
returns-clause-component_types c = λ t ds declares. (component_serves t ds declares).text

pub returns-clause-instance_types : goal.returns-clause-instance_types
returns-clause-instance_types c = λ t ds declares. (instance_serves t ds declares).text
