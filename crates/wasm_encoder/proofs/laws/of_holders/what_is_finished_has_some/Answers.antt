use Rattle.wasm_encoder.specs.AllForms.{form_of}
use Rattle.wenc_base.specs.laws.Members.{contains_values}
use Rattle.wasm_encoder.proofs.laws.of_holders.what_is_finished_has_some.Goals as goal

pub returns : goal.returns
returns c = λ f section some. contains_values (form_of f) section some
