use Rattle.wenc_base.specs.laws.Lawful.{form_laws}
use Rattle.wasm_encoder.proofs.laws.values_are_lawful.Goals as goal

pub returns : goal.returns
returns g c = form_laws g.T.Delimited.reads_back.readable.1
