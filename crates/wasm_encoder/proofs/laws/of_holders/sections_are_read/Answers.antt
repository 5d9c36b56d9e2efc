use Rattle.wasm_encoder.proofs.SectionsFit.{section_fits, section_read}
use Rattle.wasm_encoder.proofs.laws.of_holders.sections_are_read.Goals as goal

pub returns-clause-fits : goal.returns-clause-fits
returns-clause-fits c = λ f section values contains fits. section_fits f section values contains fits

pub returns-clause-read : goal.returns-clause-read
returns-clause-read c = λ f section values contains fits mode rest. section_read f section values contains fits mode rest
