use Rattle.wenc_base.specs.laws.Words.{unsigned_is, unsigned_only}
use Rattle.wasm_encoder.proofs.laws.unsigned_text_in_words.Goals as goal

pub returns : goal.returns
returns c = record { is = unsigned_is; only = unsigned_only }
