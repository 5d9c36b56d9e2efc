use Rattle.wenc_base.specs.laws.Words.{signed_is, signed_only}
use Rattle.wasm_encoder.proofs.laws.signed_text_in_words.Goals as goal

pub returns : goal.returns
returns c = record { is = signed_is; only = signed_only }
