use Rattle.wenc_builder.specs.Prelude.{items, of_bytes}
use Rattle.wasm_encoder.proofs.laws.of_builders.held_items_tell_bytes.Goals as goal

pub returns : goal.returns
returns c = λ one other es fs h k none_raw no_other. of_bytes (items fs) (items es) no_other k.fits none_raw h.fits
