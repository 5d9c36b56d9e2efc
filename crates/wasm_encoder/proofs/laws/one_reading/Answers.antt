use Rattle.wenc_builder.specs.laws.Reading.{once, text_is_read, of_items, strict_is_text, strict_fits}
use Rattle.wasm_encoder.proofs.laws.one_reading.Goals as goal

pub returns-clause-once : goal.returns-clause-once
returns-clause-once c = once

pub returns-clause-of_sections : goal.returns-clause-of_sections
returns-clause-of_sections c = text_is_read

pub returns-clause-of_items : goal.returns-clause-of_items
returns-clause-of_items c = of_items

pub returns-clause-strict_is_text : goal.returns-clause-strict_is_text
returns-clause-strict_is_text c = strict_is_text

pub returns-clause-strict_fits : goal.returns-clause-strict_fits
returns-clause-strict_fits c = strict_fits
