use Rattle.wasm_encoder.proofs.AllLawful.{laws_of}
use Rattle.wasm_encoder.proofs.laws.reads_once.Goals as goal

pub returns-clause-once : goal.returns-clause-once
returns-clause-once c = λ f. (laws_of f).reads_once

pub returns-clause-text_is_read : goal.returns-clause-text_is_read
returns-clause-text_is_read c = λ f v mode. (laws_of f).text_is_read mode v

pub returns-clause-strict_is_text : goal.returns-clause-strict_is_text
returns-clause-strict_is_text c = λ f v bytes rest r. ((laws_of f).strict_is_text v bytes rest r).1

pub returns-clause-strict_fits : goal.returns-clause-strict_fits
returns-clause-strict_fits c = λ f v bytes rest r. ((laws_of f).strict_is_text v bytes rest r).0

pub returns-clause-strict_is_wide : goal.returns-clause-strict_is_wide
returns-clause-strict_is_wide c = λ f. (laws_of f).wide_reads_strict

pub returns-clause-fits_is_free : goal.returns-clause-fits_is_free
returns-clause-fits_is_free c = λ f. (laws_of f).fits_is_free

pub returns-clause-never_unfinished : goal.returns-clause-never_unfinished
returns-clause-never_unfinished c = λ f. (laws_of f).never_unfinished
