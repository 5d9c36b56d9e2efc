use Rattle.wenc_base.specs.Prelude.{contains_next, producers_field, verbatim}
use Rattle.wenc_types.specs.Prelude.{def_type}
use Rattle.wasm_encoder.specs.Prelude.{form_of}
use Rattle.wasm_encoder.proofs.laws.what_is_added_is_contained.Goals as goal

pub returns-clause-value : goal.returns-clause-value
returns-clause-value c = λ f v members old new added contains. contains_next (form_of f) old new v members added.state added.fits contains

pub returns-clause-field : goal.returns-clause-field
returns-clause-field c = λ f name tools fields old new added contains. contains_next producers_field old new f fields added.state added.fits contains

pub returns-clause-whole_type : goal.returns-clause-whole_type
returns-clause-whole_type c = λ t written types old new added contains. contains_next def_type old new t types added.state added.fits contains

pub returns-clause-text : goal.returns-clause-text
returns-clause-text c = λ text members old new added contains. contains_next verbatim old new text members added.state added.fits contains
