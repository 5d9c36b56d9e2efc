use Rattle.wasm_encoder.specs.AllForms.{Imports}
use Rattle.wenc_base.specs.Piece.{Strict, Wide}
use Rattle.proved_tests.proofs.applied.imports_are_told.Goals as goal

pub returns-clause-told : goal.returns-clause-told
returns-clause-told c a b r s = c.delimited.ensures Imports a b r s

pub returns-clause-once : goal.returns-clause-once
returns-clause-once c a b bytes r s = c.reads_once.ensures.once Imports a b Strict Wide bytes r s

pub returns-clause-read : goal.returns-clause-read
returns-clause-read c a rest fits = c.reads_once.ensures.text_is_read Imports a Strict rest fits
