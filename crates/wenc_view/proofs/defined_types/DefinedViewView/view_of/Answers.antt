use Rattle.std.proofs.Common.{sym, ◌∙◌, ◌++◌}
use Rattle.std.proofs.lemmas.Result.{err_from_is_err_and}
use Rattle.wenc_base.specs.Prelude.{nowhere}
use Rattle.wenc_parts.specs.Prelude.{primitive_byte, primitive_rows}
use Rattle.wenc_types.specs.Prelude.{Primitive, defined_rows}
use Rattle.wenc_view.specs.Prelude.{primitive_types}
use Rattle.wenc_view.proofs.Tables.{begins, goes_past, bad_first}
use Rattle.wenc_view.specs.DefinedTypes.{defined_lists}
use Rattle.wenc_view.specs.laws.Lists.{if_behind_byte}
use Rattle.wenc_view.proofs.defined_types.DefinedViewView.view_of.Goals as goal

pub returns-in_err-first-clause-found : goal.returns-in_err-first-clause-found
returns-in_err-first-clause-found c =
    let p = err_from_is_err_and c.from_residual.result c.from_residual.ensures.1 in
    rw p.1 (bad_first (primitive_rows Primitive ++ defined_rows (λ t. t)) nowhere c.args.bytes.now c.in_err-first.ensures.found)

pub returns-in-Some-clause-found : goal.returns-in-Some-clause-found
returns-in-Some-clause-found c = begins primitive_byte Primitive primitive_types (defined_rows (λ t. t)) nowhere _ _ _ _ c.in_ok-first.ensures.found (sym c.primitive_of.ensures
    ∙ c.in-Some.is)

pub returns-in-None-clause-found : goal.returns-in-None-clause-found
returns-in-None-clause-found c = rw (goes_past primitive_byte Primitive primitive_types (defined_rows (λ t. t)) nowhere _ _ _ c.in_ok-first.ensures.found
    (sym c.primitive_of.ensures ∙ c.in-None.is)) c.defined.ensures.found

pub returns-in-None-clause-counted : goal.returns-in-None-clause-counted
returns-in-None-clause-counted c = if_behind_byte (λ x. defined_lists x.0) (λ x. x.1.now) _ _ _ c.defined.result c.in_ok-first.ensures.found c.defined.ensures.counted
