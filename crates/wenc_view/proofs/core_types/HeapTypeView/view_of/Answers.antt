use Rattle.std.proofs.Common.{[], sym, refl, ◌∙◌}
use Rattle.std.proofs.lemmas.Result.{err_from_is_err_and}
use Rattle.wenc_base.specs.Prelude.{Bad, abstract_byte, abstract_rows, abstract_types, give}
use Rattle.wenc_base.specs.Prelude.{read_index, ◌>>=◌}
use Rattle.wenc_base.specs.declared.types.HeapType.TheVariants.{Abstract, Concrete}
use Rattle.wenc_view.proofs.Tables.{begins, falls_through}
use Rattle.wenc_read.specs.Prelude.{fails_on}
use Rattle.wenc_read.specs.laws.Tables.{fails_first}
use Rattle.wenc_view.proofs.core_types.HeapTypeView.view_of.Goals as goal

pub returns-in_err-first-clause-found : goal.returns-in_err-first-clause-found
returns-in_err-first-clause-found c =
    let p = err_from_is_err_and c.from_residual.result c.from_residual.ensures.1 in
    rw p.1 (fails_first (abstract_rows Abstract) (read_index >>= λ n. give (Concrete n)) c.args.bytes.now
    c.in_err-first.ensures.found)

pub returns-in-Some-clause-found : goal.returns-in-Some-clause-found
returns-in-Some-clause-found c = begins abstract_byte Abstract abstract_types [] (read_index >>= λ n. give (Concrete n)) _ _ _ _ c.in_ok-first.ensures.found
    (sym c.abstract_of.ensures ∙ c.in-Some.is)

pub returns-in-Err-clause-found : goal.returns-in-Err-clause-found
returns-in-Err-clause-found c =
    rw (falls_through abstract_byte Abstract abstract_types (read_index >>= λ n. give (Concrete n)) _ _ _ c.in_ok-first.ensures.found
    (sym c.abstract_of.ensures ∙ c.in-None.is)) (fails_on Bad (read_index c.args.bytes.now)
    (λ n. give (Concrete n)) c.in-Err.ensures.found)

pub returns-in-Ok-clause-found : goal.returns-in-Ok-clause-found
returns-in-Ok-clause-found c = rw (
  falls_through abstract_byte Abstract abstract_types (read_index >>= λ n. give (Concrete n)) _ _ _ c.in_ok-first.ensures.found
      (sym c.abstract_of.ensures ∙ c.in-None.is),
  c.in-Ok.ensures.found,
) refl
