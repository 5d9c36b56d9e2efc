use Rattle.wenc_base.specs.Prelude.{appends_as, params_of, results_of}
use Rattle.wenc_base.proofs.Composites.{function_serves}
use Rattle.wenc_base.proofs.types.composite.FuncTypeEncode.encode.Goals as goal

pub returns-clause-appended : goal.returns-clause-appended
returns-clause-appended g c =
    appends_as _ _ _ _ (function_serves (params_of c.args.self.now) (results_of c.args.self.now))
    (rw (c.params.ensures, c.results.ensures) at c.encode.ensures.appended)
