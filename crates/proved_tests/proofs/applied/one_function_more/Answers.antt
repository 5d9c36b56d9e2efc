use Rattle.wenc_canon.specs.Canonicals.{TaskCancel}
use Rattle.proved_tests.proofs.applied.one_function_more.Goals as goal

pub returns : goal.returns
returns g c = c.an_added_function_is_one_more.ensures.one_more c.args.functions.now _ TaskCancel tt c.in_ok-task_cancel.ensures
