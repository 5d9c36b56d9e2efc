use Rattle.wenc_canon.specs.laws.Canonicals.{an_added_function_is_one_more, an_added_function_is_seen}
use Rattle.wasm_encoder.proofs.laws.an_added_function_is_one_more.Goals as goal

pub returns-clause-one_more : goal.returns-clause-one_more
returns-clause-one_more c = an_added_function_is_one_more

pub returns-clause-not_the_same : goal.returns-clause-not_the_same
returns-clause-not_the_same c = an_added_function_is_seen
