use Rattle.std.proofs.Common.{refl}
use Rattle.wasm_encoder.proofs.CountedOnce.{never_less, begun_not_less, written_same, given_up_back}
use Rattle.wasm_encoder.proofs.laws.of_builders.counts_never_fall.Goals as goal

pub returns-clause-indexed : goal.returns-clause-indexed
returns-clause-indexed c = λ old new result x space es h e. never_less old new result x space es h e

pub returns-clause-without_index : goal.returns-clause-without_index
returns-clause-without_index c = λ old new result x space es h e. never_less old new result x space es h e

pub returns-clause-begun : goal.returns-clause-begun
returns-clause-begun c = λ old parent d space es h e. begun_not_less old parent d space es h e

pub returns-clause-written : goal.returns-clause-written
returns-clause-written c = λ old new text space e. written_same old new text space e

pub returns-clause-ended : goal.returns-clause-ended
returns-clause-ended c = λ old new space e. rw e refl

pub returns-clause-given_up : goal.returns-clause-given_up
returns-clause-given_up c = λ old parent new space finished same e. given_up_back old parent new space finished same e
