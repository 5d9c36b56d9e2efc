use Rattle.wasm_encoder.proofs.CountedOnce.{answered, raised, alone, next_counted, begun_raised, begun_alone}
use Rattle.wasm_encoder.proofs.laws.of_builders.one_item_counts_once.Goals as goal

pub returns-clause-answered : goal.returns-clause-answered
returns-clause-answered c = λ old new i x space es h e d. answered old new i x space es h e d

pub returns-clause-raised : goal.returns-clause-raised
returns-clause-raised c = λ old new i x space es h e d. raised old new i x space es h e d

pub returns-clause-alone : goal.returns-clause-alone
returns-clause-alone c = λ old new i x space other es h e d apart. alone old new i x space es h e d other apart

pub returns-clause-next : goal.returns-clause-next
returns-clause-next c = λ s es space h. next_counted s es space h

pub returns-clause-begun_raised : goal.returns-clause-begun_raised
returns-clause-begun_raised c = λ old parent id space name text es h e. begun_raised old parent id space name text es h e

pub returns-clause-begun_alone : goal.returns-clause-begun_alone
returns-clause-begun_alone c = λ old parent id space other name text es h e apart. begun_alone old parent id space other name text es h e apart
