use Rattle.std.proofs.Common.{refl}
use Rattle.wenc_view.proofs.canonicals.of_error_context.Goals as goal

pub returns-in_ok-options-in-28-clause-found : goal.returns-in_ok-options-in-28-clause-found
returns-in_ok-options-in-28-clause-found c = rw (c.in-28.is, c.in_ok-options-in-28.ensures.found) refl

pub returns-in_ok-options-in-29-clause-found : goal.returns-in_ok-options-in-29-clause-found
returns-in_ok-options-in-29-clause-found c = rw (c.in-29.is, c.in_ok-options-in-29.ensures.found) refl

pub returns-in-30-clause-found : goal.returns-in-30-clause-found
returns-in-30-clause-found c = rw c.in-30.is refl

pub returns-in-31-clause-found : goal.returns-in-31-clause-found
returns-in-31-clause-found c = rw c.in-31.is refl

pub returns-in_ok-memory-in-32-clause-found : goal.returns-in_ok-memory-in-32-clause-found
returns-in_ok-memory-in-32-clause-found c = rw (c.in-32.is, c.in_ok-memory-in-32.ensures.found) refl

pub returns-in_ok-memory-in-33-clause-found : goal.returns-in_ok-memory-in-33-clause-found
returns-in_ok-memory-in-33-clause-found c = rw (c.in-33.is, c.in_ok-memory-in-33.ensures.found) refl

pub returns-in-34-clause-found : goal.returns-in-34-clause-found
returns-in-34-clause-found c = rw c.in-34.is refl

pub returns-in-35-clause-found : goal.returns-in-35-clause-found
returns-in-35-clause-found c = rw c.in-35.is refl

pub returns-in-36-clause-found : goal.returns-in-36-clause-found
returns-in-36-clause-found c = rw c.in-36.is refl

pub returns-in-37-clause-found : goal.returns-in-37-clause-found
returns-in-37-clause-found c = rw c.in-37.is refl
