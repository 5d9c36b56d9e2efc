use Rattle.std.proofs.Common.{refl}
use Rattle.wenc_view.proofs.canonicals.of_thread.Goals as goal

pub returns-in-38-clause-found : goal.returns-in-38-clause-found
returns-in-38-clause-found c = rw c.in-38.is refl

pub returns-in_ok-ty-in-39-clause-found : goal.returns-in_ok-ty-in-39-clause-found
returns-in_ok-ty-in-39-clause-found c = rw (c.in-39.is, c.in_ok-ty-in-39.ensures.found) refl

pub returns-in-40-clause-found : goal.returns-in-40-clause-found
returns-in-40-clause-found c = rw c.in-40.is refl

pub returns-in_ok-rest-in-41-clause-found : goal.returns-in_ok-rest-in-41-clause-found
returns-in_ok-rest-in-41-clause-found c = rw (c.in-41.is, c.in_ok-rest-in-41.ensures.found) refl

pub returns-in_ok-rest-in-42-clause-found : goal.returns-in_ok-rest-in-42-clause-found
returns-in_ok-rest-in-42-clause-found c = rw (c.in-42.is, c.in_ok-rest-in-42.ensures.found) refl

pub returns-in_ok-rest-in-43-clause-found : goal.returns-in_ok-rest-in-43-clause-found
returns-in_ok-rest-in-43-clause-found c = rw (c.in-43.is, c.in_ok-rest-in-43.ensures.found) refl

pub returns-in_ok-rest-in-44-clause-found : goal.returns-in_ok-rest-in-44-clause-found
returns-in_ok-rest-in-44-clause-found c = rw (c.in-44.is, c.in_ok-rest-in-44.ensures.found) refl

pub returns-in_ok-rest-in-45-clause-found : goal.returns-in_ok-rest-in-45-clause-found
returns-in_ok-rest-in-45-clause-found c = rw (c.in-45.is, c.in_ok-rest-in-45.ensures.found) refl
