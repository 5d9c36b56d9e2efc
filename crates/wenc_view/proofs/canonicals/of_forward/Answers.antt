use Rattle.std.proofs.Common.{refl}
use Rattle.wenc_view.proofs.canonicals.of_forward.Goals as goal

pub returns-in_ok-index-in-46-clause-found : goal.returns-in_ok-index-in-46-clause-found
returns-in_ok-index-in-46-clause-found c = rw (c.in-46.is, c.in_ok-index-in-46.ensures.found) refl

pub returns-in_ok-index-in-47-clause-found : goal.returns-in_ok-index-in-47-clause-found
returns-in_ok-index-in-47-clause-found c = rw (c.in-47.is, c.in_ok-index-in-47.ensures.found) refl

pub returns-in_ok-index-in-64-clause-found : goal.returns-in_ok-index-in-64-clause-found
returns-in_ok-index-in-64-clause-found c = rw (c.in-64.is, c.in_ok-index-in-64.ensures.found) refl

pub returns-in_ok-ty-in-65-clause-found : goal.returns-in_ok-ty-in-65-clause-found
returns-in_ok-ty-in-65-clause-found c = rw (c.in-65.is, c.in_ok-ty-in-65.ensures.found) refl

pub returns-in-66-clause-found : goal.returns-in-66-clause-found
returns-in-66-clause-found c = rw c.in-66.is refl
