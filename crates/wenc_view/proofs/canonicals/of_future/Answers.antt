use Rattle.std.proofs.Common.{refl}
use Rattle.wenc_view.proofs.canonicals.of_future.Goals as goal

pub returns-in_ok-index-in-21-clause-found : goal.returns-in_ok-index-in-21-clause-found
returns-in_ok-index-in-21-clause-found c = rw (c.in-21.is, c.in_ok-index-in-21.ensures.found) refl

pub returns-in_ok-ty-in-22-clause-found : goal.returns-in_ok-ty-in-22-clause-found
returns-in_ok-ty-in-22-clause-found c = rw (c.in-22.is, c.in_ok-ty-in-22.ensures.found) refl

pub returns-in_ok-ty-in-23-clause-found : goal.returns-in_ok-ty-in-23-clause-found
returns-in_ok-ty-in-23-clause-found c = rw (c.in-23.is, c.in_ok-ty-in-23.ensures.found) refl

pub returns-in_ok-ty-in-24-clause-found : goal.returns-in_ok-ty-in-24-clause-found
returns-in_ok-ty-in-24-clause-found c = rw (c.in-24.is, c.in_ok-ty-in-24.ensures.found) refl

pub returns-in_ok-ty-in-25-clause-found : goal.returns-in_ok-ty-in-25-clause-found
returns-in_ok-ty-in-25-clause-found c = rw (c.in-25.is, c.in_ok-ty-in-25.ensures.found) refl

pub returns-in_ok-index-in-26-clause-found : goal.returns-in_ok-index-in-26-clause-found
returns-in_ok-index-in-26-clause-found c = rw (c.in-26.is, c.in_ok-index-in-26.ensures.found) refl

pub returns-in_ok-index-in-27-clause-found : goal.returns-in_ok-index-in-27-clause-found
returns-in_ok-index-in-27-clause-found c = rw (c.in-27.is, c.in_ok-index-in-27.ensures.found) refl
