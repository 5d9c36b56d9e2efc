use Rattle.std.proofs.Common.{refl}
use Rattle.wenc_view.proofs.canonicals.of_stream.Goals as goal

pub returns-in_ok-index-in-14-clause-found : goal.returns-in_ok-index-in-14-clause-found
returns-in_ok-index-in-14-clause-found c = rw (c.in-14.is, c.in_ok-index-in-14.ensures.found) refl

pub returns-in_ok-ty-in-15-clause-found : goal.returns-in_ok-ty-in-15-clause-found
returns-in_ok-ty-in-15-clause-found c = rw (c.in-15.is, c.in_ok-ty-in-15.ensures.found) refl

pub returns-in_ok-ty-in-16-clause-found : goal.returns-in_ok-ty-in-16-clause-found
returns-in_ok-ty-in-16-clause-found c = rw (c.in-16.is, c.in_ok-ty-in-16.ensures.found) refl

pub returns-in_ok-ty-in-17-clause-found : goal.returns-in_ok-ty-in-17-clause-found
returns-in_ok-ty-in-17-clause-found c = rw (c.in-17.is, c.in_ok-ty-in-17.ensures.found) refl

pub returns-in_ok-ty-in-18-clause-found : goal.returns-in_ok-ty-in-18-clause-found
returns-in_ok-ty-in-18-clause-found c = rw (c.in-18.is, c.in_ok-ty-in-18.ensures.found) refl

pub returns-in_ok-index-in-19-clause-found : goal.returns-in_ok-index-in-19-clause-found
returns-in_ok-index-in-19-clause-found c = rw (c.in-19.is, c.in_ok-index-in-19.ensures.found) refl

pub returns-in_ok-index-in-20-clause-found : goal.returns-in_ok-index-in-20-clause-found
returns-in_ok-index-in-20-clause-found c = rw (c.in-20.is, c.in_ok-index-in-20.ensures.found) refl
