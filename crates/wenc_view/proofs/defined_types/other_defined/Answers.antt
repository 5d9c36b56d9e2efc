use Rattle.std.proofs.Common.{refl}
use Rattle.std.proofs.lemmas.Iterator.Adapters.{option_map_id}
use Rattle.wenc_view.proofs.defined_types.other_defined.Goals as goal

pub returns-in_ok-ty-in-105-clause-found : goal.returns-in_ok-ty-in-105-clause-found
returns-in_ok-ty-in-105-clause-found c = rw (c.in-105.is, c.in_ok-ty-in-105.ensures.found) refl

pub returns-in_ok-ty-in-104-clause-found : goal.returns-in_ok-ty-in-104-clause-found
returns-in_ok-ty-in-104-clause-found c = rw (c.in-104.is, c.in_ok-ty-in-104.ensures.found) refl

pub returns-in_ok-length-in-103-clause-found : goal.returns-in_ok-length-in-103-clause-found
returns-in_ok-length-in-103-clause-found c = rw (c.in-103.is, c.in_ok-element-in-103.ensures.found, c.in_ok-length-in-103.ensures.found) refl

pub returns-in_ok-ty-in-102-clause-found : goal.returns-in_ok-ty-in-102-clause-found
returns-in_ok-ty-in-102-clause-found c = rw (c.in-102.is, rw (option_map_id c.in_ok-ty-in-102.ty) at c.in_ok-ty-in-102.ensures.found) refl

pub returns-in_ok-ty-in-101-clause-found : goal.returns-in_ok-ty-in-101-clause-found
returns-in_ok-ty-in-101-clause-found c = rw (c.in-101.is, rw (option_map_id c.in_ok-ty-in-101.ty) at c.in_ok-ty-in-101.ensures.found) refl

pub returns-in_ok-value-in-99-clause-found : goal.returns-in_ok-value-in-99-clause-found
returns-in_ok-value-in-99-clause-found c = rw (c.in-99.is, c.in_ok-key-in-99.ensures.found, c.in_ok-value-in-99.ensures.found) refl
