use Rattle.std.proofs.Common.{refl}
use Rattle.std.proofs.lemmas.Iterator.Adapters.{option_map_id}
use Rattle.wenc_view.proofs.defined_types.defined.Goals as goal

pub returns-in_ok-fields-in-114-clause-found : goal.returns-in_ok-fields-in-114-clause-found
returns-in_ok-fields-in-114-clause-found c = rw (c.in-114.is, c.in_ok-fields-in-114.ensures.found) refl

pub returns-in_ok-cases-in-113-clause-found : goal.returns-in_ok-cases-in-113-clause-found
returns-in_ok-cases-in-113-clause-found c = rw (c.in-113.is, c.in_ok-cases-in-113.ensures.found) refl

pub returns-in_ok-element-in-112-clause-found : goal.returns-in_ok-element-in-112-clause-found
returns-in_ok-element-in-112-clause-found c = rw (c.in-112.is, c.in_ok-element-in-112.ensures.found) refl

pub returns-in_ok-elements-in-111-clause-found : goal.returns-in_ok-elements-in-111-clause-found
returns-in_ok-elements-in-111-clause-found c = rw (c.in-111.is, c.in_ok-elements-in-111.ensures.found) refl

pub returns-in_ok-names-in-110-clause-found : goal.returns-in_ok-names-in-110-clause-found
returns-in_ok-names-in-110-clause-found c = rw (c.in-110.is, c.in_ok-names-in-110.ensures.found) refl

pub returns-in_ok-names-in-109-clause-found : goal.returns-in_ok-names-in-109-clause-found
returns-in_ok-names-in-109-clause-found c = rw (c.in-109.is, c.in_ok-names-in-109.ensures.found) refl

pub returns-in_ok-ty-in-107-clause-found : goal.returns-in_ok-ty-in-107-clause-found
returns-in_ok-ty-in-107-clause-found c = rw (c.in-107.is, c.in_ok-ty-in-107.ensures.found) refl

pub returns-in_ok-err-in-106-clause-found : goal.returns-in_ok-err-in-106-clause-found
returns-in_ok-err-in-106-clause-found c = rw (
  c.in-106.is,
  rw (option_map_id c.in_ok-ok-in-106.ok) at c.in_ok-ok-in-106.ensures.found,
  rw (option_map_id c.in_ok-err-in-106.err)
      at c.in_ok-err-in-106.ensures.found,
) refl
