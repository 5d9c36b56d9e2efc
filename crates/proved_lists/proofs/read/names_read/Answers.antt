use Rattle.wenc_list.specs.DebugNames.{names_view}
use Rattle.proved_lists.proofs.ReadSo.{what_is_read, none_at_all}
use Rattle.proved_lists.proofs.read.names_read.Goals as goal

pub returns-clause-read : goal.returns-clause-read
returns-clause-read c = what_is_read c.names_are_exact.ensures.names (λ x. (names_view x.0, x.1.now)) c.names_of.result c.names_of.ensures

pub returns-clause-none : goal.returns-clause-none
returns-clause-none c = none_at_all c.names_are_exact.ensures.names (λ x. (names_view x.0, x.1.now)) c.names_of.result c.names_of.ensures
