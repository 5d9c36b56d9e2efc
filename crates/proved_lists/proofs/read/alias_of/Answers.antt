use Rattle.wenc_parts.specs.Aliases.{alias_view}
use Rattle.proved_lists.proofs.ReadSo.{what_is_read, none_at_all}
use Rattle.proved_lists.proofs.read.alias_of.Goals as goal

pub returns-clause-read : goal.returns-clause-read
returns-clause-read c = what_is_read (c.views_are_exact.ensures c.args.bytes.now) (λ x. (alias_view x.0, x.1.now)) c.view_of.result c.view_of.ensures.found

pub returns-clause-none : goal.returns-clause-none
returns-clause-none c = none_at_all (c.views_are_exact.ensures c.args.bytes.now) (λ x. (alias_view x.0, x.1.now)) c.view_of.result c.view_of.ensures.found
