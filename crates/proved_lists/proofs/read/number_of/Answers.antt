use Rattle.proved_lists.proofs.ReadSo.{what_is_read, none_at_all}
use Rattle.proved_lists.proofs.read.number_of.Goals as goal

pub returns-clause-read : goal.returns-clause-read
returns-clause-read c = what_is_read (c.readers_are_exact.ensures.short c.args.bytes.now) (λ x. (x.0, x.1.now)) c.u32_of.result c.u32_of.ensures.found

pub returns-clause-none : goal.returns-clause-none
returns-clause-none c = none_at_all (c.readers_are_exact.ensures.short c.args.bytes.now) (λ x. (x.0, x.1.now)) c.u32_of.result c.u32_of.ensures.found
