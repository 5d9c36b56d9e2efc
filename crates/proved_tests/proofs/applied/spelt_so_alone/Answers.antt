use Rattle.std.proofs.Common.{negsuc, arith}
use Rattle.wenc_base.specs.Number.{groups}
use Rattle.proved_tests.proofs.applied.spelt_so_alone.Goals as goal

pub returns-clause-unsigned : goal.returns-clause-unsigned
unfolding groups
returns-clause-unsigned c bytes is = c.unsigned_text_in_words.ensures.only 624485 bytes (omega arith) is

pub returns-clause-signed : goal.returns-clause-signed
unfolding groups
returns-clause-signed c bytes is = c.signed_text_in_words.ensures.only (negsuc 64) bytes (omega arith) is
