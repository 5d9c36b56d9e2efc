use Rattle.wenc_base.specs.laws.Forms.{flag_sound, flag_lawful}
use Rattle.wenc_base.specs.laws.Numbers.{u32_sound, u32_lawful, u64_sound, u64_lawful, index_sound, index_lawful}
use Rattle.wenc_read.specs.laws.Exact.{exact_by, byte_exact}
use Rattle.wenc_read.proofs.laws.readers_are_exact.Goals as goal

pub returns-clause-byte : goal.returns-clause-byte
returns-clause-byte c = byte_exact

pub returns-clause-short : goal.returns-clause-short
returns-clause-short c = exact_by u32_sound u32_lawful

pub returns-clause-long : goal.returns-clause-long
returns-clause-long c = exact_by u64_sound u64_lawful

pub returns-clause-index : goal.returns-clause-index
returns-clause-index c = exact_by index_sound index_lawful

pub returns-clause-flag : goal.returns-clause-flag
returns-clause-flag c = exact_by flag_sound flag_lawful
