use Rattle.std.proofs.Common.{◌≡◌, true, rules}
use Rattle.wenc_base.specs.Prelude.{are_bytes, bytes_pass}
use Rattle.wenc_list.proofs.members.raw.Goals as goal

pub returns : goal.returns
returns c = let t : are_bytes c.args.bytes.now ≡ true = bytes_pass c.args.bytes.now c.are_bytes.ensures in search rules
