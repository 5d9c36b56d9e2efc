use Rattle.std.proofs.Common.{◌<◌}
use Rattle.std.proofs.lemmas.List.Elements.{All-from_get_or, recursion_from_All}
use Rattle.wenc_list.proofs.sections.are_bytes.Goals as goal

pub returns : goal.returns
returns c = recursion_from_All (λ b. b < 256) c.args.bytes.now (All-from_get_or (λ b. b < 256) c.args.bytes.now 0 (λ i lt. (c.type_inv.bytes i).fits))
