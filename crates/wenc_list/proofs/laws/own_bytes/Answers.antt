use Rattle.wenc_list.proofs.OwnBytes.{own_inside, own_anywhere, others_left}
use Rattle.wenc_list.proofs.laws.own_bytes.Goals as goal

pub returns-clause-inside : goal.returns-clause-inside
returns-clause-inside g c = own_inside

pub returns-clause-anywhere : goal.returns-clause-anywhere
returns-clause-anywhere g c = own_anywhere

pub returns-clause-others : goal.returns-clause-others
returns-clause-others g c = others_left
