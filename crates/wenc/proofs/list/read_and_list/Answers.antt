use Rattle.wenc.proofs.ListEnded.{listed_whole}
use Rattle.wenc.proofs.list.read_and_list.Goals as goal

pub returns : goal.returns
returns g c = listed_whole c.list_text.result _ _ c.in_ok-text.text.items c.in_ok-text.ensures (rw c.as_slice.ensures.value at c.list_text.ensures)
