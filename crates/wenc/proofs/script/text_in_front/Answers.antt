use Rattle.wenc.proofs.Front.{text_cut}
use Rattle.wenc.proofs.script.text_in_front.Goals as goal

pub returns-in-Err : goal.returns-in-Err
returns-in-Err c =
    text_cut c.args.bytes.now _ c.valid_up_to.result c.from_utf8-in-Err.result _ _ c.unwrap_or.result c.in-Err.ensures.cases.1
    c.valid_up_to.ensures c.from_utf8-in-Err.ensures.cases c.unwrap_or.ensures
