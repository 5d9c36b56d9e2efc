use Rattle.std.proofs.Common.{◌≡◌, ◌≤◌, false, true, length, take, rules}
use Rattle.std.proofs.lemmas.Str.{utf8_valid_len_le}
use Rattle.std.specs.Str.{is_utf8}
use Rattle.std.specs.Str.Lossy.{utf8_valid_len}
use Rattle.wenc_base.specs.reading.Forms.{text_at}
use Rattle.wenc_view.proofs.Texts.{is_text, is_no_text}
use Rattle.wenc_view.proofs.view.text_of.Goals as goal

pub returns-in-Ok : goal.returns-in-Ok
unfolding text_at
returns-in-Ok c =
    let t : is_utf8 (take c.in_ok-size.size c.in_ok-size.rest.now) ≡ true = is_text _ _ c.split_at.ensures.front c.in-Ok.ensures.cases.1 in
    search rules

pub returns-in-Err : goal.returns-in-Err
unfolding text_at
returns-in-Err c =
    let t : is_utf8 (take c.in_ok-size.size c.in_ok-size.rest.now) ≡ false = is_no_text _ _ c.split_at.ensures.front c.in-Err.ensures.cases.0 in
    let short : utf8_valid_len c.split_at.result.0.now ≤ length c.split_at.result.0.now = utf8_valid_len_le _ in
    search rules
