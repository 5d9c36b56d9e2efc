use Rattle.wenc.proofs.Ended.{lines_then_bytes}
use Rattle.wenc.proofs.program.translate.Goals as goal

pub returns : goal.returns
returns g c =
    let ran = c.in_ok-built.ensures in
    record {
      commands = ran.commands;
      answers = c.in_ok-built.built.answers.items;
      entries = ran.entries;
      says = rw c.as_slice.ensures.value at ran.says;
      ran = ran.ran;
      status = rw c.as_slice-answers.ensures.value at c.status_of.ensures;
      prints = rw (c.in_ok-answer_lines.ensures, c.as_slice-answers.ensures.value, ran.bytes) (lines_then_bytes _ _);
    }
