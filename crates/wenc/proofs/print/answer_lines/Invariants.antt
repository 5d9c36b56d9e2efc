use Rattle.std.proofs.Common.{◌≡◌, ◌++◌, drop}
use Rattle.wenc.specs.Printed.{answer_lines}
use Rattle.wenc.proofs.print.answer_lines.Given as goal

abbrev pub invariant-loop-answer : goal.invariant-loop-answer
invariant-loop-answer g l = l.text.items ++ answer_lines (drop l.answer-index l.answers) ≡ answer_lines l.answers
