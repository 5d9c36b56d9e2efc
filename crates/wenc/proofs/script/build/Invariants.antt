use Rattle.std.proofs.Common.{◌≡◌, ◌+◌, ◌≤◌, ◌++◌, List, length, drop}
use denote.Text.{Utf8}
use denote.Shadow.{shadow}
use Rattle.wenc.specs.Prelude.{commands_from, parted, script}
use Rattle.wasm_encoder.specs.Prelude.{CommandTree, HasRun}
use Rattle.wenc.proofs.Commands.{put_before}
use Rattle.wenc.proofs.script.build.Given as goal

abbrev pub invariant-loop-line : goal.invariant-loop-line
invariant-loop-line g l = record {
  commands : List CommandTree;
  ran : HasRun l.running commands l.answers.items;
  is_text : shadow (Utf8 l.last);
  said : put_before commands (commands_from l.number (parted 10 (l.last ++ drop (length l.initial.last) l.text))) ≡ script l.text;
  counted : l.number + length l.last ≤ length l.text + 1;
}

abbrev pub decreases-loop-line : goal.decreases-loop-line
decreases-loop-line g l = length l.last
