use Rattle.std.proofs.Common.{◌≡◌, length}
use Rattle.wenc.specs.Prelude.{numbers, words_left}
use Rattle.wenc.proofs.Numbers.{put_front}
use Rattle.wenc.proofs.line.start.Given as goal

abbrev pub invariant-loop-word : goal.invariant-loop-word
invariant-loop-word l = put_front l.args.items (numbers (words_left l.words)) ≡ numbers (words_left l.initial.words)

abbrev pub decreases-loop-word : goal.decreases-loop-word
decreases-loop-word l = length (words_left l.words)
