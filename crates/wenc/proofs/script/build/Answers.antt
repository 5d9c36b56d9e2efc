use Rattle.std.proofs.Common.{List, [], ℕ, arith, length, drop, lit<}
use Rattle.wenc.specs.Script.{script}
use Rattle.wenc.proofs.Commands.{nothing_before, line_read, last_read, read_failed}
use Rattle.wenc.proofs.Front.{front_and_behind, front_text, front_shorter, ends_badly, last_line, next_line}
use Rattle.wenc.proofs.script.build.Goals as goal

pub loop-line-init : goal.loop-line-init
loop-line-init g c =
    let bytes : List ℕ = c.args.text.now in
    let text : List ℕ = c.text_in_front-is_whole.result.0.now in
    let front = c.text_in_front-is_whole.ensures in
    record {
      commands = [];
      ran = rw c.new-answers.ensures.items c.in_ok-running.ensures.none;
      is_text = front_text bytes text _ front;
      said = rw (front_and_behind bytes text c.text_in_front-is_whole.result.1 front) (nothing_before (script bytes));
      counted = omega (arith, front_shorter bytes text _ front);
    }

pub loop-line-preserved : goal.loop-line-preserved
loop-line-preserved g c =
    let more : List ℕ = drop (length c.text_in_front-is_whole.result.0.now) c.args.text.now in
    let next = next_line c.loop-line.last.now c.in-Some.line.now c.in-Some.behind.now more
    (c.in-Some.ensures.byte (lit< tt) (λ w o f. f)) c.loop-line.invariant.is_text in
    let ran = c.in_ok-run_line.ensures.next c.loop-line.invariant.commands c.loop-line.invariant.ran in
    record {
      commands = ran.0;
      ran = ran.1;
      is_text = next.0;
      said = line_read _ c.loop-line.number _ _ _ _ next.2 c.loop-line.invariant.said _ ran.2;
      counted = omega (arith, c.loop-line.invariant.counted, next.1);
    }

pub returns-in_err-run_line : goal.returns-in_err-run_line
returns-in_err-run_line g c =
    let more : List ℕ = drop (length c.text_in_front-is_whole.result.0.now) c.args.text.now in
    let next = next_line c.loop-line.last.now c.in-Some.line.now c.in-Some.behind.now more
    (c.in-Some.ensures.byte (lit< tt) (λ w o f. f)) c.loop-line.invariant.is_text in
    read_failed _ c.loop-line.number _ _ _ _ next.2 c.loop-line.invariant.said c.from_residual-in_err-run_line.result
    c.in_err-run_line.field-0.0 _ _ _ _ c.from_residual-in_err-run_line.ensures.1 c.in_err-run_line.ensures

pub returns-then-not-is_whole : goal.returns-then-not-is_whole
returns-then-not-is_whole g c =
    let now = c.loop-line.invariant in
    ends_badly _ c.loop-line.number c.args.text.now _ c.loop-line.last.now _ _ now.said c.text_in_front-is_whole.ensures
    c.if-not-is_whole.true now.is_text (c.in_default.ensures.byte (lit< tt) (λ w o f. f))

pub returns-in_err-run_line-2 : goal.returns-in_err-run_line-2
returns-in_err-run_line-2 g c =
    let line = last_line c.args.text.now _ c.loop-line.last.now _ c.text_in_front-is_whole.ensures c.if-not-is_whole.false
    (c.in_default.ensures.byte (lit< tt) (λ w o f. f)) in
    read_failed _ c.loop-line.number _ _ _ _ line c.loop-line.invariant.said c.from_residual-in_err-run_line-2.result
    c.in_err-run_line-2.field-0.0 _ _ _ _ c.from_residual-in_err-run_line-2.ensures.1 c.in_err-run_line-2.ensures

pub returns : goal.returns
returns g c =
    let line = last_line c.args.text.now _ c.loop-line.last.now _ c.text_in_front-is_whole.ensures c.if-not-is_whole.false
    (c.in_default.ensures.byte (lit< tt) (λ w o f. f)) in
    let ran = c.in_ok-run_line-2.ensures.next c.loop-line.invariant.commands c.loop-line.invariant.ran in
    record {
      commands = ran.0;
      entries = ran.1.entries;
      says = last_read _ c.loop-line.number _ _ _ line c.loop-line.invariant.said _ ran.2;
      ran = ran.1.ran;
      bytes = c.in_ok-bytes.ensures.held ran.1.entries ran.1.held;
    }
