use Rattle.std.proofs.Common.{ℕ, List, false, true, ◌≡◌, ◌↔◌, ◌+◌, ◌∷◌, drop, map, arith, sym, subst, inr}
use Rattle.wenc_builder.specs.Prelude.{items, of_bytes, whole}
use Rattle.wasm_encoder.specs.Prelude.{command_view}
use Rattle.wasm_encoder.proofs.Run.{ran_none, ran_more, ran_all, ran_held, ran_stopped, next_is}
use Rattle.wasm_encoder.proofs.command.build.Goals as goal

pub loop-command-init : goal.loop-command-init
loop-command-init g c = rw c.new-answers.ensures.items (ran_none (map command_view c.args.commands.now) c.in_ok-running.running c.in_ok-running.ensures.none)

pub loop-command-preserved : goal.loop-command-preserved
loop-command-preserved g c =
    let split : drop c.loop-command.command-index c.args.commands.now ≡ c.command-item.result
    ∷ drop (c.loop-command.command-index + 1) c.args.commands.now =
    next_is c.args.commands.now c.loop-command.command-index c.command-item.result c.command-item.result
    (omega arith) c.command-item.is in
    rw c.in_ok-push.ensures.items (ran_more (map command_view c.args.commands.now) _
    (command_view c.command-item.result) _ c.in-Ok.answer _ _ (rw split at c.loop-command.invariant) c.in-Ok.ensures)

pub returns-in-Err-clause-refused : goal.returns-in-Err-clause-refused
returns-in-Err-clause-refused g c =
    let split : drop c.loop-command.command-index c.args.commands.now ≡ c.command-item.result
    ∷ drop (c.loop-command.command-index + 1) c.args.commands.now =
    next_is c.args.commands.now c.loop-command.command-index c.command-item.result c.command-item.result
    (omega arith) c.command-item.is in
    inr (ran_stopped (map command_view c.args.commands.now) _ (command_view c.command-item.result) _ c.in-Err.fault _
    (rw split at c.loop-command.invariant) c.in-Err.ensures)

pub returns-in_err-bytes-clause-refused : goal.returns-in_err-bytes-clause-refused
returns-in_err-bytes-clause-refused g c = let no : false ≡ true = c.in_err-bytes.ensures.ok in cc

pub returns-clause-ran : goal.returns-clause-ran
returns-clause-ran g c =
    let all = ran_all c.args.commands.now _ _ _ (omega arith) c.loop-command.invariant in
    (all.entries, all.ran, c.in_ok-bytes.ensures.held all.entries all.held)

pub returns-clause-encodable : goal.returns-clause-encodable
returns-clause-encodable g c es ran = (ran_held (ran_all c.args.commands.now _ _ _ (omega arith) c.loop-command.invariant) es ran).fits

pub returns-clause-one_reading : goal.returns-clause-one_reading
returns-clause-one_reading g c es ran =
    c.in_ok-bytes.ensures.one_reading es (ran_held (ran_all c.args.commands.now _ _ _ (omega arith) c.loop-command.invariant) es ran)

pub returns-clause-one_list : goal.returns-clause-one_list
returns-clause-one_list g c es ran no_raw xs no_raw' fits =
    let held = ran_held (ran_all c.args.commands.now _ _ _ (omega arith) c.loop-command.invariant) es ran in
    subst (λ (bytes : List ℕ). (whole xs ≡ bytes) ↔ (xs ≡ items es)) (sym (c.in_ok-bytes.ensures.held es held))
    (of_bytes (items es) xs no_raw held.fits no_raw' fits)
