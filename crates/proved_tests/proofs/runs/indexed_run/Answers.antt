use Rattle.std.proofs.Common.{◌≡◌, ℕ, List, ◌++◌, ◌∷◌, [], Ok, Err, Option, Some, Result, subst, map, length}
use Rattle.std.specs.Result.{IfOk}
use Rattle.wasm_encoder.specs.Prelude.{CommandTree, Ran, RanFrom, command_view}
use Rattle.wenc_builder.specs.Prelude.{Entry}
use Rattle.wenc_base.specs.declared.fault.Fault.{Fault}
use Rattle.proved_tests.specs.Prelude.{IsIndexedAt}
use Rattle.proved_tests.proofs.IndexedRuns.{indexed_at}
use Rattle.proved_tests.proofs.NeverUnfinished.{refused}
use Rattle.proved_tests.proofs.runs.indexed_run.Goals as goal

indexed_in : (commands : List CommandTree) (answers : List (Result (Option ℕ) Fault)) (es : List Entry) → Ran commands answers es
    → (front : List CommandTree) (c : CommandTree) (behind : List CommandTree) (so_far : List (Result (Option ℕ) Fault)) (i : ℕ)
    (later : List (Result (Option ℕ) Fault))
    → commands ≡ front ++ c ∷ behind → answers ≡ so_far ++ Ok (Some i) ∷ later → length front ≡ length so_far → IsIndexedAt c es i
indexed_in commands answers es ran front c behind so_far i later split parts n =
    indexed_at [] front c behind so_far i later es n
    (subst (λ (cs : List CommandTree). RanFrom [] cs (so_far ++ Ok (Some i) ∷ later) es) split
    (subst (λ (as' : List (Result (Option ℕ) Fault)). RanFrom [] commands as' es) parts ran))

indexed_all : {T : Type 0} (commands : List CommandTree) (answers : T → List (Result (Option ℕ) Fault)) (r : Result T Fault)
    → IfOk r (λ b. (es : List Entry) → Ran commands (answers b) es → (front : List CommandTree) (c : CommandTree)
    (behind : List CommandTree) (so_far : List (Result (Option ℕ) Fault)) (i : ℕ) (later : List (Result (Option ℕ) Fault))
    → commands ≡ front ++ c ∷ behind → answers b ≡ so_far ++ Ok (Some i) ∷ later → length front ≡ length so_far → IsIndexedAt c es i)
indexed_all commands answers (Ok b) = λ es ran. indexed_in commands (answers b) es ran
indexed_all commands answers (Err fault) = tt

pub returns-clause-indices : goal.returns-clause-indices
returns-clause-indices g c = indexed_all (map command_view c.args.commands.now) (λ b. b.answers.items) c.build.result

pub returns-clause-never_unfinished : goal.returns-clause-never_unfinished
returns-clause-never_unfinished g c = refused (map command_view c.args.commands.now) c.build.result c.build.ensures.refused
