-- A run of commands, step by step.
use Rattle.std.proofs.Common.{◌≡◌, ℕ, ◌+◌, ◌<◌, ◌≤◌, List, [], ◌∷◌, ◌++◌, map, Result, Ok, Err, Option, true, refl, rules, sym, ap, subst}
use Rattle.std.proofs.Common.{◌∙◌, length, drop, append_assoc, append-nil, add-one, drop-cons, get_or}
use Rattle.std.proofs.Math.Bool.{Bool-set}
use Rattle.std.proofs.Math.Logic.{∥∥₁_map, ∥∥₁_elim}
use Rattle.std.proofs.lemmas.List.{drop_all}
use Rattle.std.specs.Prelude.{IsTrue, OnErr}
use Rattle.wenc_builder.specs.Prelude.{Entry, Holds, State, builder_is_finished}
use Rattle.wenc_base.specs.declared.fault.Fault.{Fault}
use Rattle.wasm_encoder.specs.Prelude.{Answers, Command, CommandTree, HasRun, HasRunSome, IsRefusal}
use Rattle.wasm_encoder.specs.Prelude.{IsStopped, Ran, RanFrom, RunsNext, cause, command_view}
use Rattle.wasm_encoder.specs.Prelude.{entries_after}
use Rattle.wasm_encoder.specs.Ran.{IsDue}
use Rattle.wasm_encoder.specs.inside.Steps.{StepsStop}

-- one command more
ran_push : (es : List Entry) (cs : List CommandTree) (answers : List (Result (Option ℕ) Fault)) (all : List Entry) (c : CommandTree)
    (a : Result (Option ℕ) Fault) → RanFrom es cs answers all → IsDue all c a
    → RanFrom es (cs ++ c ∷ []) (answers ++ a ∷ []) (entries_after all c a)
ran_push es [] [] all c a r d = subst (λ (e : List Entry). IsDue e c a × (entries_after e c a ≡ entries_after all c a)) (sym r) (d, refl)
ran_push es [] (b ∷ answers) all c a r d = absurd r
ran_push es (k ∷ cs) [] all c a r d = absurd r
ran_push es (k ∷ cs) (b ∷ answers) all c a r d = (r.0, ran_push (entries_after es k b) cs answers all c a r.1 d)

-- Commands that are done ran and led to entries which the builder holds; these are left.
pub record RanSo (commands left : List CommandTree) (answers : List (Result (Option ℕ) Fault)) (s : State) : Type 0 where
  pub done : List CommandTree
  pub split : commands ≡ done ++ left
  pub so_far : List Entry
  pub ran : Ran done answers so_far
  pub held : Holds s so_far

pub ran_none : (commands : List CommandTree) (s : State) → HasRun s [] [] → RanSo commands commands [] s
ran_none commands s r = record { done = []; split = refl; so_far = r.entries; ran = r.ran; held = r.held }

pub ran_more : (commands left : List CommandTree) (c : CommandTree) (answers : List (Result (Option ℕ) Fault)) (a : Result (Option ℕ) Fault) (old new : State)
    → RanSo commands (c ∷ left) answers old → Answers old new a c → RanSo commands left (answers ++ a ∷ []) new
ran_more commands left c answers a old new r step =
    let s = step.held r.so_far r.held in
    record {
      done = r.done ++ c ∷ [];
      split = r.split ∙ sym (append_assoc r.done (c ∷ []) left);
      so_far = entries_after r.so_far c a;
      ran = ran_push [] r.done answers r.so_far c a r.ran s.1;
      held = s.0;
    }

pub ran_all : {A : Type 0} (commands : List (Command A)) (i : ℕ) (answers : List (Result (Option ℕ) Fault)) (s : State)
    → length commands ≤ i → RanSo (map command_view commands) (map command_view (drop i commands)) answers s
    → HasRun s (map command_view commands) answers
ran_all commands i answers s past r =
    let none : map command_view (drop i commands) ≡ [] = ap (map command_view) (drop_all i commands past) in
    let done : r.done ≡ map command_view commands = sym (r.split ∙ ap (λ (left : List CommandTree). r.done ++ left) none ∙ append-nil r.done) in
    record { entries = r.so_far; ran = subst (λ (cs : List CommandTree). Ran cs answers r.so_far) done r.ran; held = r.held }

-- a run leads to one list of entries
ran_once : (es : List Entry) (cs : List CommandTree) (answers : List (Result (Option ℕ) Fault)) (all other : List Entry)
    → RanFrom es cs answers all → RanFrom es cs answers other → all ≡ other
ran_once es [] [] all other r s = sym r ∙ s
ran_once es [] (a ∷ answers) all other r s = absurd r
ran_once es (c ∷ cs) [] all other r s = absurd r
ran_once es (c ∷ cs) (a ∷ answers) all other r s = ran_once (entries_after es c a) cs answers all other r.1 s.1

-- so that the builder holds the entries of every run with these answers
pub ran_held : {commands : List CommandTree} {answers : List (Result (Option ℕ) Fault)} {s : State} → HasRun s commands answers
    → (es : List Entry) → Ran commands answers es → Holds s es
ran_held {commands} {answers} {s} all es ran = subst (Holds s) (ran_once [] commands answers all.entries es all.ran ran) all.held

pub ran_stopped : (commands left : List CommandTree) (c : CommandTree) (answers : List (Result (Option ℕ) Fault)) (fault : Fault) (s : State) {back : State}
    → RanSo commands (c ∷ left) answers s → StepsStop s back fault c → IsStopped commands fault
ran_stopped commands left c answers fault s r stop = record {
  front = r.done;
  next = stop.entry;
  rest = left;
  split = r.split ∙ ap (λ (k : CommandTree). r.done ++ k ∷ left) stop.adds;
  answers = answers;
  so_far = r.so_far;
  ran = r.ran;
  typed = stop.typed;
  refused = subst (λ (k : CommandTree). IsRefusal (cause r.so_far k) fault) stop.adds (stop.refused r.so_far r.held);
}

pub next_is : {A : Type 0} (commands : List (Command A)) (i : ℕ) (c d : Command A) → i < length commands → c ≡ get_or commands i d
    → drop i commands ≡ c ∷ drop (i + 1) commands
next_is commands i c d h e = rw (add-one, e) (drop-cons commands i d h)

-- ---- a run, command by command

pub ran_next : (old new : State) (a : Result (Option ℕ) Fault) (c : CommandTree) → Answers old new a c → RunsNext old new a c
ran_next old new a c step commands answers r =
    let s = step.held r.entries r.held in
    record { entries = entries_after r.entries c a; ran = ran_push [] commands answers r.entries c a r.ran s.1; held = s.0 }

-- a type that was refused and given up is a command that was refused
pub stop_answers : (old new : State) (fault : Fault) (c : CommandTree) → StepsStop old new fault c → Answers old new (Err fault) c
stop_answers old new fault c stop = record { held = λ es h. (stop.kept es h, stop.refused es h) }

-- ---- some commands ran, whichever

pub run_new : (s : State) → Holds s [] → HasRunSome s
run_new s h = ∣ ([], [], record { entries = []; ran = refl; held = h }) ∣₁

pub run_more : (old new : State) (a : Result (Option ℕ) Fault) (c : CommandTree) → Answers old new a c → HasRunSome old → HasRunSome new
run_more old new a c step some = ∥∥₁_map some (λ r. (r.0 ++ c ∷ [], r.1 ++ a ∷ [], ran_next old new a c step r.0 r.1 r.2))

pub run_finished : (s : State) → HasRunSome s → IsTrue (builder_is_finished s)
run_finished s some = ∥∥₁_elim some (Bool-set (builder_is_finished s) true) (λ r. rw r.2.held.finished refl)

pub next_stopped : (old new : State) (fault : Fault) (c : CommandTree) → StepsStop old new fault c → RunsNext old new (Err fault) c
next_stopped old new fault c stop = ran_next old new (Err fault) c (stop_answers old new fault c stop)

pub run_back : (old back new : State) (fault : Fault) (c : CommandTree) → StepsStop old back fault c → new ≡ back → HasRunSome old → HasRunSome new
run_back old back new fault c stop same some = rw same (run_more old back (Err fault) c (stop_answers old back fault c stop) some)

-- what is refused changes nothing
pub kept_if_refused : (old new : State) (a : Result (Option ℕ) Fault) (c : CommandTree) → Answers old new a c
    → OnErr a ((es : List Entry) → Holds old es → Holds new es)
kept_if_refused old new (Ok i) c step = search rules
kept_if_refused old new (Err fault) c step = λ es h. (step.held es h).0

pub ruleset one_more = (ran_next, next_stopped, kept_if_refused)
