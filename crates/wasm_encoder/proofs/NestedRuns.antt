-- Nested commands are a run with all of them accepted.
use Rattle.std.proofs.Common.{◌≡◌, ℕ, List, [], ◌∷◌, ◌++◌, Option, Result, Ok, Err, refl, sym, inl, inr}
use Rattle.std.specs.List.{AllByRecursion}
use Rattle.std.specs.Prelude.{IsOk}
use Rattle.wenc_base.specs.Prelude.{NoCause}
use Rattle.wenc_builder.specs.Prelude.{Entry}
use Rattle.wenc_base.specs.declared.fault.Fault.{Fault}
use Rattle.wasm_encoder.specs.Prelude.{CommandTree, Commands, RanFrom, added, cause}
use Rattle.wasm_encoder.specs.Prelude.{commands_listed, first_cause, led, no_more, then}
use Rattle.wasm_encoder.specs.Cause.{answer_of}

first_free : (es : List Entry) (c : CommandTree) (cs : Commands) → NoCause (first_cause es (then c cs)) → NoCause (cause es c)
first_free es c cs none fault k = none fault (inl k)

later_free : (es : List Entry) (c : CommandTree) (cs : Commands) → NoCause (first_cause es (then c cs)) → NoCause (first_cause (es ++ added es c) cs)
later_free es c cs none fault k = none fault (inr (first_free es c cs none, k))

pub inner_runs : (es : List Entry) (inner : Commands) → NoCause (first_cause es inner)
    → (answers : List (Result (Option ℕ) Fault)) × RanFrom es (commands_listed inner) answers (led es inner) × AllByRecursion IsOk answers
inner_runs es no_more none = ([], refl, tt)
inner_runs es (then c cs) none =
    let k = inner_runs (es ++ added es c) cs (later_free es c cs none) in
    (Ok (answer_of es c) ∷ k.0, ((refl, first_free es c cs none), k.1), (refl, k.2))

pub runs_inner : (es : List Entry) (inner : Commands) (answers : List (Result (Option ℕ) Fault)) (all : List Entry)
    → RanFrom es (commands_listed inner) answers all → AllByRecursion IsOk answers
    → (all ≡ led es inner) × NoCause (first_cause es inner)
runs_inner es no_more [] all r ok = (sym r, λ fault k. k)
runs_inner es no_more (a ∷ answers) all r ok = absurd r
runs_inner es (then c cs) [] all r ok = absurd r
runs_inner es (then c cs) (Err fault ∷ answers) all r ok = let never = ok.0 in absurd cc
runs_inner es (then c cs) (Ok a ∷ answers) all r ok =
    let k = runs_inner (es ++ added es c) cs answers all r.1 ok.1 in
    (k.0, λ fault x. elim x [ inl here ↦ r.0.1 fault here | inr later ↦ k.1 fault later.1 ])
