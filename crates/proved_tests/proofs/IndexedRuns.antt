-- From a run to the indices of its items.
use Rattle.std.specs.Option.{option_map}
use Rattle.std.proofs.Common.{◌≡◌, ℕ, List, [], ◌∷◌, ◌++◌, length, Option, Some, None, option_to_list, Result, Ok, Err, refl, sym, subst}
use Rattle.std.proofs.Common.{◌∙◌, append_assoc, append-nil, arith}
use Rattle.std.proofs.lemmas.Option.{same_Some}
use Rattle.wenc_builder.specs.Prelude.{Entry, Indices, defines, index_of, items, names_entry}
use Rattle.wenc_builder.specs.Prelude.{next_index}
use Rattle.wasm_encoder.specs.Prelude.{AppendNames, CommandTree, RanFrom, added, entries_after}
use Rattle.wasm_encoder.specs.Prelude.{index_added}
use Rattle.wenc_base.specs.declared.fault.Fault.{Fault}
use Rattle.proved_tests.specs.Prelude.{IsIndexedAt}

-- what is led to begins with what was there
pub grown : (es : List Entry) (cs : List CommandTree) (answers : List (Result (Option ℕ) Fault)) (all : List Entry)
    → RanFrom es cs answers all → (more : List Entry) × (all ≡ es ++ more)
grown es [] [] all r = ([], sym r ∙ sym (append-nil es))
grown es [] (a ∷ answers) all r = absurd r
grown es (c ∷ cs) [] all r = absurd r
grown es (c ∷ cs) (Ok a ∷ answers) all r =
    let k = grown (es ++ added es c) cs answers all r.1 in
    (added es c ++ k.0, k.1 ∙ append_assoc es (added es c) k.0)
grown es (c ∷ cs) (Err fault ∷ answers) all r = grown es cs answers all r.1

at_defined : (xs : List Entry) (o : Option Indices) (i : ℕ) → Some i ≡ option_map (λ (d : Indices). next_index (items xs) d.space) o
    → (d : Indices) × (o ≡ Some d) × (i ≡ next_index (items xs) d.space)
at_defined xs None i e = absurd cc
at_defined xs (Some d) i e = (d, refl, same_Some i _ e)

-- a command adds one entry, or none
one_added : (es : List Entry) (c : CommandTree) → (o : Option Entry) × (added es c ≡ option_to_list o)
one_added es AppendNames = (names_entry es, refl)
one_added es other = (Some _, refl)

indexed_by : (c : CommandTree) (es all more : List Entry) (o : Option Entry) (i : ℕ) → added es c ≡ option_to_list o
    → all ≡ (es ++ option_to_list o) ++ more → Some i ≡ index_added es (option_to_list o) → IsIndexedAt c all i
indexed_by c es all more None i a s e = absurd cc
indexed_by c es all more (Some x) i a s e =
    let k = at_defined es (defines x.item) i e in
    record { front = es; entry = x; rest = more; split = s ∙ append_assoc es (x ∷ []) more; adds = a; indices = k.0; defined = k.1; index = k.2 }

-- an answered index is its item's index
pub indexed_at : (es : List Entry) (front : List CommandTree) (c : CommandTree) (behind : List CommandTree)
    (so_far : List (Result (Option ℕ) Fault)) (i : ℕ) (later : List (Result (Option ℕ) Fault)) (all : List Entry)
    → length front ≡ length so_far → RanFrom es (front ++ c ∷ behind) (so_far ++ Ok (Some i) ∷ later) all → IsIndexedAt c all i
indexed_at es [] c behind [] i later all n r =
    let o = one_added es c in
    let k = grown (es ++ added es c) behind later all r.1 in
    indexed_by c es all k.0 o.0 i o.1 (subst (λ (xs : List Entry). all ≡ (es ++ xs) ++ k.0) o.1 k.1)
    (subst (λ (xs : List Entry). Some i ≡ index_added es xs) o.1 r.0.0)
indexed_at es [] c behind (a ∷ so_far) i later all n r = absurd (omega (arith, n))
indexed_at es (b ∷ front) c behind [] i later all n r = absurd (omega (arith, n))
indexed_at es (b ∷ front) c behind (a ∷ so_far) i later all n r = indexed_at (entries_after es b a) front c behind so_far i later all (omega (arith, n)) r.1
