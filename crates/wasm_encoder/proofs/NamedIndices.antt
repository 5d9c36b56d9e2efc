-- The indices in a list of names.
use Rattle.std.proofs.Common.{◌≡◌, ℕ, zero, suc, ◌+◌, ◌<◌, ◌≤◌, List, [], ◌∷◌, ◌++◌, map, Option, Some, None, option_to_list, Result, Ok}
use Rattle.std.proofs.Common.{Err, refl, subst, ◌⊎◌, inl, inr, arith}
use Rattle.std.proofs.lemmas.Option.{same_Some}
use Rattle.std.specs.List.{AllByRecursion}
use Rattle.std.specs.List.Sorted.{IsStrictlyIncreasing}
use Rattle.wenc_base.specs.Prelude.{NameAssociation}
use Rattle.wenc_builder.specs.Prelude.{CustomItem, Entry, Indices, Item, RawItem, StartIsNameless}
use Rattle.wenc_builder.specs.Prelude.{StartItem, defined_in, defines, items, named_entry, named_in}
use Rattle.wenc_builder.specs.Prelude.{names, names_from, next_index, number_in}
use Rattle.wenc_sections.specs.Prelude.{Start, Subsection}
use Rattle.wenc_base.specs.declared.fault.Fault.{Fault}
use Rattle.wenc_sections.specs.declared.space.Space.{Space}
use Rattle.wenc_sections.specs.laws.Space.{space_tells}
use Rattle.wasm_encoder.specs.Prelude.{Add, AddsNameless, AppendNames, Command, CommandTree, Nest}
use Rattle.wasm_encoder.specs.Prelude.{Ran, RanFrom, added, command_view}
use Rattle.wasm_encoder.specs.declared.command.Command as commands

-- ---- numbers that ascend

-- they ascend, and none is below this
abbrev AscendFrom : ℕ → List ℕ → Type 0
AscendFrom n [] = Unit {0}
AscendFrom n (x ∷ xs) = (n ≤ x) × AscendFrom (x + 1) xs

from_less : (n m : ℕ) (xs : List ℕ) → m ≤ n → AscendFrom n xs → AscendFrom m xs
from_less n m [] le h = tt
from_less n m (x ∷ xs) le h = (omega (arith, h.0), h.1)

increasing : (n : ℕ) (xs : List ℕ) → AscendFrom n xs → IsStrictlyIncreasing xs
increasing n [] h k lt = absurd (omega (arith, lt))
increasing n (x ∷ []) h k lt = absurd (omega (arith, lt))
increasing n (x ∷ y ∷ ys) h zero lt = omega (arith, h.1.0)
increasing n (x ∷ y ∷ ys) h (suc k) lt =
    let next : suc k + 1 ≡ suc (k + 1) = omega arith in
    rw next (increasing (x + 1) (y ∷ ys) h.1 k (omega (arith, lt)))

-- ---- what an entry names

-- what is named takes an index
abbrev TakesNamed : Option Indices → Option (List ℕ) → Type 0
TakesNamed o name = (d : Indices) → o ≡ Some d → (name ≡ None) ⊎ (0 < d.number)

item_takes : (x : Item) (name : Option (List ℕ)) → ((s : Start) → x ≡ StartItem s → name ≡ None) → TakesNamed (defines x) name
item_takes (StartItem s) name nameless d e = inl (nameless s refl)
item_takes (CustomItem c) name nameless d e = absurd cc
item_takes (RawItem bytes) name nameless d e = absurd cc
item_takes other name nameless d e = inr (subst (λ (d : Indices). 0 < d.number) (same_Some _ d e) (omega arith))

abbrev indices : List NameAssociation → List ℕ
indices ns = map (λ n. n.index) ns

ascends_more : (k : Space) (n : ℕ) (o : Option Indices) (name : Option (List ℕ)) (rest : List NameAssociation) → TakesNamed o name
    → AscendFrom (n + number_in k o) (indices rest) → AscendFrom n (indices (named_in k o n name ++ rest))
ascends_more k n None name rest takes h = from_less (n + 0) n (indices rest) (omega arith) h
ascends_more k n (Some d) None rest takes h =
    elim (space_tells d.space k) [
      | inl t ↦ let g = rw t.0 at h in rw t.0 (from_less (n + d.number) n (indices rest) (omega arith) g)
      | inr t ↦ let g = rw t.0 at h in rw t.0 (from_less (n + 0) n (indices rest) (omega arith) g)
    ]
ascends_more k n (Some d) (Some name) rest takes h =
    elim (space_tells d.space k) [
      | inl t ↦ let g = rw t.0 at h in rw t.0 (omega arith, from_less (n + d.number) (n + 1) (indices rest) (omega (arith, taken (takes d refl))) g)
      | inr t ↦ let g = rw t.0 at h in rw t.0 (from_less (n + 0) n (indices rest) (omega arith) g)
    ]
  where
    taken : ((Some name ≡ None) ⊎ (0 < d.number)) → 0 < d.number
    taken (inl e) = absurd cc
    taken (inr lt) = lt

ascend : (k : Space) (n : ℕ) (es : List Entry) → AllByRecursion StartIsNameless es → AscendFrom n (indices (names_from k n es))
ascend k n [] h = tt
ascend k n (e ∷ es) h = ascends_more k n (defines e.item) e.name (names_from k (n + defined_in k e.item) es) (item_takes e.item e.name h.0)
    (ascend k (n + defined_in k e.item) es h.1)

pub ascending : (es : List Entry) (k : Space) → AllByRecursion StartIsNameless es → IsStrictlyIncreasing (indices (names es k))
ascending es k h = increasing 0 (indices (names es k)) (ascend k 0 es h)

-- ---- and they are below the count

abbrev AreBelow : ℕ → List NameAssociation → Type 0
AreBelow bound = AllByRecursion (λ n. n.index < bound)

below_more : (k : Space) (n bound : ℕ) (o : Option Indices) (name : Option (List ℕ)) (rest : List NameAssociation) → TakesNamed o name
    → n + number_in k o ≤ bound → AreBelow bound rest → AreBelow bound (named_in k o n name ++ rest)
below_more k n bound None name rest takes le h = h
below_more k n bound (Some d) None rest takes le h = elim (space_tells d.space k) [ inl t ↦ rw t.0 h | inr t ↦ rw t.0 h ]
below_more k n bound (Some d) (Some name) rest takes le h =
    elim (space_tells d.space k) [
      | inl t ↦ let l = rw t.0 at le in rw t.0 (omega (arith, taken (takes d refl), l), h)
      | inr t ↦ rw t.0 h
    ]
  where
    taken : ((Some name ≡ None) ⊎ (0 < d.number)) → 0 < d.number
    taken (inl e) = absurd cc
    taken (inr lt) = lt

below_from : (k : Space) (n bound : ℕ) (es : List Entry) → n + next_index (items es) k ≤ bound → AllByRecursion StartIsNameless es
    → AreBelow bound (names_from k n es)
below_from k n bound [] le h = tt
below_from k n bound (e ∷ es) le h =
    below_more k n bound (defines e.item) e.name (names_from k (n + defined_in k e.item) es) (item_takes e.item e.name h.0)
    (omega (arith, le)) (below_from k (n + defined_in k e.item) bound es (omega (arith, le)) h.1)

pub below : (es : List Entry) (k : Space) → AllByRecursion StartIsNameless es → AreBelow (next_index (items es) k) (names es k)
below es k h = below_from k 0 (next_index (items es) k) es (omega arith) h

-- ---- what commands lead to

names_nameless : (ss : List Subsection) → AllByRecursion StartIsNameless (option_to_list (named_entry ss))
names_nameless [] = tt
names_nameless (s ∷ ss) = ((λ start e. refl), tt)

added_nameless : (es : List Entry) (c : CommandTree) → AddsNameless c → AllByRecursion StartIsNameless (added es c)
added_nameless es (Add x) h = (h, tt)
added_nameless es (Nest name inner) h = ((λ start e. absurd cc), tt)
added_nameless es AppendNames h = names_nameless _

both_nameless : (es xs : List Entry) → AllByRecursion StartIsNameless es → AllByRecursion StartIsNameless xs → AllByRecursion StartIsNameless (es ++ xs)
both_nameless [] xs front behind = behind
both_nameless (e ∷ es) xs front behind = (front.0, both_nameless es xs front.1 behind)

nameless_from : (es : List Entry) (cs : List CommandTree) (answers : List (Result (Option ℕ) Fault)) (all : List Entry)
    → AllByRecursion StartIsNameless es → AllByRecursion AddsNameless cs → RanFrom es cs answers all
    → AllByRecursion StartIsNameless all
nameless_from es [] [] all h adds r = subst (AllByRecursion StartIsNameless) r h
nameless_from es [] (a ∷ answers) all h adds r = absurd r
nameless_from es (c ∷ cs) [] all h adds r = absurd r
nameless_from es (c ∷ cs) (Ok a ∷ answers) all h adds r =
    nameless_from (es ++ added es c) cs answers all (both_nameless es (added es c) h (added_nameless es c adds.0)) adds.1 r.1
nameless_from es (c ∷ cs) (Err fault ∷ answers) all h adds r = nameless_from es cs answers all h adds.1 r.1

pub led_nameless : (cs : List CommandTree) (answers : List (Result (Option ℕ) Fault)) (all : List Entry) → AllByRecursion AddsNameless cs
    → Ran cs answers all → AllByRecursion StartIsNameless all
led_nameless cs answers all adds r = nameless_from [] cs answers all tt adds r

-- and so does each command of the code
viewed : {A : Type 0} (c : Command A) → AddsNameless (command_view c)
viewed (commands.Component' n shape inner) = tt
viewed (commands.Start function args results) = λ start e. refl
viewed commands.AppendNames = tt
viewed other = λ start e. absurd cc

pub all_viewed : {A : Type 0} (cs : List (Command A)) → AllByRecursion AddsNameless (map command_view cs)
all_viewed [] = tt
all_viewed (c ∷ cs) = (viewed c, all_viewed cs)
