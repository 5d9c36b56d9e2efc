-- Neighbours among the sections into which items are cut are of other kinds.
use Rattle.std.proofs.Common.{◌≡◌, ◌≢◌, ℕ, List, [], ◌∷◌, ◌++◌, Option, Some, None, refl, subst, inl, inr}
use Rattle.std.proofs.lemmas.Bool.Decides.{eqb_tells}
use Rattle.wenc_builder.specs.Prelude.{Alone, Item, Run, Section, collected, joined, runs}

-- they don't collect items of one kind
abbrev Differ : Section → Section → Type 0
Differ (Run id xs) (Run other ys) = id ≢ other
Differ s t = Unit {0}

-- no two neighbours do
abbrev AllDiffer : List Section → Type 0
AllDiffer [] = Unit {0}
AllDiffer (s ∷ []) = Unit {0}
AllDiffer (s ∷ t ∷ ss) = Differ s t × AllDiffer (t ∷ ss)

-- what follows a run doesn't ask for the run's items
longer_run : (id : ℕ) (ys zs : List Item) (ss : List Section) → AllDiffer (Run id ys ∷ ss) → AllDiffer (Run id zs ∷ ss)
longer_run id ys zs [] h = tt
longer_run id ys zs (Run other xs ∷ ss) h = h
longer_run id ys zs (Alone x ∷ ss) h = h

behind_alone : (x : Item) (ss : List Section) → AllDiffer ss → AllDiffer (Alone x ∷ ss)
behind_alone x [] h = tt
behind_alone x (s ∷ ss) h = (tt, h)

joined_differ : (o : Option ℕ) (x : Item) (ss : List Section) → AllDiffer ss → AllDiffer (joined o x ss)
joined_differ None x ss h = behind_alone x ss h
joined_differ (Some id) x [] h = tt
joined_differ (Some id) x (Alone y ∷ ss) h = (tt, h)
joined_differ (Some id) x (Run other ys ∷ ss) h =
    elim (eqb_tells id other) [ inl t ↦ rw t.0 (longer_run other ys (x ∷ ys) ss h) | inr t ↦ rw t.0 (t.1, h) ]

runs_differ : (xs : List Item) → AllDiffer (runs xs)
runs_differ [] = tt
runs_differ (x ∷ xs) = joined_differ (collected x) x (runs xs) (runs_differ xs)

behind_front : (front ss : List Section) → AllDiffer (front ++ ss) → AllDiffer ss
behind_front [] ss h = h
behind_front (s ∷ front) ss h = behind_front front ss (without_first s (front ++ ss) h)
  where
    without_first : (s : Section) (ts : List Section) → AllDiffer (s ∷ ts) → AllDiffer ts
    without_first s [] h = tt
    without_first s (t ∷ ts) h = h.1

pub never_alike : (xs : List Item) (front behind : List Section) (id : ℕ) (ys zs : List Item) → runs xs ≡ front ++ Run id ys ∷ Run id zs ∷ behind → ⊥
never_alike xs front behind id ys zs e = (behind_front front (Run id ys ∷ Run id zs ∷ behind) (subst AllDiffer e (runs_differ xs))).0 refl
