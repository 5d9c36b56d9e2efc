-- Items of one collected kind: one section, none raw, and as many indices as items.
use Rattle.std.proofs.Common.{◌≡◌, ℕ, List, [], ◌∷◌, length, Some, refl, ◌∙◌, ap, inl, inr, arith}
use Rattle.std.specs.List.{AllByRecursion}
use Rattle.std.proofs.lemmas.Bool.Decides.{eqb_tells}
use Rattle.wenc_builder.specs.Prelude.{HasNoRaw, IsNoRaw, Item, RawItem, Run, collected, defined_in}
use Rattle.wenc_builder.specs.Prelude.{defines, joined, next_index, number_in, runs, some_in}
use Rattle.wenc_sections.specs.declared.space.Space.{Space}
use Rattle.wenc_sections.specs.laws.Space.{space_decides}

joined_to_run : (id : ℕ) (x : Item) (xs : List Item) → joined (Some id) x (Run id xs ∷ []) ≡ Run id (x ∷ xs) ∷ []
joined_to_run id x xs = elim (eqb_tells id id) [ inl t ↦ rw t.0 refl | inr t ↦ absurd (t.1 refl) ]

pub one_section : (id : ℕ) (x : Item) (xs : List Item) → AllByRecursion (λ y. collected y ≡ Some id) (x ∷ xs) → runs (x ∷ xs) ≡ Run id (x ∷ xs) ∷ []
one_section id x [] (c, _) = rw c refl
one_section id x (y ∷ ys) (c, cs) = rw (c, one_section id y ys cs) (joined_to_run id x (y ∷ ys))

not_raw : (id : ℕ) (x : Item) → collected x ≡ Some id → IsNoRaw x
not_raw id (RawItem bytes) e = absurd cc
not_raw id other e = tt

pub none_raw : (id : ℕ) (xs : List Item) → AllByRecursion (λ y. collected y ≡ Some id) xs → HasNoRaw xs
none_raw id [] cs = tt
none_raw id (x ∷ xs) (c, cs) = (not_raw id x c, none_raw id xs cs)

one_in : (space : Space) → number_in space (some_in space 1) ≡ 1
one_in space = rw ((space_decides space space).1 refl) refl

pub as_many : (space : Space) (xs : List Item) → AllByRecursion (λ y. defines y ≡ some_in space 1) xs → next_index xs space ≡ length xs
as_many space [] ds = refl
as_many space (x ∷ xs) (d, ds) =
    let one : defined_in space x ≡ 1 = ap (number_in space) d ∙ one_in space in
    omega (arith, one, as_many space xs ds)
