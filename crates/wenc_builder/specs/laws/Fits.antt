-- Sections that can be encoded, with one more item.
use Rattle.std.proofs.Common.{◌≡◌, ℕ, ◌<◌, ◌^◌, List, [], ◌∷◌, ◌++◌, length, Option, Some, None}
use Rattle.std.proofs.Common.{inl, inr, refl, length-append, subst, arith}
use Rattle.std.proofs.lemmas.Bool.{cases_lt}
use Rattle.std.proofs.lemmas.Bool.Decides.{eqb_tells}
use Rattle.std.proofs.lemmas.Option.{same_Some}
use Rattle.std.specs.List.{flat_map, AllByRecursion}
use Rattle.std.specs.Prelude.{IsTrue}
use Rattle.wenc_base.specs.Prelude.{NoCause, unsigned_text}
use Rattle.wenc_base.specs.declared.fault.Fault.TheVariants.{TooMany, TooLarge}
use Rattle.wenc_builder.specs.Prelude.{AliasItem, Alone, CanonItem, ComponentItem, CoreInstanceItem}
use Rattle.wenc_builder.specs.Prelude.{CoreTypeItem, CustomItem, ExportItem, ImportItem}
use Rattle.wenc_builder.specs.Prelude.{InstanceItem, Item, ModuleItem, OpenSection, RawItem, Run}
use Rattle.wenc_builder.specs.Prelude.{Section, SectionCause, StartItem, TypeItem, collected}
use Rattle.wenc_builder.specs.Prelude.{collects, item, item_of, open_of, runs, section_piece}
use Rattle.wenc_builder.specs.Prelude.{sections}
use Rattle.wenc_builder.specs.laws.Runs.{runs_extended, pushed, pushed_some, open_skip, runs_push}

-- these sections can be encoded
abbrev pub SectionsFit : List Section → Type 0
SectionsFit ss = (sections ss).Fits

-- the last section, where it is open, isn't too much
abbrev pub HasRoom : Option OpenSection → Type 0
HasRoom o = NoCause (SectionCause o)

-- the section that an item belongs to collects items
collects_it : (x : Item) (id : ℕ) → collected x ≡ Some id → IsTrue (collects id)
collects_it (ModuleItem bytes) id e = absurd cc
collects_it (ComponentItem bytes) id e = absurd cc
collects_it (StartItem s) id e = absurd cc
collects_it (CustomItem c) id e = absurd cc
collects_it (RawItem bytes) id e = absurd cc
collects_it x id e = subst (λ (k : ℕ). IsTrue (collects k)) (same_Some _ id e) refl

-- a section of items that can be encoded, which isn't too much
run_fits : (id : ℕ) (xs : List Item) → IsTrue (collects id)
    → AllByRecursion (λ x. (item_of id x).Fits) xs → HasRoom (open_of (Run id xs ∷ []))
    → (section_piece (Run id xs)).Fits
run_fits id xs one each room = (one, (small, (few, each)))
  where
    few : length xs < 2 ^ 32
    few = elim (cases_lt (length xs) (2 ^ 32)) [ inl short ↦ short | inr long ↦ absurd (room TooMany long) ]

    small : length (unsigned_text (length xs) ++ flat_map (λ x. (item x).text) xs) < 2 ^ 32
    small = elim (cases_lt (length (unsigned_text (length xs) ++ flat_map (λ x. (item x).text) xs)) (2 ^ 32)) [
      | inl short ↦ short
      | inr long ↦ absurd (room TooLarge
          (omega (
            arith,
            long,
            length-append (unsigned_text (length xs))
                (flat_map (λ x. (item x).text) xs),
          )))
    ]

one_fits : (id : ℕ) (x : Item) → collected x ≡ Some id → (item x).Fits
    → HasRoom (open_of (Run id (x ∷ []) ∷ [])) → (section_piece (Run id (x ∷ []))).Fits
one_fits id x e fit room = run_fits id (x ∷ []) (collects_it x id e) ((e, fit), tt) room

all_push : {A : Type 0} (P : A → Type 0) (ys : List A) (x : A) → AllByRecursion P ys → P x
    → AllByRecursion P (ys ++ x ∷ [])
all_push P [] x h p = (p, tt)
all_push P (y ∷ ys) x h p = (h.0, all_push P ys x h.1 p)

fits_extended : (o : Option ℕ) (p : Section) (x : Item) → collected x ≡ o → (section_piece p).Fits
    → (item x).Fits → HasRoom (open_of (runs_extended o p x)) → SectionsFit (runs_extended o p x)
fits_extended None p x e fit one room = (fit, ((e, one), tt))
fits_extended (Some id) (Alone y) x e fit one room = (fit, (one_fits id x e one room, tt))
fits_extended (Some id) (Run other ys) x e fit one room =
    elim (eqb_tells other id) [
      | inl t ↦
          let own : collected x ≡ Some other = rw t.1 e in
          let room' = rw t.0 at room in
          rw t.0 (
            run_fits other (ys ++ x ∷ []) fit.0 (all_push
                (λ y. (item_of other y).Fits) ys x fit.1.1.1 (own, one)) room',
            tt,
          )
      | inr t ↦
          let room' = rw t.0 at room in
          rw t.0 (fit, (one_fits id x e one room', tt))
    ]

fits_pushed : (o : Option ℕ) (ps : List Section) (x : Item) → collected x ≡ o → SectionsFit ps
    → (item x).Fits → HasRoom (open_of (pushed o ps x)) → SectionsFit (pushed o ps x)
fits_pushed None [] x e fit one room = ((e, one), tt)
fits_pushed (Some id) [] x e fit one room = (one_fits id x e one room, tt)
fits_pushed o (p ∷ []) x e fit one room = fits_extended o p x e fit.0 one room
fits_pushed o (p ∷ q ∷ ps) x e fit one room =
    let s = pushed_some o (q ∷ ps) x in
    let room' = rw (open_skip p s.0 (pushed o (q ∷ ps) x) s.1 s.2) at room in
    (fit.0, fits_pushed o (q ∷ ps) x e fit.1 one room')

-- one more item, which can be encoded, in a section that has room for it
pub sections_fit_more : (xs : List Item) (x : Item) → SectionsFit (runs xs) → (item x).Fits
    → HasRoom (open_of (runs (xs ++ x ∷ []))) → SectionsFit (runs (xs ++ x ∷ []))
sections_fit_more xs x fit one room =
    let room' = rw (runs_push xs x) at room in
    rw (runs_push xs x) (fits_pushed (collected x) (runs xs) x refl fit one room')
