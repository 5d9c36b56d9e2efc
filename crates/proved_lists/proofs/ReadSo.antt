-- What was returned is read, by what the readers find.
use Rattle.std.proofs.Common.{◌≡◌, ℕ, ◌<◌, ◌≤◌, List, Result, Ok, Err, IfOk, IfErr, inl, inr}
use Rattle.std.proofs.lemmas.Bool.{cases_lt}
use Rattle.wenc_base.specs.Prelude.{Bad, Deep, Form, Reader, Wide}
use Rattle.wenc_read.specs.Prelude.{Gives, IsExactAt, flaw_of}
use Rattle.wenc_read.specs.declared.refusal.NestedRefusal.TheVariants.{Flat, TooDeep}
use Rattle.wenc_types.specs.Prelude.{DefType, def_type, depth, read_type}
use Rattle.wenc_view.specs.Prelude.{GivesNested}
use Rattle.wenc_read.specs.declared.refusal.NestedRefusal.{NestedRefusal}
use Rattle.wenc_read.specs.declared.refusal.Refusal.{Refusal}

-- ---- what doesn't nest

module _ {X A : Type 0} {form : Form A} {read : Reader A} {bytes : List ℕ} (exact : IsExactAt form read bytes) (view : X → A × List ℕ) where
  pub what_is_read : (r : Result X Refusal) → Gives view r (read bytes) → IfOk r (λ x. (form (view x).0).Reads Wide bytes (view x).1)
  what_is_read (Ok x) g = exact.given_is_read (view x).0 (view x).1 g
  what_is_read (Err e) g = tt

  pub none_at_all : (r : Result X Refusal) → Gives view r (read bytes) → IfErr r (λ e. (v : A) (rest : List ℕ) → (form v).Reads Wide bytes rest → ⊥)
  none_at_all (Ok x) g = tt
  none_at_all (Err e) g = λ v rest r. (let found = exact.read_is_given v rest r in absurd cc)

-- ---- types

pub type_given : {X : Type 0} (levels : ℕ) (bytes : List ℕ)
    → ((t : DefType) (rest : List ℕ) → read_type levels bytes ≡ Ok (t, rest) → (depth t ≤ levels) × (def_type t).Reads Wide bytes rest)
    → (view : X → DefType × List ℕ) (r : Result X NestedRefusal) → GivesNested view r (read_type levels bytes)
    → IfOk r (λ x. (depth (view x).0 ≤ levels) × (def_type (view x).0).Reads Wide bytes (view x).1)
type_given levels bytes given view (Ok x) g = given (view x).0 (view x).1 g
type_given levels bytes given view (Err e) g = tt

module _ {X : Type 0} (levels : ℕ) (bytes : List ℕ)
    (found : (t : DefType) (rest : List ℕ) → depth t ≤ levels → (def_type t).Reads Wide bytes rest → read_type levels bytes ≡ Ok (t, rest))
    (deeper : (t : DefType) (rest : List ℕ) → levels < depth t → (def_type t).Reads Wide bytes rest → read_type levels bytes ≡ Err Deep)
    (view : X → DefType × List ℕ) where
  pub no_type : (r : Result X NestedRefusal) → GivesNested view r (read_type levels bytes)
      → IfErr r (λ e. flaw_of e ≡ Bad → (t : DefType) (rest : List ℕ) → (def_type t).Reads Wide bytes rest → ⊥)
  no_type (Ok x) g = tt
  no_type (Err (TooDeep left)) g = λ e. absurd cc
  no_type (Err (Flat refusal)) g = λ e t rest r.
      elim (cases_lt levels (depth t)) [
        | inl lt ↦ (let is = deeper t rest lt r in absurd cc)
        | inr le ↦ (let is = found t rest le r in absurd cc)
      ]

  pub too_deep : (r : Result X NestedRefusal) → GivesNested view r (read_type levels bytes)
      → IfErr r (λ e. flaw_of e ≡ Deep → (t : DefType) (rest : List ℕ) → (def_type t).Reads Wide bytes rest → levels < depth t)
  too_deep (Ok x) g = tt
  too_deep (Err (Flat e)) g = λ e. absurd cc
  too_deep (Err (TooDeep left)) g = λ e t rest r.
      elim (cases_lt levels (depth t)) [
        | inl lt ↦ lt
        | inr le ↦ (let is = found t rest le r in absurd cc)
      ]
