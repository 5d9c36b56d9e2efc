-- Members of a list, written one after the other.
use Rattle.std.proofs.Common.{◌≡◌, ℕ, zero, suc, ◌+◌, ◌<◌, List, [], ◌∷◌, ◌++◌, length, take, drop, get_or, append_assoc, length-append, ap}
use Rattle.std.proofs.Common.{sym, ◌∙◌, inl, inr, arith}
use Rattle.std.proofs.lemmas.List.{append-nil, take_at, drop_at}
use Rattle.std.proofs.lemmas.Grind.{flat_map-append}
use Rattle.std.proofs.Math.Numerals.{add-one}
use Rattle.std.proofs.Math.Seq.{take-suc}
use Rattle.std.specs.List.{flat_map}
pub use Rattle.wenc_base.specs.laws.Serves.{still_warranted}
use Rattle.wenc_base.specs.Prelude.{Fault, Form, IsWarranted, NoCause, Written, all_more, list}
use Rattle.wenc_base.specs.Prelude.{member_cause, unsigned_text}

-- nothing of the rest has a cause, since nothing of the whole has one
free_rest : {A : Type 0} (cause : A → Fault → Type 0) (v : A) (vs : List A) → NoCause (member_cause cause (v ∷ vs)) → (fault : Fault)
    → member_cause cause vs fault → ⊥
free_rest cause v vs free fault h = free fault (inr ((λ other c. free other (inl c)), h))

-- the cause of a later value, where the earlier ones have none
pub cause_of_later : {A : Type 0} (cause : A → Fault → Type 0) (vs ws : List A) (fault : Fault) → NoCause (member_cause cause vs)
    → member_cause cause ws fault → member_cause cause (vs ++ ws) fault
cause_of_later cause [] ws fault free h = h
cause_of_later cause (v ∷ vs) ws fault free h = inr ((λ other c. free other (inl c)), cause_of_later cause vs ws fault (free_rest cause v vs free) h)

-- a list without a cause, and one value more without one
pub free_next : {A : Type 0} (cause : A → Fault → Type 0) (vs : List A) (v : A) → NoCause (member_cause cause vs) → NoCause (cause v)
    → (fault : Fault) → member_cause cause (vs ++ v ∷ []) fault → ⊥
free_next cause [] v free last fault h = elim h [ inl c ↦ last fault c | inr p ↦ p.1 ]
free_next cause (w ∷ vs) v free last fault h = elim h [
  | inl c ↦ free fault (inl c)
  | inr p ↦ free_next cause vs v (free_rest cause w vs free) last fault p.1
]

-- the cause of the value at an index is the list's, where no earlier one has a cause
cause_of_member : {A : Type 0} (cause : A → Fault → Type 0) (vs : List A) (i : ℕ) (v : A) (fault : Fault)
    → NoCause (member_cause cause (take i vs)) → i < length vs → v ≡ get_or vs i v → cause v fault → member_cause cause vs fault
cause_of_member cause [] i v fault free lt e h = absurd (omega arith)
cause_of_member cause (w ∷ vs) zero v fault free lt e h = inl (rw e at h)
cause_of_member cause (w ∷ vs) (suc i) v fault free lt e h =
    inr ((λ other c. free other (inl c)), cause_of_member cause vs i v fault (free_rest cause w (take i vs) free) (omega arith) e h)

pub warranted_member : {A : Type 0} (cause : A → Fault → Type 0) (vs : List A) (i : ℕ) (v : A) (fault : Fault)
    → NoCause (member_cause cause (take i vs)) → i < length vs → v ≡ get_or vs i v → IsWarranted (cause v) fault
    → IsWarranted (member_cause cause vs) fault
warranted_member cause vs i v fault free lt e = still_warranted (cause v) (member_cause cause vs) (λ f. cause_of_member cause vs i v f free lt e) fault

-- one value more
pub written_next : {A : Type 0} (form : Form A) (start : List ℕ) (vs : List A) (v : A) (now next : List ℕ)
    → Written form start vs now → next ≡ now ++ (form v).text → (form v).Fits → NoCause (form v).Cause → Written form start (vs ++ v ∷ []) next
written_next {A} form start vs v now next w e fits free = record {
  items = e ∙ ap (λ (bs : List ℕ). bs ++ (form v).text) w.items ∙ append_assoc start (texts vs) (form v).text
      ∙ ap (λ (bs : List ℕ). start ++ (texts vs ++ bs)) (sym (append-nil (form v).text))
      ∙ ap (λ (bs : List ℕ). start ++ bs) (sym (flat_map-append (λ v. (form v).text) vs (v ∷ [])));
  fit = all_more (λ v. (form v).Fits) vs v w.fit fits;
  no_cause = free_next (λ v. (form v).Cause) vs v w.no_cause free;
}
  where
    texts : List A → List ℕ
    texts vs = flat_map (λ v. (form v).text) vs

-- one more, at its index in the list
pub written_at : {A : Type 0} (form : Form A) (start : List ℕ) (vs : List A) (i : ℕ) (v : A) (now next : List ℕ)
    → Written form start (take i vs) now → i < length vs → v ≡ get_or vs i v → next ≡ now ++ (form v).text → (form v).Fits
    → NoCause (form v).Cause → Written form start (take (i + 1) vs) next
written_at form start vs i v now next w lt is e fits free =
    let one : take (i + 1) vs ≡ take i vs ++ v ∷ [] = rw (add-one i, take-suc vs i v lt) (ap (λ u. take i vs ++ u ∷ []) (sym is)) in
    rw one (written_next form start (take i vs) v now next w e fits free)

-- the number in front of the values that were written
pub list_is_written : {A : Type 0} (form : Form A) (old now new : List ℕ) (vs : List A) (lead start count : ℕ)
    → Written form (old ++ lead ∷ []) vs now → length vs ≡ count → start ≡ length old → new ≡ take start now ++ unsigned_text count ++ drop (start + 1) now
    → new ≡ old ++ (list form vs).text
list_is_written form old now new vs lead start count w counted begins h =
    let texts : List ℕ = flat_map (λ v. (form v).text) vs in
    let size : length (old ++ lead ∷ []) ≡ start + 1 = omega (arith, begins, length-append old (lead ∷ [])) in
    let front : take start now ≡ old = ap (λ (bytes : List ℕ). take start bytes) (w.items ∙ append_assoc old (lead ∷ []) texts)
    ∙ take_at old (lead ∷ texts) start (sym begins) in
    let behind : drop (start + 1) now ≡ texts = ap (λ (bytes : List ℕ). drop (start + 1) bytes) w.items ∙ drop_at (old ++ lead ∷ []) texts (start + 1) size in
    h ∙ rw (front, behind, counted) (append_assoc old (unsigned_text count) texts)
