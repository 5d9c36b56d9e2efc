-- What a holder whose members are texts of one kind stays through all calls.
use Rattle.std.proofs.Common.{◌≡◌, ℕ, ◌+◌, ◌-◌, Bool, true, false, is_none, Option, Some, None}
use Rattle.std.proofs.Common.{Result, Ok, Err, append_assoc, List, [], ◌∷◌, ◌++◌, length, refl, sym}
use Rattle.std.proofs.Common.{◌∙◌, arith, subst}
use Rattle.std.proofs.Math.Logic.{∥∥₁_map₂, ∥∥₁_elim, ∥∥₁_prop}
use Rattle.std.proofs.lemmas.List.{take_at, take-append-drop}
use Rattle.std.specs.List.{flat_map, AllByRecursion}
use Rattle.wenc_base.specs.Encode.{Serves}
use Rattle.wenc_base.specs.Piece.{Piece, Form, HasForm, verbatim}
use Rattle.wenc_base.specs.Holder.{HolderState, is_finished, with_member, holding, Contains}
use Rattle.wenc_base.specs.Holder.{ContainsSome, AddsMember, AddsListed}
use Rattle.wenc_base.specs.Parent.{MakesWhole}
use Rattle.wenc_base.specs.Openings.{member_begun, member_appended, member_ended, member_given_up}
use Rattle.wenc_base.specs.Openings.{member_text, OpeningStands, HasMembers}
use Rattle.wenc_base.specs.laws.Holders.{contains_next, all_more}
use Rattle.wenc_base.specs.declared.fault.Fault.{Fault}
use Rattle.wenc_base.specs.declared.fault.Fault.TheVariants.{Unfinished}
use Rattle.wenc_base.specs.declared.holder.openings.Opening.{Opening}
use Rattle.std.proofs.Math.Seq.{drop-append_seam}

-- ---- what is given up

abbrev held_as : List ℕ → ℕ → List ℕ → Option Opening → HolderState
held_as kept count body o = record { kept = kept; count = count; body = body; opening = o }

-- a member that is being written is within its holder
abbrev pub IsWithin : HolderState → Type 0
IsWithin h = OpeningStands h.opening h.count (length h.body)

pub finished_back : (h : HolderState) → is_finished h ≡ true → member_given_up h ≡ h
finished_back h finished = at h.opening finished
  where
    at : (o : Option Opening) → is_none o ≡ true → member_given_up (held_as h.kept h.count h.body o)
        ≡ held_as h.kept h.count h.body o
    at None e = refl
    at (Some o) e = cc

pub closed_as_it_is : (h : HolderState) → is_finished h ≡ true → member_ended h ≡ h
closed_as_it_is h finished = at h.opening finished
  where
    at : (o : Option Opening) → is_none o ≡ true → holding h.kept h.count h.body ≡ held_as h.kept h.count h.body o
    at None e = refl
    at (Some o) e = cc

pub opened_back : (h : HolderState) (lead : List ℕ) → is_finished h ≡ true → member_given_up (member_begun h lead) ≡ h
opened_back h lead finished =
    let counts : h.count + 1 - 1 ≡ h.count = omega arith in
    rw (counts, take_at h.body lead (length h.body) refl) (closed_as_it_is h finished)

-- what is ended is one member more
pub closed_as_more : (h : HolderState) → is_finished h ≡ false → IsWithin h
    → with_member (member_given_up h) (member_text h) ≡ member_ended h
closed_as_more h unfinished within = at h.opening unfinished within
  where
    at : (o : Option Opening) → is_none o ≡ false → OpeningStands o h.count (length h.body)
        → with_member (member_given_up (held_as h.kept h.count h.body o))
        (member_text (held_as h.kept h.count h.body o)) ≡ holding h.kept h.count h.body
    at None e w = cc
    at (Some o) e w =
        let counts : h.count - 1 + 1 ≡ h.count = omega (arith, w.1) in
        rw (counts, take-append-drop o.member_start h.body) refl

-- what was written since a member was opened, its lead with it
pub written_text : (h : HolderState) (lead text : List ℕ)
    → member_text (member_appended (member_begun h lead) text) ≡ lead ++ text
written_text h lead text = rw (append_assoc h.body lead text) (drop-append_seam h.body (lead ++ text))

-- a call that is refused while one is being written wasn't made then
pub was_finished : {T : Type 0} (h : HolderState) (x : T)
    → (is_finished h ≡ false → Ok x ≡ Err Unfinished) → is_finished h ≡ true
was_finished h x refused = at (is_finished h) refused
  where
    at : (b : Bool) → (b ≡ false → Ok x ≡ Err Unfinished) → b ≡ true
    at true r = refl
    at false r = let e = r refl in cc

-- ---- where a member that is being written stands

pub within_finished : (h : HolderState) → is_finished h ≡ true → IsWithin h
within_finished h finished = at h.opening finished
  where
    at : (o : Option Opening) → is_none o ≡ true → OpeningStands o h.count (length h.body)
    at None e = tt
    at (Some o) e = cc

-- ---- members of one kind

module _ (P : List ℕ → Type 0) where
  pub keeps_none : (kept : List ℕ) → HasMembers P (holding kept 0 [])
  keeps_none kept = record {
    settled = ∣ record {
      members = [];
      contained =
          record { finished = refl; count = refl; body = refl; fit = tt };
      each = tt;
    } ∣₁;
    opening = tt;
  }

  some_more : (h : HolderState) (text : List ℕ) → ContainsSome P h → P text → ContainsSome P (with_member h text)
  some_more h text s one = record {
    members = s.members ++ text ∷ [];
    contained = contains_next verbatim h (with_member h text) text s.members refl tt s.contained;
    each = all_more P s.members text s.each one;
  }

  -- what is finished contains some
  pub contains_some : (h : HolderState) → is_finished h ≡ true → HasMembers P h → ∥ ContainsSome P h ∥₁
  contains_some h finished k = subst (λ (s : HolderState). ∥ ContainsSome P s ∥₁) (finished_back h finished) k.settled

  -- and what contains some keeps them
  pub keeps_some : (h : HolderState) → is_finished h ≡ true → ∥ ContainsSome P h ∥₁ → HasMembers P h
  keeps_some h finished s = record {
    settled = subst (λ (s : HolderState). ∥ ContainsSome P s ∥₁)
        (sym (finished_back h finished)) s;
    opening = within_finished h finished;
  }

  -- a member is added
  pub keeps_more : (h : HolderState) (text : List ℕ) → is_finished h ≡ true → ∥ P text ∥₁
      → HasMembers P h → HasMembers P (with_member h text)
  keeps_more h text finished one k = keeps_some (with_member h text) finished
      (∥∥₁_map₂ (contains_some h finished k) one (λ s p. some_more h text s p))

  -- a call adds a member, or is refused
  pub keeps_took : (p : Piece) (old new : HolderState) (outcome : Result (Unit {0}) Fault)
      → (p.Fits → ∥ P p.text ∥₁) → AddsMember p old new outcome → HasMembers P old → HasMembers P new
  keeps_took p old new (Ok u) one a k =
      rw a.ok.state (keeps_more old p.text (was_finished old u a.unfinished_first) (one a.ok.fits) k)
  keeps_took p old new (Err f) one a k = rw a.err k

  pub keeps_list : {S B : Type 0} (steps : S → Option B → S → Type 0) (values : S)
      (piece : List B → Piece) (old new : HolderState) (outcome : Result (Unit {0}) Fault)
      → ((vs : List B) → (piece vs).Fits → ∥ P (piece vs).text ∥₁)
      → AddsListed steps values piece old new outcome → HasMembers P old → HasMembers P new
  keeps_list steps values piece old new (Ok u) each a k =
      rw a.ok.3.state (keeps_more old (piece a.ok.0.items).text
      (was_finished old u a.unfinished_first) (each a.ok.0.items a.ok.3.fits) k)
  keeps_list steps values piece old new (Err f) each a k = rw a.err k

  -- it is ended, as such a text
  pub keeps_closed : (h : HolderState) → ∥ P (member_text h) ∥₁ → HasMembers P h → HasMembers P (member_ended h)
  keeps_closed h whole k = at (is_finished h) refl
    where
      at : (b : Bool) → is_finished h ≡ b → HasMembers P (member_ended h)
      at true finished = subst (HasMembers P) (sym (closed_as_it_is h finished)) k
      at false unfinished =
          let more : ∥ ContainsSome P (with_member (member_given_up h) (member_text h)) ∥₁ =
          ∥∥₁_map₂ k.settled whole (λ s p. some_more (member_given_up h) (member_text h) s p) in
          keeps_some (member_ended h) refl
          (subst (λ (s : HolderState). ∥ ContainsSome P s ∥₁)
          (closed_as_more h unfinished k.opening) more)

-- ---- members that are texts of a form

module _ {A : Type 0} (form : Form A) where
  pub has_form : (v : A) → (form v).Fits → ∥ HasForm form (form v).text ∥₁
  has_form v fits = ∣ record { value = v; fits = fits; is = refl } ∣₁

  -- what serves as a value has the form
  pub serves_form : {p : Piece} (v : A) → Serves p (form v) → p.Fits → ∥ HasForm form p.text ∥₁
  serves_form v s fits = ∣ record { value = v; fits = s.fits fits; is = s.text } ∣₁

  -- a call that adds a value of the form
  pub keeps_added : (old new : HolderState) (outcome : Result (Unit {0}) Fault) (member : A)
      → AddsMember (form member) old new outcome → HasMembers (HasForm form) old
      → HasMembers (HasForm form) new
  keeps_added old new outcome member = keeps_took (HasForm form) (form member) old new outcome (has_form member)

  pub keeps_listed : {S B : Type 0} (steps : S → Option B → S → Type 0) (values : S)
      (old new : HolderState) (outcome : Result (Unit {0}) Fault) (member : List B → A)
      → AddsListed steps values (λ vs. form (member vs)) old new outcome
      → HasMembers (HasForm form) old → HasMembers (HasForm form) new
  keeps_listed steps values old new outcome member = keeps_list (HasForm form) steps values
      (λ vs. form (member vs)) old new outcome (λ vs. has_form (member vs))

  -- a piece that serves as a value makes whole what was opened without a lead
  pub opened_whole : {p : Piece} (h parent : HolderState) → parent ≡ member_begun h [] → (v : A)
      → Serves p (form v) → p.Fits → ∥ HasForm form (member_text (member_appended parent p.text)) ∥₁
  opened_whole {p} h parent e v s fits = rw (e, written_text h [] p.text) (serves_form v s fits)

  -- bytes that have the form make a member whole, where each value does
  pub form_ends : {T : Type 0} (is_whole : T → Type 0) (written : T → List ℕ → T) (x : T)
      → ((v : A) → MakesWhole is_whole written x (form v))
      → (bytes : List ℕ) → ∥ HasForm form bytes ∥₁ → ∥ is_whole (written x bytes) ∥₁
  form_ends is_whole written x whole bytes some = ∥∥₁_elim some ∥∥₁_prop (λ f. rw f.is (whole f.value f.fits))

-- members that are texts of a form are values of it

values_of : {A : Type 0} (form : Form A) (members : List (List ℕ)) → AllByRecursion (HasForm form) members
    → (xs : List A) × (length xs ≡ length members)
    × (flat_map (λ m. (verbatim m).text) members ≡ flat_map (λ x. (form x).text) xs)
    × AllByRecursion (λ x. (form x).Fits) xs
values_of form [] each = ([], refl, refl, tt)
values_of form (m ∷ ms) each =
    let more = values_of form ms each.1 in
    let one = each.0 in
    (one.value ∷ more.0, omega (arith, more.1), rw (one.is, more.2) refl, (one.fits, more.3))

pub contains_values : {A : Type 0} (form : Form A) (h : HolderState) → ContainsSome (HasForm form) h
    → (xs : List A) × Contains form h xs
contains_values form h s =
    let all = values_of form s.members s.each in (
      all.0,
      record {
        finished = s.contained.finished;
        count = all.1 ∙ s.contained.count;
        body =
            s.contained.body ∙ all.2;
        fit = all.3;
      },
    )
