-- What follows where a holder took a member.
use Rattle.std.proofs.Common.{◌≡◌, ℕ, ◌+◌, ◌-◌, true, false, is_none, Some, None, append_assoc}
use Rattle.std.proofs.Common.{List, [], ◌∷◌, ◌++◌, Option, Result, Ok, Err, sym, ap, ◌∙◌, arith}
use Rattle.std.proofs.Common.{inl, inr, refl, length}
use Rattle.std.proofs.lemmas.List.{take_at, append-nil, length-append}
use Rattle.std.specs.List.{flat_map, AllByRecursion}
use Rattle.wenc_base.specs.Encode.{Serves}
use Rattle.wenc_base.specs.Fault.{NoCause}
use Rattle.wenc_base.specs.Piece.{Piece, Form}
use Rattle.wenc_base.specs.Number.{unsigned_text}
use Rattle.wenc_base.specs.Forms.{list, sized}
use Rattle.wenc_base.specs.Holder.{HolderState, is_finished, section_text, with_member, Contains}
use Rattle.wenc_base.specs.Holder.{AddCause, Accepted, AddsMember, AddsListed}
use Rattle.wenc_base.specs.laws.Serves.{still_warranted, either_free, left_free, right_free}
use Rattle.wenc_base.specs.Openings.{member_begun, member_appended, member_ended, member_given_up}
use Rattle.wenc_base.specs.Openings.{is_opened, is_opened_at}
use Rattle.wenc_base.specs.declared.holder.openings.Opening.{Opening}
use Rattle.wenc_base.specs.declared.fault.Fault.{Fault}
use Rattle.std.proofs.lemmas.Grind.{flat_map-append}

-- one more, of which it holds too
pub all_more : {A : Type 0} (P : A → Type 0) (xs : List A) (x : A) → AllByRecursion P xs → P x
    → AllByRecursion P (xs ++ x ∷ [])
all_more P [] x all one = (one, tt)
all_more P (y ∷ ys) x all one = (all.0, all_more P ys x all.1 one)

-- the members, and one more
pub contains_next : {A : Type 0} (form : Form A) (old new : HolderState) (member : A) (members : List A)
    → new ≡ with_member old (form member).text → (form member).Fits → Contains form old members
    → Contains form new (members ++ member ∷ [])
contains_next form old new member members e fits c = rw e (record {
  finished = c.finished;
  count = omega (arith, c.count, length-append members (member ∷ []));
  body = rw c.body (sym (flat_map-append (λ v. (form v).text) members (member ∷ []) ∙ ap
      (λ (t : List ℕ). flat_map (λ v. (form v).text) members ++ t) (append-nil (form member).text)));
  fit = all_more (λ v. (form v).Fits) members member c.fit fits;
})

-- the text of a section is that of its members in the grammar
pub section_text_of : {A : Type 0} (form : Form A) (h : HolderState) (members : List A)
    → Contains form h members → section_text h ≡ (sized (list form members)).text
section_text_of form h members c = rw (
  ← c.count,
  c.body,
  ← length-append (unsigned_text (length members))
      (flat_map (λ m. (form m).text) members),
) refl

same_add : (h : HolderState) (text : List ℕ) (one other : Fault → Type 0)
    → ((fault : Fault) → one fault → other fault) → (fault : Fault) → AddCause h text one fault
    → AddCause h text other fault
same_add h text one other f fault c = elim c [ inl own ↦ inl (f fault own) | inr more ↦ inr more ]

add_free : {p q : Piece} (h : HolderState) → Serves p q → NoCause (AddCause h p.text p.Cause)
    → NoCause (AddCause h q.text q.Cause)
add_free {p} {q} h s none = either_free (s.free (left_free none)) (rw s.text at (right_free {one = p.Cause} none))

add_among : {p q : Piece} (h : HolderState) → Serves p q → (fault : Fault)
    → AddCause h p.text p.Cause fault → AddCause h q.text q.Cause fault
add_among {p} {q} h s fault c = rw s.text at (same_add h p.text p.Cause q.Cause s.among fault c)

-- a piece that was added for another
pub accepted_as : {p q : Piece} (old new : HolderState) → Serves p q → Accepted p old new → Accepted q old new
accepted_as old new s a = record { state = rw s.text at a.state; fits = s.fits a.fits; free = add_free old s a.free }

-- a call that added one piece for another
pub adds_as : {p q : Piece} (old new : HolderState) (outcome : Result (Unit {0}) Fault) → Serves p q
    → AddsMember p old new outcome → AddsMember q old new outcome
adds_as old new (Ok u) s a = record {
  ok = accepted_as old new s a.ok;
  err = tt;
  warranted =
      tt;
  unfinished_first = a.unfinished_first;
}
adds_as old new (Err fault) s a = record {
  ok = tt;
  err = a.err;
  warranted =
      still_warranted _ _ (add_among old s) fault a.warranted;
  unfinished_first = a.unfinished_first;
}

-- a call that added one piece of the values that an iterator gives for another
pub adds_listed_as : {S B : Type 0} (steps : S → Option B → S → Type 0) (values : S)
    (one other : List B → Piece) (old new : HolderState) (outcome : Result (Unit {0}) Fault)
    → ((vs : List B) → Serves (one vs) (other vs)) → AddsListed steps values one old new outcome
    → AddsListed steps values other old new outcome
adds_listed_as steps values one other old new (Ok u) serve a = record {
  ok = (a.ok.0, a.ok.1, a.ok.2, accepted_as old new (serve a.ok.0.items) a.ok.3);
  err = tt;
  warranted = tt;
  unfinished_first = a.unfinished_first;
}
adds_listed_as steps values one other old new (Err fault) serve a = record {
  ok = tt;
  err = a.err;
  warranted = let run = a.warranted.0 in
      (run, a.warranted.1, still_warranted _ _ (add_among old (serve run.items)) fault a.warranted.2);
  unfinished_first = a.unfinished_first;
}

-- ---- a member that is written in several calls

none_of : (o : Option Opening) → is_none o ≡ true → o ≡ None
none_of None e = refl
none_of (Some o) e = cc

-- what is given up leaves no trace
pub given_up_is_before : (h : HolderState) (lead more : List ℕ) → is_finished h ≡ true
    → member_given_up (member_appended (member_begun h lead) more) ≡ h
given_up_is_before h lead more finished =
    let count : h.count + 1 - 1 ≡ h.count = omega arith in
    rw (count, append_assoc h.body lead more, take_at h.body (lead ++ more) (length h.body) refl)
    (ap (λ (o : Option Opening). let held : HolderState =
    record { kept = h.kept; count = h.count; body = h.body; opening = o } in held)
    (sym (none_of h.opening finished)))

-- what is ended is one member more
pub contains_opened : {A : Type 0} (form : Form A) (h : HolderState) (member : A) (members : List A)
    (lead more : List ℕ) → (form member).text ≡ lead ++ more → (form member).Fits
    → Contains form h members → Contains form
    (member_ended (member_appended (member_begun h lead) more)) (members ++ member ∷ [])
contains_opened form h member members lead more e fits c =
    contains_next form h (member_ended (member_appended (member_begun h lead) more)) member members
    (rw (e, none_of h.opening c.finished, append_assoc h.body lead more) refl) fits c

-- what is opened is being written
pub opened_is_unfinished : (h : HolderState) → is_opened h ≡ true → is_finished h ≡ false
opened_is_unfinished h opened = at h.opening opened
  where
    at : (o : Option Opening) → is_opened_at h.body o ≡ true → is_none o ≡ false
    at None opened = cc
    at (Some o) opened = refl

-- bytes and then more are all of them
pub member_appended_twice : (h : HolderState) (text more : List ℕ)
    → member_appended (member_appended h text) more ≡ member_appended h (text ++ more)
member_appended_twice h text more = rw (append_assoc h.body text more) refl
