-- One piece for another: what is so of a call that writes the one is so of one that writes the
-- other.
use Rattle.std.proofs.Common.{◌≡◌, List, [], ◌∷◌, ◌++◌, map, ℕ, length, Option, Some, None}
use Rattle.std.proofs.Common.{option_map, Result, Ok, Err, OnOk, IfErr, inl, inr, refl, ap, ◌∙◌}
use Rattle.std.specs.List.{flat_map, AllByRecursion}
use Rattle.wenc_base.specs.Encode.{Appends, Serves, in_order, list_in_order, drawn_in_order, sized_in_order}
use Rattle.wenc_base.specs.Fault.{IsWarranted, NoCause, either, first_of, count_cause, size_cause, member_cause}
use Rattle.wenc_base.specs.Forms.{list, option, sized}
use Rattle.wenc_base.specs.Holder.{listed}
use Rattle.wenc_base.specs.Piece.{Piece, Form, AnyCause, ◌▸◌, ◌⨾◌, nothing, verbatim, behind_bytes}
use Rattle.wenc_base.specs.declared.fault.Fault.{Fault}
use Rattle.wenc_base.specs.declared.fault.Fault.TheVariants.{Memory, TooMany, TooLarge, Unfinished}
use Rattle.std.proofs.lemmas.List.{length-map, append-nil}

-- ---- causes

-- another cause that follows warrants the same faults
pub still_warranted : (one other : Fault → Type 0) → ((fault : Fault) → one fault → other fault)
    → (fault : Fault) → IsWarranted one fault → IsWarranted other fault
still_warranted one other f (Memory e) h = h
still_warranted one other f TooMany h = f TooMany h
still_warranted one other f TooLarge h = f TooLarge h
still_warranted one other f Unfinished h = f Unfinished h

-- what is never refused but for want of memory
abbrev pub never : Fault → Type 0
never fault = ⊥

-- each cause of the one is a cause of the other, and where the one has none, the other has none
abbrev pub IsAmong : (Fault → Type 0) → (Fault → Type 0) → Type 0
IsAmong one other = ((fault : Fault) → one fault → other fault) × (NoCause one → NoCause other)

-- none of two, where neither has one
pub either_free : {one other : Fault → Type 0} → NoCause one → NoCause other → NoCause (either one other)
either_free a b fault (inl c) = a fault c
either_free a b fault (inr c) = b fault c

pub left_free : {one other : Fault → Type 0} → NoCause (either one other) → NoCause one
left_free none fault c = none fault (inl c)

pub right_free : {one other : Fault → Type 0} → NoCause (either one other) → NoCause other
right_free none fault c = none fault (inr c)

-- the first of two
pub first_among : {one next one' next' : Fault → Type 0} → IsAmong one one' → IsAmong next next'
    → IsAmong (first_of one next) (either one' next')
first_among {one} {next} {one'} {next'} a b = (there, free)
  where
    there : (fault : Fault) → first_of one next fault → either one' next' fault
    there fault (inl c) = inl (a.0 fault c)
    there fault (inr c) = inr (b.0 fault c.1)

    free : NoCause (first_of one next) → NoCause (either one' next')
    free none fault (inl c) = a.1 (λ f k. none f (inl k)) fault c
    free none fault (inr c) = b.1 (λ f k. none f (inr ((λ g l. none g (inl l)), k))) fault c

-- or of two whose order is turned
swapped : (one other : Fault → Type 0) (fault : Fault) → either one other fault → either other one fault
swapped one other fault (inl c) = inr c
swapped one other fault (inr c) = inl c

pub turned_among : {one next one' next' : Fault → Type 0} → IsAmong one one' → IsAmong next next'
    → IsAmong (first_of one next) (either next' one')
turned_among {one' = one'} {next' = next'} a b =
    let f = first_among a b in
    ((λ fault c. swapped one' next' fault (f.0 fault c)), λ none fault c. f.1 none fault (swapped next' one' fault c))

-- one of two
pub both_among : {one next one' next' : Fault → Type 0} → IsAmong one one' → IsAmong next next'
    → IsAmong (either one next) (either one' next')
both_among {one} {next} {one'} {next'} a b = (there, λ none. either_free (a.1 (left_free none)) (b.1 (right_free none)))
  where
    there : (fault : Fault) → either one next fault → either one' next' fault
    there fault (inl c) = inl (a.0 fault c)
    there fault (inr c) = inr (b.0 fault c)

pub itself_among : {one : Fault → Type 0} → IsAmong one one
itself_among = ((λ fault c. c), λ none. none)

-- the first of values
pub member_among : {A : Type 0} (cause : A → Fault → Type 0) (vs : List A)
    → IsAmong (member_cause cause vs) (AnyCause cause vs)
member_among cause [] = itself_among
member_among cause (v ∷ vs) = first_among itself_among (member_among cause vs)

-- ---- pieces

pub serves_itself : {p : Piece} → Serves p p
serves_itself = record { text = refl; fits = λ h. h; among = λ fault c. c; free = λ none. none }

pub serves_then : {p q r : Piece} → Serves p q → Serves q r → Serves p r
serves_then a b = record {
  text = a.text ∙ b.text;
  fits = λ h. b.fits (a.fits h);
  among = λ fault c. b.among fault (a.among fault c);
  free = λ none. b.free (a.free none);
}

pub tagged_serves : {p q : Piece} (b : ℕ) → Serves p q → Serves (b ▸ p) (b ▸ q)
tagged_serves b s = record { text = ap (λ (t : List ℕ). b ∷ t) s.text; fits = s.fits; among = s.among; free = s.free }

pub both_serve : {p q p' q' : Piece} → Serves p p' → Serves q q' → Serves (p ⨾ q) (p' ⨾ q')
both_serve {p} {q} {p'} {q'} a b = record {
  text = rw (a.text, b.text) refl;
  fits = λ h. (a.fits h.0, b.fits h.1);
  among = λ fault c. elim c [ inl k ↦ inl (a.among fault k) | inr k ↦ inr (b.among fault k) ];
  free = λ none. either_free (a.free (left_free none)) (b.free (right_free none));
}

pub behind_serves : {p q : Piece} (lead : List ℕ) → Serves p q → Serves (behind_bytes lead p) (behind_bytes lead q)
behind_serves [] s = s
behind_serves (b ∷ lead) s = tagged_serves b (behind_serves lead s)

pub behind_is : (lead : List ℕ) (p : Piece) → Serves (verbatim lead ⨾ p) (behind_bytes lead p)
behind_is [] p = record {
  text = refl;
  fits = λ h. h.1;
  among =
      λ fault c. elim c [ inl none ↦ absurd none | inr k ↦ k ];
  free = λ none. right_free none;
}
behind_is (b ∷ lead) p =
    let s = behind_is lead p in
    record { text = ap (λ (t : List ℕ). b ∷ t) s.text; fits = s.fits; among = s.among; free = s.free }

-- a piece with nothing after it
pub with_nothing : {p : Piece} → Serves (p ⨾ nothing) p
with_nothing {p} = record {
  text = append-nil p.text;
  fits = λ h. h.0;
  among =
      λ fault c. elim c [ inl k ↦ k | inr none ↦ absurd none ];
  free = left_free;
}

-- bytes, a list, and nothing
pub listed_behind : {A : Type 0} (lead : List ℕ) (form : Form A) (vs : List A)
    → Serves (listed (verbatim lead) form nothing vs) (behind_bytes lead (list form vs))
listed_behind lead form vs = serves_then
    (both_serve {p = verbatim lead} {p' = verbatim lead} serves_itself
    (with_nothing {p = list form vs})) (behind_is lead (list form vs))

pub option_serves : {A S : Type 0} (one : Form A) (seen : A → S) (form : Form S)
    → ((v : A) → Serves (one v) (form (seen v))) → (o : Option A)
    → Serves (option one o) (option form (option_map seen o))
option_serves one seen form serves None = serves_itself
option_serves one seen form serves (Some v) = tagged_serves 0x01 (serves v)

pub order_serves : {p q p' q' : Piece} → Serves p p' → Serves q q' → Serves (in_order p q) (p' ⨾ q')
order_serves {p} {q} {p'} {q'} a b =
    let c : IsAmong (first_of p.Cause q.Cause) (either p'.Cause q'.Cause) =
    first_among (a.among, a.free) (b.among, b.free) in
    record { text = rw (a.text, b.text) refl; fits = λ h. (a.fits h.0, b.fits h.1); among = c.0; free = c.1 }

-- two pieces, and three, whichever refusal is met first
pub two_serve : (p q : Piece) → Serves (in_order p q) (p ⨾ q)
two_serve p q = order_serves (serves_itself {p = p}) (serves_itself {p = q})

pub three_serve : (p q r : Piece) → Serves (in_order p (in_order q r)) (p ⨾ q ⨾ r)
three_serve p q r = order_serves (serves_itself {p = p}) (two_serve q r)

pub sized_serves : {p q : Piece} → Serves p q → Serves (sized_in_order p) (sized q)
sized_serves {p} {q} a =
    let same : IsAmong (size_cause (length p.text)) (size_cause (length q.text)) =
    rw a.text ((λ fault c. c), λ none. none) in
    let c : IsAmong (first_of p.Cause (size_cause (length p.text)))
    (either (size_cause (length q.text)) q.Cause) = turned_among (a.among, a.free) same in
    record { text = rw a.text refl; fits = λ h. (rw a.text at h.0, a.fits h.1); among = c.0; free = c.1 }

-- a list, whichever refusal is met first
pub list_is_list : {A : Type 0} (form : Form A) (vs : List A) → Serves (list_in_order form vs) (list form vs)
list_is_list form vs =
    let c = first_among {one = count_cause (length vs)} itself_among (member_among (λ v. (form v).Cause) vs) in
    record { text = refl; fits = λ h. h; among = c.0; free = c.1 }

pub drawn_is_list : {A : Type 0} (form : Form A) (vs : List A) → Serves (drawn_in_order form vs) (list form vs)
drawn_is_list form vs =
    let c = turned_among {next = count_cause (length vs)} (member_among (λ v. (form v).Cause) vs) itself_among in
    record { text = refl; fits = λ h. h; among = c.0; free = c.1 }

module _ {A S : Type 0} (one : Form A) (seen : A → S) (form : Form S)
    (serves : (v : A) → Serves (one v) (form (seen v))) where
  each_text : (vs : List A) → flat_map (λ v. (one v).text) vs ≡ flat_map (λ s. (form s).text) (map seen vs)
  each_text [] = refl
  each_text (v ∷ vs) = rw ((serves v).text, each_text vs) refl

  each_fits : (vs : List A) → AllByRecursion (λ v. (one v).Fits) vs → AllByRecursion (λ s. (form s).Fits) (map seen vs)
  each_fits [] h = tt
  each_fits (v ∷ vs) h = ((serves v).fits h.0, each_fits vs h.1)

  each_among : (vs : List A) → IsAmong (AnyCause (λ v. (one v).Cause) vs) (AnyCause (λ s. (form s).Cause) (map seen vs))
  each_among [] = itself_among
  each_among (v ∷ vs) = both_among ((serves v).among, (serves v).free) (each_among vs)

  -- a list, by what is seen of its values
  pub lists_serve : (vs : List A) → Serves (list one vs) (list form (map seen vs))
  lists_serve vs =
      let counts : IsAmong (count_cause (length vs)) (count_cause (length (map seen vs))) =
      rw (length-map vs seen) itself_among in
      let c = both_among counts (each_among vs) in
      record {
        text = rw (length-map vs seen, each_text vs) refl;
        fits =
            λ h. (rw (length-map vs seen) h.0, each_fits vs h.1);
        among = c.0;
        free = c.1;
      }

  pub list_serves : (vs : List A) → Serves (list_in_order one vs) (list form (map seen vs))
  list_serves vs = serves_then (list_is_list one vs) (lists_serve vs)

  -- a list after bytes, by what is seen of its values
  pub listed_serves : (lead : List ℕ) (vs : List A) → Serves (behind_bytes lead (list one vs))
      (behind_bytes lead (list form (map seen vs)))
  listed_serves lead vs = behind_serves lead (lists_serve vs)

-- ---- calls

pub appends_as : {p q : Piece} (unfinished : Type 0) (old new : List ℕ) (outcome : Result (Unit {0}) Fault) → Serves p q
    → Appends p.text p.Cause unfinished old new outcome → Appends q.text q.Cause unfinished old new outcome
appends_as {p} {q} unfinished old new outcome s a = record {
  ok = ok outcome a.ok;
  encodable = λ fault c. encodable outcome a.encodable fault c;
  err = a.err;
  warranted = warranted outcome a.warranted;
  unfinished_first = a.unfinished_first;
}
  where
    ok : (outcome : Result (Unit {0}) Fault) → OnOk outcome (new ≡ old ++ p.text) → OnOk outcome (new ≡ old ++ q.text)
    ok (Ok u) h = rw s.text at h
    ok (Err fault) h = tt

    encodable : (outcome : Result (Unit {0}) Fault)
        → ((fault : Fault) → p.Cause fault → OnOk outcome ⊥) → (fault : Fault) → q.Cause fault
        → OnOk outcome ⊥
    encodable (Ok u) h fault c = s.free h fault c
    encodable (Err f) h fault c = tt

    warranted : (outcome : Result (Unit {0}) Fault) → IfErr outcome (IsWarranted p.Cause)
        → IfErr outcome (IsWarranted q.Cause)
    warranted (Ok u) h = tt
    warranted (Err fault) h = still_warranted p.Cause q.Cause s.among fault h

-- nothing in the value is unfinished
pub appends_finished : {text : List ℕ} {cause : Fault → Type 0} (one other : Type 0)
    (old new : List ℕ) (outcome : Result (Unit {0}) Fault) → (other → ⊥)
    → Appends text cause one old new outcome → Appends text cause other old new outcome
appends_finished one other old new outcome never a =
    record {
      ok = a.ok;
      encodable = a.encodable;
      err = a.err;
      warranted =
          a.warranted;
      unfinished_first = λ u. absurd (never u);
    }

pub fits_as : {p q : Piece} (outcome : Result (Unit {0}) Fault) → Serves p q → OnOk outcome p.Fits → OnOk outcome q.Fits
fits_as (Ok u) s h = s.fits h
fits_as (Err fault) s h = tt
