-- Something that stands alone, with indices in a space.
use Rattle.std.proofs.Common.{◌≡◌, ℕ, true, is_none, List, length, Option, Some, None, Result, Ok, Err, refl, sym, inl, inr, arith, subst}
use Rattle.std.proofs.lemmas.List.{get_or-set_same}
use Rattle.wenc_base.specs.Prelude.{IsWarranted, Piece, Serves, still_warranted}
use Rattle.wenc_builder.specs.Prelude.{AddsSection, AddsUnindexedSection, Agree, AppendsSection}
use Rattle.wenc_builder.specs.Prelude.{Buffered, CallCause, Indices, Namespace, SpaceCause, Spaced}
use Rattle.wenc_builder.specs.Prelude.{State, buffer_with, builder_view, content_with_section}
use Rattle.wenc_builder.specs.Prelude.{namespace_at, namespace_with, no_names}
use Rattle.wenc_sections.specs.Prelude.{space_number}
use Rattle.wenc_base.specs.declared.fault.Fault.{Fault}
use Rattle.wenc_sections.specs.laws.Space.{space_within}
use Rattle.wenc_builder.proofs.Taken.{settled_before}

-- its space, as it is with it
abbrev pub space_after : State → Indices → Option (List ℕ) → Namespace
space_after s d name = namespace_with (namespace_at s.settled.spaces d.space) d.number name

there : (old : State) (d : Indices) (name : Option (List ℕ)) (text : List ℕ) → length old.settled.spaces ≡ 13
    → namespace_at (content_with_section old.settled (Some d) name text).spaces d.space ≡ space_after old d name
there old d name text h = get_or-set_same old.settled.spaces (space_number d.space) (space_after old d name) no_names (omega (arith, h, space_within d.space))

module _ (b : Buffered) (s : Spaced) (old new : State) (fault : Fault) (d : Indices) (name : Option (List ℕ)) (p : Piece)
    (a : Agree b.writing s.taking) (view : builder_view b s ≡ old) (w : is_none b.writing ≡ true) (same : new ≡ old) where
  refused : (cause : Fault → Type 0)
      → ((f : Fault) → cause f → CallCause old p.Cause (content_with_section old.settled (Some d) name p.text) (Some d) f)
      → IsWarranted cause fault → AddsSection old new (Err fault) d name p
  refused cause there warranted = record {
    returned = tt;
    ok = tt;
    fits = tt;
    free = tt;
    err = same;
    warranted = still_warranted _ _ there fault warranted;
    unfinished_first = λ e. let none = settled_before b s old a view w in cc;
  }

  pub alone_without_indices : length old.settled.spaces ≡ 13 → IsWarranted (SpaceCause (space_after old d name)) fault
      → AddsSection old new (Err fault) d name p
  alone_without_indices all = refused (SpaceCause (space_after old d name))
      (λ f c. inl (inr (inl (subst (λ (n : Namespace). SpaceCause n f) (sym (there old d name p.text all)) c))))

  pub alone_unwritten : IsWarranted p.Cause fault → AddsSection old new (Err fault) d name p
  alone_unwritten = refused p.Cause (λ f c. inl (inl c))

-- ---- without an index

-- a call that writes what serves as a piece writes that piece
pub stands_as : {p q : Piece} (old new : Buffered) (result : Result (Unit {0}) Fault) → Serves p q → AppendsSection old new result p
    → AppendsSection old new result q
stands_as old new (Ok u) s t = record {
  ok = subst (λ (text : List ℕ). new ≡ buffer_with old text) s.text t.ok;
  fits = s.fits t.fits;
  free = s.free t.free;
  err = tt;
  warranted = tt;
}
stands_as old new (Err fault) s t = record { ok = tt; fits = tt; free = tt; err = t.err; warranted = still_warranted _ _ s.among fault t.warranted }

pub stood_nowhere : (b next : Buffered) (s : Spaced) (old : State) (result : Result (Unit {0}) Fault) (p : Piece) → Agree b.writing s.taking
    → builder_view b s ≡ old → is_none b.writing ≡ true → AppendsSection b next result p
    → AddsUnindexedSection old (builder_view next s) result p
stood_nowhere b next s old (Ok u) p a view w t = record {
  returned = tt;
  ok = rw (t.ok, ← view) refl;
  fits = t.fits;
  free = free;
  err = tt;
  warranted = tt;
  unfinished_first = λ e. let none = settled_before b s old a view w in cc;
}
  where
    free : (fault : Fault) → CallCause old p.Cause (content_with_section old.settled None None p.text) None fault → ⊥
    free fault (inl (inl c)) = t.free fault c
    free fault (inl (inr (inl c))) = c
    free fault (inl (inr (inr c))) = c
    free fault (inr c) = let none = settled_before b s old a view w in let unfinished = c.1 in cc
stood_nowhere b next s old (Err fault) p a view w t = record {
  returned = tt;
  ok = tt;
  fits = tt;
  free = tt;
  err = rw t.err view;
  warranted = still_warranted _ _ refuses fault t.warranted;
  unfinished_first = λ e. let none = settled_before b s old a view w in cc;
}
  where
    refuses : (f : Fault) → p.Cause f → CallCause old p.Cause (content_with_section old.settled None None p.text) None f
    refuses f c = inl (inl c)
