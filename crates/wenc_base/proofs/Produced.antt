-- A field that the producers section took.
use Rattle.std.proofs.Common.{◌≡◌, ℕ, ◌+◌, ◌^◌, ◌<◌, true, List, ◌++◌, length, Result, Ok, refl, sym, ◌∙◌, inl, inr, arith}
use Rattle.std.proofs.lemmas.List.{length-append}
use Rattle.wenc_base.specs.Prelude.{Accepted, AddCause, AddsMember, Contains, Fault, FieldCause}
use Rattle.wenc_base.specs.Prelude.{HolderState, NoCause, Producer, Producers, Serves, adds_as}
use Rattle.wenc_base.specs.Prelude.{content_size, held_field, held_members, held_text, in_order}
use Rattle.wenc_base.specs.Prelude.{is_finished, list, name, producer, producers_field}
use Rattle.wenc_base.specs.Prelude.{producers_held, producers_label, producers_section, refused_for}
use Rattle.wenc_base.specs.Prelude.{size_free, u32, unsigned_text}
use Rattle.wenc_base.specs.Number.{groups}
use Rattle.wenc_base.specs.declared.fault.Fault.TheVariants.{Unfinished}

pub field_added : (old new : HolderState) (field : List ℕ) (tools : HolderState) → Accepted (in_order (name field) (held_members tools)) old new
    → 10 + content_size new.count (length new.body) < 2 ^ 32 → is_finished tools ≡ true
    → AddsMember (refused_for (FieldCause old field tools) (held_field field tools)) old new (Ok tt)
field_added old new field tools a small finished = record {
  ok = record { state = a.state; fits = a.fits; free = free };
  err = tt;
  warranted = tt;
  unfinished_first = λ f. absurd (a.free Unfinished (inr (inr (refl, f))));
}
  where
    within : 10 + content_size (old.count + 1) (length (old.body ++ (held_field field tools).text)) < 2 ^ 32
    within = rw a.state at small

    free : NoCause (AddCause old (held_field field tools).text (FieldCause old field tools))
    free fault h = elim h [
      | inl own ↦ elim own [
        | inl part ↦ elim part [ inl one ↦ a.free fault (inl (inl one)) | inr stopped ↦ absurd cc ]
        | inr large ↦ absurd (omega (arith, large.1, within))
      ]
      | inr more ↦ a.free fault (inr more)
    ]

-- a field of the tools that are held is added as one of these tools
pub typed_field : (old new : HolderState) (outcome : Result (Unit {0}) Fault) (field : List ℕ) (tools : HolderState) (each : List Producer)
    → Contains producer tools each
    → AddsMember (refused_for (FieldCause old field tools) (held_field field tools)) old new outcome
    → AddsMember (refused_for (FieldCause old field tools) (producers_field (record { field = field; tools = each }))) old new outcome
typed_field old new outcome field tools each holds a = adds_as old new outcome serves a
  where
    written : Producers
    written = record { field = field; tools = each }

    counted : (held_field field tools).Fits → (producers_field written).Fits
    counted h = (h.0, (rw holds.count h.1.0, holds.fit))

    serves : Serves (refused_for (FieldCause old field tools) (held_field field tools)) (refused_for (FieldCause old field tools) (producers_field written))
    serves = record { text = rw (← holds.count, holds.body) refl; fits = counted; among = λ fault c. c; free = λ none. none }

-- how many bytes follow the section's size
label_size : (h : HolderState) → length ((name producers_label).text ++ (held_members h).text) ≡ 10 + content_size h.count (length h.body)
unfolding groups
label_size h = omega (arith, length-append (unsigned_text h.count) h.body)

-- the section's parts serve as it
pub section_serves : (h : HolderState) (size : ℕ) → size ≡ 10 + content_size h.count (length h.body) → size < 2 ^ 32
    → Serves (in_order (u32 size) (in_order (name producers_label) (held_members h))) (producers_held h)
section_serves h size e small = record {
  text = rw (← bytes) refl;
  fits = λ fits. (rw bytes at small, (fits.1.0, fits.1.1));
  among = among;
  free = λ none fault c. none fault (inr ((λ f n. n), inr (label_free, c)));
}
  where
    bytes : size ≡ length ((name producers_label).text ++ (held_members h).text)
    bytes = e ∙ sym (label_size h)

    label_free : NoCause (name producers_label).Cause
    label_free fault (inl c) = size_free 9 (omega arith) fault c
    label_free fault (inr c) = c

    among : (fault : Fault) → (in_order (u32 size) (in_order (name producers_label) (held_members h))).Cause fault → (producers_held h).Cause fault
    among fault (inl none) = absurd none
    among fault (inr (none, inl c)) = absurd (label_free fault c)
    among fault (inr (none, inr c)) = c.1

-- a section that has these fields
pub section_of_fields : (section : HolderState) (fields : List Producers) → Contains producers_field section fields
    → (producers_held section).text ≡ (producers_section fields).text
unfolding groups
section_of_fields section fields holds = rw (← holds.count, holds.body) refl

-- the data of a section that has these fields
pub data_of_fields : (section : HolderState) (fields : List Producers) → Contains producers_field section fields
    → held_text section ≡ (list producers_field fields).text
data_of_fields section fields holds = rw (← holds.count, holds.body) refl
