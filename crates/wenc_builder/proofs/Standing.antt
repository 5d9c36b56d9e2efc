-- A builder stays one: its buffer and its spaces agree, and it holds some entries.
use Rattle.std.proofs.Common.{◌≡◌, ℕ, List, true, is_none, Option, Some, None, Result, Ok, Err, OnOk, OnErr, [], refl, sym, subst}
use Rattle.wenc_base.specs.Prelude.{Extends, ExtendsListed, NoCause, Piece, right_free}
use Rattle.wenc_builder.specs.Prelude.{Buffered, IsBuilder, IsItemText, NoRoom, SectionCause}
use Rattle.wenc_builder.specs.Prelude.{SectionsState, Spaced, buffer_appended, buffer_begun}
use Rattle.wenc_builder.specs.Prelude.{buffer_ended, buffer_given_up, buffer_with, builder_view}
use Rattle.wenc_builder.specs.Prelude.{content_of, is_whole, item_appended, section_appended}
use Rattle.wenc_builder.specs.Prelude.{section_begun, spaces_begun, spaces_ended}
use Rattle.wenc_builder.specs.inside.HoldsSome.{HoldsSome}
use Rattle.wenc_base.specs.declared.fault.Fault.{Fault}
use Rattle.wenc_sections.specs.declared.space.Space.{Space}
use Rattle.wenc_builder.specs.inside.Spaces.{spaces_given_up}
use Rattle.wenc_builder.specs.laws.Held.{some_begun, some_appended, some_ended, some_given_up, some_alone, start_takes_values}
use Rattle.wenc_sections.specs.declared.space.Space.TheVariants.{Values}
use Rattle.wenc_builder.proofs.Viewed.{appended_is, appended_section, still_agree, ended_is, not_taking}

pub writing_none : (b : Buffered) → is_none b.writing ≡ true → b.writing ≡ None
writing_none b e = at b.writing e
  where
    at : {A : Type 0} (o : Option A) → is_none o ≡ true → o ≡ None
    at None f = refl
    at (Some w) f = cc

module _ (b : Buffered) (s : Spaced) (i : IsBuilder b s) where
  -- ---- more of an item

  longer_stands : (text : List ℕ) → NoCause (NoRoom (section_appended b text)) → IsBuilder (buffer_appended b text) s
  longer_stands text large = record {
    agree = still_agree b s text i.agree;
    holds = subst HoldsSome (sym (appended_is b s text i.agree)) (some_appended (builder_view b s) text there i.holds);
  }
    where
      there : NoCause (NoRoom (content_of (item_appended (builder_view b s) text)).sections.current)
      there = subst (λ (k : SectionsState). NoCause (NoRoom k.current)) (sym (appended_section b s (builder_view b s) text i.agree refl)) large

  pub value_stands : (new : Buffered) (outcome : Result (Unit {0}) Fault) (p : Piece)
      → Extends b new (buffer_appended b p.text) outcome p (NoRoom (section_appended b p.text)) → IsBuilder new s
  value_stands new (Ok u) p a = rw a.ok (longer_stands p.text (right_free a.free))
  value_stands new (Err f) p a = rw a.err i

  pub list_stands : {S B : Type 0} (steps : S → Option B → S → Type 0) (values : S) (new : Buffered) (outcome : Result (Unit {0}) Fault)
      (piece : List B → Piece)
      → ExtendsListed steps values b new outcome (buffer_appended b) (λ bytes. NoRoom (section_appended b bytes)) piece → IsBuilder new s
  list_stands steps values new (Ok u) piece a = rw a.ok.3.state (longer_stands (piece a.ok.0.items).text (right_free a.ok.3.free))
  list_stands steps values new (Err f) piece a = rw a.err i

  -- ---- its end

  pub ended_stands : ∥ is_whole (builder_view b s) ∥₁ → IsBuilder (buffer_ended b) (spaces_ended s)
  ended_stands whole = record { agree = tt; holds = subst HoldsSome (sym (ended_is b s i.agree)) (some_ended (builder_view b s) whole i.holds) }

  pub given_up_stands : IsBuilder (buffer_given_up b) (spaces_given_up s)
  given_up_stands = record { agree = tt; holds = some_given_up (builder_view b s) i.holds }

  -- ---- where nothing is being written

  module _ (finished : is_none b.writing ≡ true) where
    not_taken : s.taking ≡ None
    not_taken = not_taking b.writing s.taking i.agree (writing_none b finished)

    -- an item that was given up at once
    pub begun_back : (id : ℕ) → buffer_given_up (buffer_begun b id) ≡ b
    begun_back id = rw (← writing_none b finished) refl

    -- an index that was given up at once
    pub indexed_back : (space : Space) (number : ℕ) (name : Option (List ℕ)) → IsBuilder b (spaces_given_up (spaces_begun s space number name))
    indexed_back space number name =
        let same : spaces_given_up (spaces_begun s space number name) ≡ s = rw (← not_taken) refl in
        subst (IsBuilder b) (sym same) i

    pub begun_stands : (id : ℕ) (space : Space) (name : Option (List ℕ)) → NoCause (SectionCause (section_begun b id))
        → IsBuilder (buffer_begun b id) (spaces_begun s space 1 name)
    begun_stands id space name room = record {
      agree = tt;
      holds = some_begun (builder_view b s) (record { id = id; space = space; name = name; text = [] }) room i.holds;
    }

    pub alone_stands : (space : Space) (number : ℕ) (name : Option (List ℕ)) (text : List ℕ) → (space ≡ Values → name ≡ None)
        → ∥ IsItemText None (Some (record { space = space; number = number })) text ∥₁
        → IsBuilder (buffer_with b text) (spaces_ended (spaces_begun s space number name))
    alone_stands space number name text nameless whole = record {
      agree = tt;
      holds = some_alone (builder_view b s) (Some (record { space = space; number = number })) name text
          (λ v takes start e. nameless (start_takes_values v (record { space = space; number = number }) start takes e)) whole i.holds;
    }

    pub without_index_stands : (text : List ℕ) → ∥ IsItemText None None text ∥₁ → IsBuilder (buffer_with b text) s
    without_index_stands text whole = record {
      agree = rw not_taken tt;
      holds = some_alone (builder_view b s) None None text (λ v takes start e. refl) whole i.holds;
    }

    pub without_index_outcome : (new : Buffered) (outcome : Result (Unit {0}) Fault) (p : Piece)
        → (p.Fits → ∥ IsItemText None None p.text ∥₁) → OnOk outcome p.Fits
        → OnOk outcome (new ≡ buffer_with b p.text) → OnErr outcome (new ≡ b) → IsBuilder new s
    without_index_outcome new (Ok u) p whole fits ok err = rw ok (without_index_stands p.text (whole fits))
    without_index_outcome new (Err f) p whole fits ok err = rw err i
