-- An item that is begun, written and ended, or given up.
use Rattle.std.proofs.Common.{◌≡◌, ℕ, true, false, is_none, List, [], length, Option, Some, None, Ok, Err, refl, sym, ◌∙◌}
use Rattle.wenc_base.specs.Prelude.{NoCause, Piece, either, nothing}
use Rattle.wenc_base.specs.declared.fault.Fault.TheVariants.{Unfinished}
use Rattle.wenc_builder.specs.Prelude.{AddsItem, AddsWholeItem, Agree, Buffered, NewItem}
use Rattle.wenc_builder.specs.Prelude.{SectionCause, SpaceCause, Spaced, State, builder_view}
use Rattle.wenc_builder.specs.Prelude.{entered, item_appended, item_begun, item_ended, namespace_at}
use Rattle.wenc_builder.specs.Prelude.{new_item, no_room_in_section, space_with}
use Rattle.wenc_sections.specs.declared.space.Space.{Space}
use Rattle.wenc_builder.specs.laws.Caused.{begun_free, whole_free}
use Rattle.wenc_builder.proofs.Viewed.{finished_is}

none_of : {A : Type 0} (o : Option A) → (is_none o ≡ false → ⊥) → o ≡ None
none_of None h = refl
none_of (Some x) h = absurd (h refl)

none_is : {A : Type 0} (o : Option A) → is_none o ≡ true → o ≡ None
none_is None e = refl
none_is (Some x) e = cc

-- ---- an item is begun

-- a builder without an item that is being written
pub settled_before : (b : Buffered) (s : Spaced) (old : State) → Agree b.writing s.taking → builder_view b s ≡ old → is_none b.writing ≡ true → old.begun ≡ None
settled_before b s old a view w = none_is old.begun (sym (finished_is b s old a view) ∙ w)

pub begins : (b : Buffered) (s : Spaced) (old new next : State) (index : ℕ) (d : NewItem) → Agree b.writing s.taking
    → builder_view b s ≡ old → is_none b.writing ≡ true → new ≡ next
    → index ≡ (namespace_at old.settled.spaces d.space).count → length old.settled.spaces ≡ 13
    → NoCause (SpaceCause (space_with old d)) → NoCause (SectionCause (entered old.settled.sections d.id d.text).current)
    → AddsItem old new next (Ok index) d nothing
begins b s old new next index d a view w is counted all space section = record {
  returned = counted;
  ok = is;
  fits = tt;
  free = begun_free old d all (settled_before b s old a view w) space section;
  err = tt;
  warranted = tt;
  unfinished_first = λ e. let none = settled_before b s old a view w in cc;
}

-- ---- an item is written

pub added : (old begun written new : State) (index id : ℕ) (space : Space) (name : Option (List ℕ)) (p : Piece)
    → AddsItem old begun (item_begun old (new_item id space name [])) (Ok index) (new_item id space name []) nothing
    → written ≡ item_appended begun p.text → p.Fits → NoCause (either p.Cause (no_room_in_section begun p.text)) → new ≡ item_ended written
    → AddsWholeItem old new (Ok index) (new_item id space name) p
added old begun written new index id space name p t w fits free e = record {
  returned = t.returned;
  ok = rw (e, w, t.ok) refl;
  fits = fits;
  free = whole_free old id space name p.text p.Cause t.free (rw t.ok at free);
  err = tt;
  warranted = tt;
  unfinished_first = λ u. absurd (never index (t.unfinished_first u));
}
  where
    never : (i : ℕ) → Ok i ≡ Err Unfinished → ⊥
    never i e = cc
