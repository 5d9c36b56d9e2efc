-- The readers of sections are exact.
use Rattle.std.proofs.Common.{◌≡◌, ◌≢◌, ℕ, zero, suc, ◌<◌, ◌≤◌, true, false, true≢false, cond, eqb, ltb, List, [], ◌∷◌, ◌++◌, length, take}
use Rattle.std.proofs.Common.{drop, Some, None, Result, Ok, Err, refl, sym, ap, subst, ◌∙◌, inl, inr, ◌⊎◌, arith, length-append}
use Rattle.std.proofs.lemmas.Bool.{cases_lt, lt-ltb, le-ltb}
use Rattle.std.proofs.lemmas.Bool.Decides.{eqb_tells}
use Rattle.std.proofs.lemmas.List.{take_at, drop_at, take-append-drop, length-take-le}
use Rattle.std.proofs.lemmas.Option.{same_Some}
use Rattle.std.specs.Prelude.{IsTrue}
use Rattle.wenc_base.specs.Prelude.{AreBytes, Bad, Finds, Flaw, Form, Reader, Tells, Told, Wide}
use Rattle.wenc_base.specs.Prelude.{deep_where, last, last_finds, last_tells, lawful_finds, list}
use Rattle.wenc_base.specs.Prelude.{name, nowhere_tells, only_where, or_deeper, raw, read_u32}
use Rattle.wenc_base.specs.Prelude.{same_Ok_pair, sound_tells, tested, told_on, u32, u32_lawful}
use Rattle.wenc_base.specs.Prelude.{u32_sound, ◌⨾◌}
use Rattle.wenc_builder.specs.Prelude.{AliasItem, Alone, CanonItem, ComponentItem, CoreInstanceItem}
use Rattle.wenc_builder.specs.Prelude.{CoreTypeItem, CustomItem, ExportItem, ImportItem}
use Rattle.wenc_builder.specs.Prelude.{InstanceItem, Item, ModuleItem, RawItem, Run, Section}
use Rattle.wenc_builder.specs.Prelude.{StartItem, TypeItem, collected, collects, item, item_of}
use Rattle.wenc_builder.specs.Prelude.{members, section_piece}
use Rattle.wenc_canon.specs.Prelude.{canonical_lawful, canonical_sound}
use Rattle.wenc_view.specs.Prelude.{OpensTypes, type_finds, type_tells}
use Rattle.wenc_parts.specs.Prelude.{alias_lawful, alias_sound}
use Rattle.wenc_sections.specs.Prelude.{core_instance_lawful, core_instance_sound, import_lawful}
use Rattle.wenc_sections.specs.Prelude.{inline_export_lawful, instance_lawful, instance_sound}
use Rattle.wenc_sections.specs.Prelude.{start_content}
use Rattle.wenc_sections.specs.laws.Items.{import_sound, inline_export_sound}
use Rattle.wenc_types.specs.Prelude.{core_type_lawful, core_type_sound}
use Rattle.wenc_list.specs.Prelude.{HasDepth, IsFramed, alone, item_section, read_content_item}
use Rattle.wenc_list.specs.Prelude.{read_frame}
use Rattle.wenc_list.specs.inside.Contents.{content_rows, content_row_of}

-- ---- items

abbrev pub ItemWithin : ℕ → ℕ → Form Item
ItemWithin d id x = only_where (HasDepth d x) (item_of id x)

-- only the section of types has what nests
abbrev pub GoesIn : ℕ → ℕ → List ℕ → Type 0
GoesIn d id bytes = (id ≡ 7) × OpensTypes d bytes

abbrev RowsOf : ℕ → List (ℕ × Reader Item) → Type 0
RowsOf d [] = Unit {0}
RowsOf d (row ∷ table) = Tells (ItemWithin d row.0) (GoesIn d row.0) row.1 × RowsOf d table

row_tells : (d : ℕ) (table : List (ℕ × Reader Item)) → RowsOf d table → (id : ℕ) → Tells (ItemWithin d id) (GoesIn d id) (content_row_of table id)
row_tells d [] h id = nowhere_tells
row_tells d (row ∷ table) h id =
    elim (tested id row.0) [
      | inl e ↦ rw (e.0, content_row_of) (subst (λ (k : ℕ). Tells (ItemWithin d k) (GoesIn d k) row.1) (sym e.1) h.0)
      | inr e ↦ rw (e, content_row_of) (row_tells d table h.1 id)
    ]

pub item_tells : (d id : ℕ) → Tells (ItemWithin d id) (GoesIn d id) (read_content_item d id)
item_tells d id = row_tells d (content_rows d) (
  sound_tells _ (last_tells CoreInstanceItem core_instance_sound (λ i bytes rest r. (tt, (refl, r)))),
  (
    sound_tells _ (last_tells CoreTypeItem core_type_sound (λ t bytes rest r. (tt, (refl, r)))),
    (
      sound_tells _ (last_tells InstanceItem instance_sound (λ i bytes rest r. (tt, (refl, r)))),
      (
        sound_tells _ (last_tells AliasItem alias_sound (λ to bytes rest r. (tt, (refl, r)))),
        (
          deep_where (OpensTypes d) _ (last_tells TypeItem (type_tells d) (λ t bytes rest r. (r.0, (refl, r.1)))) (λ bytes g. (refl, g)),
          (
            sound_tells _ (last_tells CanonItem canonical_sound (λ f bytes rest r. (tt, (refl, r)))),
            (
              sound_tells _ (last_tells ImportItem import_sound (λ i bytes rest r. (tt, (refl, r)))),
              (sound_tells _ (last_tells ExportItem inline_export_sound (λ e bytes rest r. (tt, (refl, r)))), tt),
            ),
          ),
        ),
      ),
    ),
  ),
) id

-- the value is too deep
abbrev pub IsPast : ℕ → Item → Type 0
IsPast d x = HasDepth d x → ⊥

collected_finds : (d : ℕ) (x : Item) (id : ℕ) → collected x ≡ Some id → Finds (item x) (read_content_item d id) x (IsPast d x)
collected_finds d (CoreInstanceItem i) id e = rw (← same_Some 2 id e) (lawful_finds _ (last CoreInstanceItem (core_instance_lawful i)))
collected_finds d (CoreTypeItem t) id e = rw (← same_Some 3 id e) (lawful_finds _ (last CoreTypeItem (core_type_lawful t)))
collected_finds d (InstanceItem i) id e = rw (← same_Some 5 id e) (lawful_finds _ (last InstanceItem (instance_lawful i)))
collected_finds d (AliasItem to) id e = rw (← same_Some 6 id e) (lawful_finds _ (last AliasItem (alias_lawful to)))
collected_finds d (TypeItem t) id e = rw (← same_Some 7 id e) (or_deeper _ (λ lt within. omega arith) (last_finds TypeItem (type_finds d t)))
collected_finds d (CanonItem f) id e = rw (← same_Some 8 id e) (lawful_finds _ (last CanonItem (canonical_lawful f)))
collected_finds d (ImportItem i) id e = rw (← same_Some 10 id e) (lawful_finds _ (last ImportItem (import_lawful i)))
collected_finds d (ExportItem x) id e = rw (← same_Some 11 id e) (lawful_finds _ (last ExportItem (inline_export_lawful x)))
collected_finds d other id e = absurd cc

pub item_finds : (d id : ℕ) (x : Item) → Finds (item_of id x) (read_content_item d id) x (IsPast d x)
item_finds d id x = record { finds = λ bytes rest r. (collected_finds d x id r.0).finds bytes rest r.1 }

-- ---- what stands alone

abbrev pub AloneIn : ℕ → Item → List ℕ → Type 0
AloneIn id (CustomItem c) content = (id ≡ 0) × (name c.label ⨾ raw AreBytes c.bytes).Reads Wide content []
AloneIn id (ModuleItem bs) content = (id ≡ 1) × (raw AreBytes bs).Reads Wide content []
AloneIn id (ComponentItem bs) content = (id ≡ 4) × (raw AreBytes bs).Reads Wide content []
AloneIn id (StartItem s) content = (id ≡ 9) × (start_content s).Reads Wide content []
AloneIn id other content = ⊥

-- these items are the content of the section with this id
abbrev pub Fills : ℕ → List Item → List ℕ → Type 0
Fills id xs content = (IsTrue (collects id) × (list (item_of id) xs).Reads Wide content []) ⊎ ((x : Item) × (xs ≡ x ∷ []) × AloneIn id x content)

-- ---- the ids

pub other_than : (b c : ℕ) → b ≢ c → eqb b c ≡ false
other_than b c h = elim (eqb_tells b c) [ inl t ↦ absurd (h t.1) | inr t ↦ t.0 ]

-- a section that collects has no id of those that stand alone
apart : (id k : ℕ) → collects id ≡ true → collects k ≡ false → id ≢ k
apart id k h f e = true≢false (sym h ∙ ap collects e ∙ f)

pub collecting : (id : ℕ) → id ≤ 11 → id ≢ 0 → id ≢ 1 → id ≢ 4 → id ≢ 9 → collects id ≡ true
collecting zero le a b c d = absurd (a refl)
collecting (suc zero) le a b c d = absurd (b refl)
collecting (suc (suc (suc (suc zero)))) le a b c d = absurd (c refl)
collecting (suc (suc (suc (suc (suc (suc (suc (suc (suc zero))))))))) le a b c d = absurd (d refl)
collecting (suc (suc (suc (suc (suc (suc (suc (suc (suc (suc (suc (suc n)))))))))))) le a b c d = absurd (omega arith)
collecting id le a b c d = refl

known_id : (id : ℕ) → collects id ≡ true → id ≤ 11
known_id id h =
    elim (cases_lt 11 id) [
      | inl lt ↦ absurd (true≢false (sym h ∙ unknown lt))
      | inr le ↦ le
    ]
  where
    unknown : 11 < id → collects id ≡ false
    unknown lt = rw (
      other_than id 2 (omega arith),
      other_than id 3 (omega arith),
      other_than id 5 (omega arith),
      other_than id 6 (omega arith),
      other_than id 7 (omega arith),
      other_than id 8 (omega arith),
      other_than id 10 (omega arith),
      other_than id 11 (omega arith),
    ) refl

-- ---- frames

abbrev pub Framed : List ℕ → (ℕ × List ℕ) × List ℕ → Type 0
Framed bytes x = IsFramed bytes x.0.0 x.0.1 x.1

pub frame_told : (bytes : List ℕ) → Told (Framed bytes) ⊥ (read_frame bytes)
frame_told [] = tt
frame_told (id ∷ bytes) =
    elim (cases_lt 11 id) [
      | inl lt ↦ rw (lt-ltb 11 id lt, cond) tt
      | inr le ↦ rw (le-ltb 11 id le, cond) (told_on (λ x. (u32 x.0).Reads Wide bytes x.1) ⊥ (Framed (id ∷ bytes)) ⊥ (cut id)
          (read_u32 bytes) (u32_sound.tells bytes) (λ e. e) (λ x r. inside le x.0 x.1 r))
    ]
  where
    cut : ℕ → ℕ → List ℕ → Result ((ℕ × List ℕ) × List ℕ) Flaw
    cut id size rest = cond (ltb (length rest) size) (Err Bad) (Ok ((id, take size rest), drop size rest))

    inside : id ≤ 11 → (size : ℕ) (rest : List ℕ) → (u32 size).Reads Wide bytes rest → Told (Framed (id ∷ bytes)) ⊥ (cut id size rest)
    inside le size rest r =
        elim (cases_lt (length rest) size) [
          | inl lt ↦ rw (lt-ltb (length rest) size lt, cond) tt
          | inr ge ↦ rw (le-ltb (length rest) size ge, cond)
              (record { middle = bytes; begins = refl; known = le; sized = rw (length-take-le size rest ge, take-append-drop size rest) r })
        ]

pub frame_finds : (bytes : List ℕ) (id : ℕ) (content rest : List ℕ) → IsFramed bytes id content rest → read_frame bytes ≡ Ok ((id, content), rest)
frame_finds bytes id content rest f =
    rw (
      f.begins,
      le-ltb 11 id f.known,
      (u32_lawful (length content)).finds (u32_lawful (length content)).depth (omega arith) Wide f.middle
          (content ++ rest) f.sized,
      le-ltb (length (content ++ rest)) (length content) (omega (arith, length-append content rest)),
      take_at content rest (length content) refl,
      drop_at content rest (length content) refl,
    ) refl

-- ---- one frame

-- what was found, and what wasn't
pub told_ok : {A : Type 0} (P : A → Type 0) (D : Type 0) (some : Result A Flaw) (v : A) → Told P D some → some ≡ Ok v → P v
told_ok P D some v h e = rw e at h

pub not_both : {A : Type 0} (some : Result A Flaw) (v : A) → some ≡ Ok v → some ≡ Err Bad → ⊥
not_both some v a b = absurd cc

pub is_framed : (bytes : List ℕ) (id : ℕ) (content rest : List ℕ) → read_frame bytes ≡ Ok ((id, content), rest) → IsFramed bytes id content rest
is_framed bytes id content rest e = told_ok (Framed bytes) ⊥ (read_frame bytes) ((id, content), rest) (frame_told bytes) e

-- bytes have one frame
pub record SameFrame (id other : ℕ) (content inside rest after : List ℕ) : Type 0 where
  pub id_is : id ≡ other
  pub content_is : content ≡ inside
  pub rest_is : rest ≡ after

pub same_frame : (bytes : List ℕ) (id other : ℕ) (content inside rest after : List ℕ) → read_frame bytes ≡ Ok ((id, content), rest)
    → IsFramed bytes other inside after → SameFrame id other content inside rest after
same_frame bytes id other content inside rest after e f =
    let parts = same_Ok_pair (id, content) (other, inside) rest after (sym e ∙ frame_finds bytes other inside after f) in
    record {
      id_is = ap (λ (x : ℕ × List ℕ). x.0) parts.0;
      content_is = ap (λ (x : ℕ × List ℕ). x.1) parts.0;
      rest_is = parts.1;
    }

-- ---- sections

alone_reads : (id : ℕ) (x : Item) (bytes content rest : List ℕ) → IsFramed bytes id content rest → AloneIn id x content
    → (section_piece (item_section id (x ∷ []))).Reads Wide bytes rest
alone_reads id (CustomItem c) bytes content rest f a = rw a.0 (refl, (f.middle, rw a.0 at f.begins, (content, f.sized, a.1)))
alone_reads id (ModuleItem bs) bytes content rest f a = rw a.0 (refl, (f.middle, rw a.0 at f.begins, (content, f.sized, a.1)))
alone_reads id (ComponentItem bs) bytes content rest f a = rw a.0 (refl, (f.middle, rw a.0 at f.begins, (content, f.sized, a.1)))
alone_reads id (StartItem s) bytes content rest f a = rw a.0 (refl, (f.middle, rw a.0 at f.begins, (content, f.sized, a.1)))
alone_reads id other bytes content rest f a = absurd a

pub section_reads : (id : ℕ) (xs : List Item) (bytes content rest : List ℕ) → IsFramed bytes id content rest → Fills id xs content
    → (section_piece (item_section id xs)).Reads Wide bytes rest
section_reads id xs bytes content rest f (inl h) = rw (h.0, cond) (h.0, (f.middle, f.begins, (content, f.sized, h.1)))
section_reads id xs bytes content rest f (inr h) = rw h.1 (alone_reads id h.0 bytes content rest f h.2)

-- the frame of a section that is read, and what fills it
pub record HasFrame (s : Section) (bytes rest : List ℕ) : Type 0 where
  pub id : ℕ
  pub content : List ℕ
  pub framed : IsFramed bytes id content rest
  pub fills : Fills id (members s) content
  pub is : item_section id (members s) ≡ s

alone_framed : (id : ℕ) (x : Item) (bytes middle content rest : List ℕ) → bytes ≡ id ∷ middle → id ≤ 11
    → (u32 (length content)).Reads Wide middle (content ++ rest) → AloneIn id x content → (item_section id (x ∷ []) ≡ Alone x)
    → HasFrame (Alone x) bytes rest
alone_framed id x bytes middle content rest e le sized a is = record {
  id = id;
  content = content;
  framed = record { middle = middle; begins = e; known = le; sized = sized };
  fills = inr (x, refl, a);
  is = is;
}

pub section_framed : (s : Section) (bytes rest : List ℕ) → (section_piece s).Reads Wide bytes rest → HasFrame s bytes rest
section_framed (Run id xs) bytes rest r = record {
  id = id;
  content = r.1.2.0;
  framed = record { middle = r.1.0; begins = r.1.1; known = known_id id r.0; sized = r.1.2.1 };
  fills = inl (r.0, r.1.2.2);
  is = rw (r.0, cond) refl;
}
section_framed (Alone (CustomItem c)) bytes rest r = alone_framed 0 (CustomItem c) bytes r.1.0 r.1.2.0 rest r.1.1 (omega arith) r.1.2.1 (refl, r.1.2.2) refl
section_framed (Alone (ModuleItem bs)) bytes rest r = alone_framed 1 (ModuleItem bs) bytes r.1.0 r.1.2.0 rest r.1.1 (omega arith) r.1.2.1 (refl, r.1.2.2) refl
section_framed (Alone (ComponentItem bs)) bytes rest r =
    alone_framed 4 (ComponentItem bs) bytes r.1.0 r.1.2.0 rest r.1.1 (omega arith) r.1.2.1 (refl, r.1.2.2) refl
section_framed (Alone (StartItem s)) bytes rest r = alone_framed 9 (StartItem s) bytes r.1.0 r.1.2.0 rest r.1.1 (omega arith) r.1.2.1 (refl, r.1.2.2) refl
section_framed (Alone (RawItem bs)) bytes rest r = absurd r.1
section_framed (Alone other) bytes rest r = absurd (some_kind r.0)
  where
    some_kind : {id : ℕ} → Some id ≡ None → ⊥
    some_kind e = absurd cc

-- the items of a section are those that it was made of
pub members_of : (id : ℕ) (xs : List Item) → members (item_section id xs) ≡ xs
members_of id xs = elim (collects id) as (λ b. members (cond b (Run id xs) (alone id xs)) ≡ xs) [ true ↦ refl | false ↦ of_alone id xs ]
  where
    of_alone : (id : ℕ) (xs : List Item) → members (alone id xs) ≡ xs
    of_alone id [] = refl
    of_alone id (x ∷ []) = refl
    of_alone id (x ∷ y ∷ xs) = refl
