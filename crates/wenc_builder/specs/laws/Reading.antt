-- Why the bytes of a component have one reading.
use Rattle.std.proofs.Common.{◌≡◌, ◌↔◌, ◌⊎◌, ℕ, zero, suc, false, true≢false, List, [], ◌∷◌, Option}
use Rattle.std.proofs.Common.{Some, None, Result, Err, refl, sym, ap, ◌∙◌, inl, inr}
use Rattle.std.proofs.lemmas.Bool.Decides.{eqb_tells}
use Rattle.std.proofs.lemmas.Option.{same_Some}
use Rattle.std.specs.List.{flat_map}
use Rattle.std.specs.Prelude.{IsTrue}
use Rattle.wenc_base.specs.Prelude.{Bad, Flaw, IsPast, Lawful, LawfulWhole, Piece, Reader, Spelling}
use Rattle.wenc_base.specs.Prelude.{Starts, Strict, byte_list_lawful, counted_lawful, custom_lawful}
use Rattle.wenc_base.specs.Prelude.{give, go_on, last, made, nowhere, only_where, past, pick}
use Rattle.wenc_base.specs.Prelude.{read_byte_list, row_byte, row_lawful, then_whole, ◌>>=◌}
use Rattle.wenc_base.specs.Piece.{ReadsEach}
use Rattle.wenc_base.specs.laws.Forms.{read_counted}
use Rattle.wenc_base.specs.Readers.{choose}
use Rattle.wenc_base.specs.laws.Lawful.{only_where_lawful, last_whole, to_end}
use Rattle.wenc_base.specs.laws.Lawful.{at_end, before_end, deeper_whole, whole_once}
use Rattle.wenc_base.specs.laws.Sections.{read_custom}
use Rattle.wenc_builder.specs.Item.{Item, ModuleItem, CoreInstanceItem, CoreTypeItem, ComponentItem}
use Rattle.wenc_builder.specs.Item.{InstanceItem, AliasItem, TypeItem, CanonItem, StartItem}
use Rattle.wenc_builder.specs.Item.{ImportItem, ExportItem, CustomItem, RawItem, collected, item}
use Rattle.wenc_builder.specs.Item.{IsNoRaw, HasNoRaw}
use Rattle.wenc_base.specs.declared.fault.Fault.TheVariants.{Unfinished}
use Rattle.wenc_builder.specs.laws.Never.{never_unfinished}
use Rattle.wenc_builder.specs.Sections.{Section, Run, Alone, members, joined, runs, collects}
use Rattle.wenc_builder.specs.Sections.{item_of, section_piece, sections, component, preamble}
use Rattle.wenc_builder.specs.Sections.{Reading, whole, SectionsHaveNoRaw, AreEncodable}
use Rattle.wenc_builder.specs.Sections.{IsEncodable}
use Rattle.wenc_canon.specs.Prelude.{canonical_lawful, read_canonical}
use Rattle.wenc_parts.specs.Prelude.{alias_lawful, read_alias}
use Rattle.wenc_sections.specs.Prelude.{core_instance_lawful, import_lawful, inline_export_lawful}
use Rattle.wenc_sections.specs.Prelude.{instance_lawful, read_core_instance, read_import}
use Rattle.wenc_sections.specs.Prelude.{read_inline_export, read_instance, read_start, start_lawful}
use Rattle.wenc_types.specs.Prelude.{core_type_lawful, read_core_type, read_type, type_lawful}

-- what is never allowed is lawful
vacuous : {A : Type 0} {P : Type 0} {p : Piece} {read : ℕ → Reader A} {v : A}
    → (p.Cause Unfinished → ⊥) → (P → ⊥) → Lawful (only_where P p) read v
vacuous finished never = record {
  text_is_read = λ mode rest h. absurd (never h.0);
  strict_is_text = λ bytes rest r. absurd (never r.0);
  fits = λ bytes rest r. absurd (never r.0);
  leaves = λ mode bytes rest r. absurd (never r.0);
  free = λ h. absurd (never h.0);
  never = finished;
  depth = 0;
  finds = λ fuel le mode bytes rest r. absurd (never r.0);
}

-- ---- items that a section collects

-- each kind's reader, by the id of its section
abbrev item_rows : ℕ → List (ℕ × Reader Item)
item_rows fuel =
    (2, read_core_instance >>= λ i. give (CoreInstanceItem i)) ∷
    (3, read_core_type >>= λ t. give (CoreTypeItem t)) ∷
    (5, read_instance >>= λ i. give (InstanceItem i)) ∷
    (6, read_alias >>= λ to. give (AliasItem to)) ∷
    (7, read_type fuel >>= λ t. give (TypeItem t)) ∷
    (8, read_canonical >>= λ f. give (CanonItem f)) ∷
    (10, read_import >>= λ i. give (ImportItem i)) ∷
    (11, read_inline_export >>= λ e. give (ExportItem e)) ∷ []

-- an item, by the id of its section
pub read_item : ℕ → ℕ → Reader Item
read_item id fuel = pick (item_rows fuel) nowhere id

-- the id is that of the item's kind, so that the reader is that kind's
collected_lawful : (x : Item) (id : ℕ) → collected x ≡ Some id → Lawful (item x) (read_item id) x
unfolding read_item
collected_lawful (CoreInstanceItem i) id e = rw (← same_Some 2 id e) (last CoreInstanceItem (core_instance_lawful i))
collected_lawful (CoreTypeItem t) id e = rw (← same_Some 3 id e) (last CoreTypeItem (core_type_lawful t))
collected_lawful (InstanceItem i) id e = rw (← same_Some 5 id e) (last InstanceItem (instance_lawful i))
collected_lawful (AliasItem to) id e = rw (← same_Some 6 id e) (last AliasItem (alias_lawful to))
collected_lawful (TypeItem t) id e = rw (← same_Some 7 id e) (last TypeItem (type_lawful t))
collected_lawful (CanonItem f) id e = rw (← same_Some 8 id e) (last CanonItem (canonical_lawful f))
collected_lawful (ImportItem i) id e = rw (← same_Some 10 id e) (last ImportItem (import_lawful i))
collected_lawful (ExportItem x) id e = rw (← same_Some 11 id e) (last ExportItem (inline_export_lawful x))
collected_lawful other id e = absurd cc

-- whether it is this id
decided : (o : Option ℕ) (id : ℕ) → (o ≡ Some id) ⊎ (o ≡ Some id → ⊥)
decided None id = inr (λ e. absurd cc)
decided (Some other) id = elim (eqb_tells other id) [
  | inl t ↦ inl (ap Some t.1)
  | inr t ↦ inr (λ e. t.1 (same_Some other id e))
]

-- an item of another kind is none of the section's
pub item_of_lawful : (id : ℕ) (x : Item) → Lawful (item_of id x) (read_item id) x
item_of_lawful id x = elim (decided (collected x) id) [
  | inl e ↦
      only_where_lawful _ (collected_lawful x id e)
  | inr never ↦ vacuous (never_unfinished x) never
]

-- ---- sections

-- what stands alone, by its id
abbrev alone_rows : List (ℕ × Reader Section)
alone_rows =
    (0, read_custom >>= λ c. give (Alone (CustomItem c))) ∷
    (1, read_byte_list >>= λ bytes. give (Alone (ModuleItem bytes))) ∷
    (4, read_byte_list >>= λ bytes. give (Alone (ComponentItem bytes))) ∷
    (9, read_start >>= λ s. give (Alone (StartItem s))) ∷ []

-- an id, then its items
abbrev read_run : ℕ → Reader Section
read_run fuel [] = Err Bad
read_run fuel (id ∷ bytes) = (read_counted (read_item id fuel) >>= λ xs. give (Run id xs)) bytes

-- a section, by its id
abbrev read_section_piece : ℕ → Reader Section
read_section_piece fuel = choose alone_rows (choose [] (read_run fuel))

-- a section that collects has no id of those that stand alone
is_past : (id : ℕ) → IsTrue (collects id) → IsPast alone_rows id
is_past id h = (no 0 refl, (no 1 refl, (no 4 refl, (no 9 refl, tt))))
  where
    no : (b : ℕ) → collects b ≡ false → id ≡ b → ⊥
    no b f e = true≢false (sym h ∙ ap collects e ∙ f)

-- so the rows of those are passed over
run_starts : (id : ℕ) (xs : List Item) → Starts (section_piece (Run id xs)) (IsPast alone_rows)
run_starts id xs = record { starts = λ mode bytes rest r. (id, r.1.0, r.1.1, is_past id r.0) }

-- a section without a raw item has all laws
section_piece_lawful : (s : Section) → HasNoRaw (members s) → Lawful (section_piece s) read_section_piece s
section_piece_lawful (Run id xs) h =
    past _ _ (λ fuel. run_starts id xs)
    (only_where_lawful _ (row_lawful (λ fuel. []) read_run id
    (last (Run id) (counted_lawful (item_of_lawful id) xs))))
section_piece_lawful (Alone (CustomItem c)) h =
    only_where_lawful _ (row_lawful _ _ 0 (last (λ x. Alone (CustomItem x)) (custom_lawful c)))
section_piece_lawful (Alone (ModuleItem bs)) h =
    only_where_lawful _ (row_lawful _ _ 1 (last (λ x. Alone (ModuleItem x)) (byte_list_lawful bs)))
section_piece_lawful (Alone (ComponentItem bs)) h = only_where_lawful _
    (row_lawful _ _ 4 (last (λ x. Alone (ComponentItem x)) (byte_list_lawful bs)))
section_piece_lawful (Alone (StartItem s)) h =
    only_where_lawful _ (row_lawful _ _ 9 (last (λ x. Alone (StartItem x)) (start_lawful s)))
section_piece_lawful (Alone (RawItem bs)) h = absurd h.0
section_piece_lawful (Alone other) h = vacuous (never_unfinished other) (λ e. cc)

-- ---- components

-- a section in front of those that are read next
abbrev sections_before : (List ℕ → Result (List Section) Flaw) → Section → List ℕ → Result (List Section) Flaw
sections_before read s rest = made (λ (ss : List Section). s ∷ ss) (read rest)

-- sections up to the end
abbrev read_sections : ℕ → List ℕ → Result (List Section) Flaw
read_sections zero bytes = Err Bad
read_sections (suc fuel) bytes = to_end [] (read_section_piece fuel) (sections_before (read_sections fuel)) bytes

-- no section is without a byte
nothing_left : (fuel : ℕ) → read_section_piece fuel [] ≡ Err Bad
unfolding choose
nothing_left fuel = refl

sections_lawful : (ss : List Section) → SectionsHaveNoRaw ss → LawfulWhole (sections ss) read_sections ss
sections_lawful [] h = deeper_whole (at_end [] read_section_piece (λ fuel. sections_before (read_sections fuel)))
sections_lawful (s ∷ ss) h =
    deeper_whole (before_end [] read_section_piece (λ fuel. sections_before (read_sections fuel))
    nothing_left (section_piece_lawful s h.0) (last_whole
    (λ (ts : List Section). s ∷ ts) (sections_lawful ss h.1)))

-- this byte, then what is read after it
abbrev only : {A : Type 0} → ℕ → Reader A → Reader A
only b read = choose ((b, read) ∷ []) nowhere

abbrev read_preamble : Reader (Unit {0})
read_preamble = only 0x00 (only 0x61 (only 0x73 (only 0x6d (only 0x0d (only 0x00 (only 0x01 (only 0x00 (give tt))))))))

preamble_lawful : Lawful preamble (λ fuel. read_preamble) tt
preamble_lawful = row_lawful _ _ 0x00
    (row_lawful _ _ 0x61 (row_lawful _ _ 0x73
    (row_lawful _ _ 0x6d (row_lawful _ _ 0x0d
    (row_lawful _ _ 0x00 (row_lawful _ _ 0x01 (row_byte _ _ 0x00 (λ fuel rest. refl))))))))

abbrev read_component : ℕ → List ℕ → Result (List Section) Flaw
read_component fuel bytes = go_on (read_preamble bytes) (λ u rest. read_sections fuel rest)

component_lawful : (ss : List Section) → SectionsHaveNoRaw ss → LawfulWhole (component ss) read_component ss
component_lawful ss h = then_whole (λ fuel u rest. read_sections fuel rest) preamble_lawful (sections_lawful ss h)

-- ---- what is read has no raw item

item_read : (x : Item) (id : ℕ) → collected x ≡ Some id → IsNoRaw x
item_read (RawItem bytes) id e = absurd cc
item_read other id e = tt

items_read : (id : ℕ) (xs : List Item) (mode : Spelling) (bytes rest : List ℕ)
    → ReadsEach (λ x. (item_of id x).Reads mode) xs bytes rest → HasNoRaw xs
items_read id [] mode bytes rest r = tt
items_read id (x ∷ xs) mode bytes rest r = (item_read x id r.1.0, items_read id xs mode r.0 rest r.2)

section_read : (s : Section) (mode : Spelling) (bytes rest : List ℕ)
    → (section_piece s).Reads mode bytes rest → HasNoRaw (members s)
section_read (Run id xs) mode bytes rest r = items_read id xs mode r.1.2.2.0 [] r.1.2.2.2
section_read (Alone (RawItem bs)) mode bytes rest r = absurd r.1
section_read (Alone other) mode bytes rest r = (tt, tt)

sections_read : (ss : List Section) (mode : Spelling) (bytes : List ℕ)
    → (sections ss).Reads mode bytes [] → SectionsHaveNoRaw ss
sections_read [] mode bytes r = tt
sections_read (s ∷ ss) mode bytes r = (section_read s mode bytes r.0 r.1, sections_read ss mode r.0 r.2)

-- ---- the runs of a list

-- one that isn't raw may be put in front
joined_no_raw : (o : Option ℕ) (x : Item) (ss : List Section) → IsNoRaw x → SectionsHaveNoRaw ss
    → SectionsHaveNoRaw (joined o x ss)
joined_no_raw None x ss n h = ((n, tt), h)
joined_no_raw (Some id) x [] n h = ((n, tt), tt)
joined_no_raw (Some id) x (Alone y ∷ ss) n h = ((n, tt), h)
joined_no_raw (Some id) x (Run other ys ∷ ss) n h =
    elim (eqb_tells id other) [ inl t ↦ rw t.0 ((n, h.0), h.1) | inr t ↦ rw t.0 ((n, tt), h) ]

runs_no_raw : (xs : List Item) → HasNoRaw xs → SectionsHaveNoRaw (runs xs)
runs_no_raw [] h = tt
runs_no_raw (x ∷ xs) h = joined_no_raw (collected x) x (runs xs) h.0 (runs_no_raw xs h.1)

joined_members : (o : Option ℕ) (x : Item) (ss : List Section)
    → flat_map members (joined o x ss) ≡ x ∷ flat_map members ss
joined_members None x ss = refl
joined_members (Some id) x [] = refl
joined_members (Some id) x (Alone y ∷ ss) = refl
joined_members (Some id) x (Run other ys ∷ ss) =
    elim (eqb_tells id other) [ inl t ↦ rw t.0 refl | inr t ↦ rw t.0 refl ]

-- the sections' items are the list's
pub runs_members : (xs : List Item) → flat_map members (runs xs) ≡ xs
runs_members [] = refl
runs_members (x ∷ xs) = joined_members (collected x) x (runs xs) ∙ ap (λ (ys : List Item). x ∷ ys) (runs_members xs)

-- ---- the laws

pub once : (mode other : Spelling) (bytes : List ℕ) (ss ts : List Section) → Reading mode bytes ss
    → Reading other bytes ts → ss ≡ ts
once mode other bytes ss ts a b =
    whole_once (component_lawful ss (sections_read ss mode a.0 a.2))
    (component_lawful ts (sections_read ts other b.0 b.2)) mode other bytes a b

pub text_is_read : (mode : Spelling) (ss : List Section) → SectionsHaveNoRaw ss → AreEncodable ss
    → Reading mode (component ss).text ss
text_is_read mode ss h fits = (component_lawful ss h).text_is_read mode fits

whole_is_read : (mode : Spelling) (xs : List Item) → HasNoRaw xs → IsEncodable xs → Reading mode (whole xs) (runs xs)
whole_is_read mode xs h fits = text_is_read mode (runs xs) (runs_no_raw xs h) fits

-- so the bytes of a list of items are read as its runs, and as nothing else
pub of_items : (mode : Spelling) (xs : List Item) (ss : List Section) → HasNoRaw xs → IsEncodable xs
    → Reading mode (whole xs) ss ↔ (ss ≡ runs xs)
of_items mode xs ss h fits =
    let read = whole_is_read mode xs h fits in
    (λ r. once mode mode (whole xs) ss (runs xs) r read, λ e. rw e read)

pub strict_is_text : (bytes : List ℕ) (ss : List Section) → Reading Strict bytes ss → bytes ≡ (component ss).text
strict_is_text bytes ss r = (component_lawful ss (sections_read ss Strict r.0 r.2)).strict_is_text bytes r

pub strict_fits : (bytes : List ℕ) (ss : List Section) → Reading Strict bytes ss → AreEncodable ss
strict_fits bytes ss r = (component_lawful ss (sections_read ss Strict r.0 r.2)).fits bytes r

pub same_list : (xs ys : List Item) → HasNoRaw xs → HasNoRaw ys → IsEncodable xs → IsEncodable ys
    → whole xs ≡ whole ys → xs ≡ ys
same_list xs ys h k fits fits' e =
    let same : runs xs ≡ runs ys = once Strict Strict (whole xs) (runs xs) (runs ys)
    (whole_is_read Strict xs h fits) (rw e (whole_is_read Strict ys k fits')) in
    sym (runs_members xs) ∙ ap (flat_map members) same ∙ runs_members ys

-- and no other list of items has these bytes
pub of_bytes : (xs ys : List Item) → HasNoRaw xs → IsEncodable xs → HasNoRaw ys → IsEncodable ys
    → (whole ys ≡ whole xs) ↔ (ys ≡ xs)
of_bytes xs ys h fits k fits' = (λ e. same_list ys xs k h fits' fits e, λ e. ap whole e)
