-- What is taken of a section, item by item, and what that says of it.
use Rattle.std.proofs.Common.{◌≡◌, ℕ, Bool, zero, suc, ◌+◌, ◌-◌, ◌<◌, true, false, true≢false, cond, List, [], ◌∷◌, ◌++◌, length, drop}
use Rattle.std.proofs.Common.{Some, None, Result, Ok, Err, refl, sym, ap, subst, ◌∙◌, inl, inr, ◌⊎◌, arith, append_assoc}
use Rattle.std.proofs.Common.{length-append}
use Rattle.std.proofs.lemmas.Bool.Decides.{eqb_tells}
use Rattle.std.proofs.lemmas.List.{append-nil, drop_at}
use Rattle.std.proofs.lemmas.Option.{same_Some}
use Rattle.std.specs.List.{AllByRecursion}
use Rattle.std.specs.Prelude.{IsTrue, IsFalse}
use Rattle.wenc_base.specs.Prelude.{Agrees, AreBytes, Bad, Deep, EndsWith, Flaw, Form, Told, Wide}
use Rattle.wenc_base.specs.Prelude.{bytes_lawful, bytes_pass, each, ends_on, give, go_on}
use Rattle.wenc_base.specs.Prelude.{labelled_section, name, name_lawful, read_custom_content}
use Rattle.wenc_base.specs.Prelude.{read_raw, read_u32, same_Ok_pair, tested, told_on, u32}
use Rattle.wenc_base.specs.Prelude.{u32_lawful, u32_sound, weaken}
use Rattle.wenc_base.specs.laws.Forms.{raw_sound}
use Rattle.wenc_base.specs.laws.Sections.{custom_content_lawful, custom_content_sound}
use Rattle.wenc_builder.specs.Prelude.{AliasItem, CanonItem, ComponentItem, CoreInstanceItem}
use Rattle.wenc_builder.specs.Prelude.{CoreTypeItem, CustomItem, ExportItem, ImportItem}
use Rattle.wenc_builder.specs.Prelude.{InstanceItem, Item, ModuleItem, RawItem, Section, StartItem}
use Rattle.wenc_builder.specs.Prelude.{TypeItem, collects, item_of, members, section_piece}
use Rattle.wenc_builder.specs.laws.Reading.{item_of_lawful}
use Rattle.wenc_read.specs.Prelude.{flaw_of}
use Rattle.wenc_read.specs.declared.refusal.NestedRefusal.TheVariants.{Flat, TooDeep}
use Rattle.wenc_sections.specs.Prelude.{read_start_content, start_content}
use Rattle.wenc_read.specs.declared.refusal.NestedRefusal.{NestedRefusal}
use Rattle.wenc_sections.specs.laws.Items.{start_content_lawful, start_content_sound}
use Rattle.wenc_list.specs.Prelude.{AreWithin, HasDepth, HasTaken, IsFaultHere, IsFaultIn, IsFramed}
use Rattle.wenc_list.specs.Prelude.{IsSpent, ListFault, Opens, SectionItems, fault_of_content}
use Rattle.wenc_list.specs.Prelude.{fault_of_items, item_section, read_content_item, read_count}
use Rattle.wenc_list.specs.Prelude.{read_item_in}
use Rattle.wenc_list.specs.Cursor.{item_in, Holds, IsNeverItem, IsNoItem}
use Rattle.wenc_list.specs.Listing.{IsLabelled}
use Rattle.wenc_list.specs.declared.fault.ListFault.TheVariants as faults
use Rattle.wenc_list.specs.inside.Contents.{whole_item}
use Rattle.wenc_list.proofs.SectionLaws.{ItemWithin, GoesIn, item_tells, item_finds, IsPast, AloneIn, Fills, section_reads, section_framed}
use Rattle.wenc_list.proofs.SectionLaws.{members_of, told_ok, not_both, frame_finds, same_frame}

-- ---- an item

none_is_some : {id : ℕ} → None ≡ Some id → ⊥
none_is_some e = absurd cc

-- an item that is collected stands in its section as it is
in_of : (id : ℕ) (x : Item) (bytes rest : List ℕ) → (item_of id x).Reads Wide bytes rest → (item_in id x).Reads Wide bytes rest
in_of id (CustomItem c) bytes rest r = absurd (none_is_some r.0)
in_of id (ModuleItem bs) bytes rest r = absurd (none_is_some r.0)
in_of id (ComponentItem bs) bytes rest r = absurd (none_is_some r.0)
in_of id (StartItem s) bytes rest r = absurd (none_is_some r.0)
in_of id other bytes rest r = r

whole_told : {A : Type 0} (P : A → Type 0) (Q : Item × List ℕ → Type 0) (D : Type 0) (make : A → Item) (found : Result A Flaw)
    → Told P ⊥ found → ((v : A) → P v → Q (make v, [])) → Told Q D (whole_item make found)
whole_told P Q D make (Ok v) h k = k v h
whole_told P Q D make (Err Bad) h k = tt
whole_told P Q D make (Err Deep) h k = absurd h

-- it is read here, within the depth
abbrev pub InWithin : ℕ → ℕ → List ℕ → Item × List ℕ → Type 0
InWithin d id bytes x = HasDepth d x.0 × (item_in id x.0).Reads Wide bytes x.1

pub in_told : (d id : ℕ) (bytes : List ℕ) → Told (InWithin d id bytes) (GoesIn d id bytes) (read_item_in d id bytes)
in_told d id bytes =
    let Is = InWithin d id bytes in
    let Goes = GoesIn d id bytes in
    elim (tested id 0) [
      | inl e ↦ rw (e.0, cond) (whole_told _ Is Goes CustomItem (read_custom_content bytes) (custom_content_sound.tells bytes) (λ c r. (tt, (e.1, (refl, r)))))
      | inr no0 ↦
          elim (tested id 1) [
            | inl e ↦ rw (no0, cond, e.0, cond) (whole_told _ Is Goes ModuleItem (read_raw bytes) (raw_sound.tells bytes) (λ bs r. (tt, (e.1, (refl, r)))))
            | inr no1 ↦
                elim (tested id 4) [
                  | inl e ↦ rw (no0, cond, no1, cond, e.0, cond)
                      (whole_told _ Is Goes ComponentItem (read_raw bytes) (raw_sound.tells bytes) (λ bs r. (tt, (e.1, (refl, r)))))
                  | inr no4 ↦
                      elim (tested id 9) [
                        | inl e ↦ rw (no0, cond, no1, cond, no4, cond, e.0, cond) (told_on
                            (λ x. (start_content x.0).Reads Wide bytes x.1) ⊥ Is Goes (λ s. give (StartItem s)) (read_start_content bytes)
                            (start_content_sound.tells bytes) (λ f. absurd f) (λ x r. (tt, (e.1, r))))
                        | inr no9 ↦ rw (no0, cond, no1, cond, no4, cond, no9, cond) (weaken
                            (λ x. (ItemWithin d id x.0).Reads Wide bytes x.1) Is Goes Goes (read_content_item d id bytes)
                            (λ x r. (r.0, in_of id x.0 bytes x.1 r.1)) (λ g. g) ((item_tells d id).tells bytes))
                      ]
                ]
          ]
    ]

whole_agrees : {A : Type 0} (D : Type 0) (make : A → Item) (v : A) (found : Result A Flaw) (rest : List ℕ) → found ≡ Ok v → rest ≡ []
    → Agrees D (make v, rest) (whole_item make found)
whole_agrees D make v found rest e z = rw (e, z) refl

given_agrees : {A : Type 0} (D : Type 0) (make : A → Item) (v : A) (found : Result (A × List ℕ) Flaw) (rest : List ℕ) → found ≡ Ok (v, rest)
    → Agrees D (make v, rest) (go_on found (λ x. give (make x)))
given_agrees D make v found rest e = rw e refl

pub in_agrees : (d id : ℕ) (x : Item) (bytes rest : List ℕ) → (item_in id x).Reads Wide bytes rest → Agrees (IsPast d x) (x, rest) (read_item_in d id bytes)
in_agrees d id (CustomItem c) bytes rest r = rw r.0
    (whole_agrees _ CustomItem c (read_custom_content bytes) rest
    ((custom_content_lawful c).finds (custom_content_lawful c).depth (omega arith) Wide bytes r.1.1) r.1.0)
in_agrees d id (ModuleItem bs) bytes rest r = rw r.0
    (whole_agrees _ ModuleItem bs (read_raw bytes) rest
    ((bytes_lawful (λ b. b) bs).finds (bytes_lawful (λ b. b) bs).depth (omega arith) Wide bytes r.1.1) r.1.0)
in_agrees d id (ComponentItem bs) bytes rest r = rw r.0
    (whole_agrees _ ComponentItem bs (read_raw bytes) rest
    ((bytes_lawful (λ b. b) bs).finds (bytes_lawful (λ b. b) bs).depth (omega arith) Wide bytes r.1.1) r.1.0)
in_agrees d id (StartItem s) bytes rest r = rw r.0
    (given_agrees _ StartItem s (read_start_content bytes) rest
    ((start_content_lawful s).finds (start_content_lawful s).depth (omega arith) Wide bytes rest r.1))
in_agrees d id (CoreInstanceItem i) bytes rest r = rw (← same_Some 2 id r.0) ((item_finds d 2 (CoreInstanceItem i)).finds bytes rest (refl, r.1))
in_agrees d id (CoreTypeItem t) bytes rest r = rw (← same_Some 3 id r.0) ((item_finds d 3 (CoreTypeItem t)).finds bytes rest (refl, r.1))
in_agrees d id (InstanceItem i) bytes rest r = rw (← same_Some 5 id r.0) ((item_finds d 5 (InstanceItem i)).finds bytes rest (refl, r.1))
in_agrees d id (AliasItem to) bytes rest r = rw (← same_Some 6 id r.0) ((item_finds d 6 (AliasItem to)).finds bytes rest (refl, r.1))
in_agrees d id (TypeItem t) bytes rest r = rw (← same_Some 7 id r.0) ((item_finds d 7 (TypeItem t)).finds bytes rest (refl, r.1))
in_agrees d id (CanonItem f) bytes rest r = rw (← same_Some 8 id r.0) ((item_finds d 8 (CanonItem f)).finds bytes rest (refl, r.1))
in_agrees d id (ImportItem i) bytes rest r = rw (← same_Some 10 id r.0) ((item_finds d 10 (ImportItem i)).finds bytes rest (refl, r.1))
in_agrees d id (ExportItem x) bytes rest r = rw (← same_Some 11 id r.0) ((item_finds d 11 (ExportItem x)).finds bytes rest (refl, r.1))
in_agrees d id (RawItem bs) bytes rest r = absurd (none_is_some r.0)

once : {A : Type 0} (D E : Type 0) (v w : A) (found : Result A Flaw) → Agrees D v found → (D → ⊥) → Agrees E w found → v ≡ w
once D E v w (Ok z) a never b = sym a ∙ b
once D E v w (Err Bad) a never b = absurd a
once D E v w (Err Deep) a never b = absurd (never a)

-- one item is read here
pub same_item : (id : ℕ) (x y : Item) (bytes rest after : List ℕ) → (item_in id x).Reads Wide bytes rest → HasDepth 100 x
    → (item_in id y).Reads Wide bytes after → ◌≡◌ {A = Item × List ℕ} (x, rest) (y, after)
same_item id x y bytes rest after r w q = once (IsPast 100 x) (IsPast 100 y) (x, rest) (y, after) (read_item_in 100 id bytes)
    (in_agrees 100 id x bytes rest r) (λ past. past w) (in_agrees 100 id y bytes after q)

-- ---- what is left

pub item_leaves : (id : ℕ) (x : Item) (bytes rest : List ℕ) → (item_in id x).Reads Wide bytes rest → EndsWith bytes rest
item_leaves id (CustomItem c) bytes rest r = (bytes, rw r.1.0 (sym (append-nil bytes)))
item_leaves id (ModuleItem bs) bytes rest r = (bytes, rw r.1.0 (sym (append-nil bytes)))
item_leaves id (ComponentItem bs) bytes rest r = (bytes, rw r.1.0 (sym (append-nil bytes)))
item_leaves id (StartItem s) bytes rest r = (start_content_lawful s).leaves Wide bytes rest r.1
item_leaves id other bytes rest r = (item_of_lawful id other).leaves Wide bytes rest r

pub frame_leaves : (bytes : List ℕ) (id : ℕ) (content rest : List ℕ) → IsFramed bytes id content rest → EndsWith bytes (content ++ rest)
frame_leaves bytes id content rest f = ends_on bytes f.middle (content ++ rest) (id ∷ [], f.begins)
    ((u32_lawful (length content)).leaves Wide f.middle (content ++ rest) f.sized)

count_leaves : (id n : ℕ) (content items : List ℕ) → Holds id content n items → EndsWith content items
count_leaves id n content items (inl h) = (u32_lawful n).leaves Wide content items h.1
count_leaves id n content items (inr h) = ([], sym h.2)

-- where more follows
ends_before : (bytes left rest : List ℕ) → EndsWith bytes left → EndsWith (bytes ++ rest) (left ++ rest)
ends_before bytes left rest e = (e.0, ap (λ (t : List ℕ). t ++ rest) e.1 ∙ append_assoc e.0 left rest)

pub section_leaves : (bytes : List ℕ) (id : ℕ) (content rest : List ℕ) (n : ℕ) (items : List ℕ) → IsFramed bytes id content rest
    → Holds id content n items → EndsWith bytes (items ++ rest)
section_leaves bytes id content rest n items f h = ends_on bytes (content ++ rest) (items ++ rest) (frame_leaves bytes id content rest f)
    (ends_before content items rest (count_leaves id n content items h))

-- what the bytes end with stands at its place
pub at_place : (bytes left : List ℕ) (place : ℕ) → EndsWith bytes left → (length bytes ≡ place + length left) → drop place bytes ≡ left
at_place bytes left place e p =
    let n : length e.0 ≡ place = omega (arith, p, ap length e.1, length-append e.0 left) in
    rw e.1 (drop_at e.0 left place n)

-- ---- items, one after the other

pub each_more : {A : Type 0} (form : Form A) (vs : List A) (v : A) (bytes middle rest : List ℕ) → (each form vs).Reads Wide bytes middle
    → (form v).Reads Wide middle rest → (each form (vs ++ v ∷ [])).Reads Wide bytes rest
each_more form [] v bytes middle rest a b = (rest, rw (sym a) at b, refl)
each_more form (w ∷ vs) v bytes middle rest a b = (a.0, a.1, each_more form vs v a.0 middle rest a.2 b)

all_more : {A : Type 0} (P : A → Type 0) (vs : List A) (v : A) → AllByRecursion P vs → P v → AllByRecursion P (vs ++ v ∷ [])
all_more P [] v a b = (b, tt)
all_more P (w ∷ vs) v a b = (a.0, all_more P vs v a.1 b)

-- what is left, where some of them were taken
record RestOf (id : ℕ) (left : List ℕ) (number : ℕ) (IsWithin : Type 0) : Type 0 where
  others : List Item
  read : (each (item_in id) others).Reads Wide left []
  are : length others ≡ number
  within : IsWithin → AllByRecursion (HasDepth 100) others

goes_on : (id : ℕ) (before xs : List Item) (bytes left : List ℕ) (number : ℕ) → (each (item_in id) before).Reads Wide bytes left
    → AllByRecursion (HasDepth 100) before → (each (item_in id) xs).Reads Wide bytes [] → length xs ≡ length before + number
    → RestOf id left number (AllByRecursion (HasDepth 100) xs)
goes_on id [] xs bytes left number b w a n = record { others = xs; read = rw b at a; are = omega (arith, n); within = λ h. h }
goes_on id (x ∷ before) [] bytes left number b w a n = absurd (omega (arith, n))
goes_on id (x ∷ before) (y ∷ xs) bytes left number b w a n =
    let same = same_item id x y bytes b.0 a.0 b.1 w.0 a.1 in
    let middle : a.0 ≡ b.0 = sym (ap (λ (z : Item × List ℕ). z.1) same) in
    let on = goes_on id before xs b.0 left number b.2 w.1 (rw middle at a.2) (omega (arith, n)) in
    record { others = on.others; read = on.read; are = on.are; within = λ h. on.within h.1 }

pub same_items : (id : ℕ) (xs ys : List Item) (bytes : List ℕ) → (each (item_in id) xs).Reads Wide bytes []
    → AllByRecursion (HasDepth 100) xs → (each (item_in id) ys).Reads Wide bytes [] → length xs ≡ length ys → xs ≡ ys
same_items id [] [] bytes a w b n = refl
same_items id [] (y ∷ ys) bytes a w b n = absurd (omega (arith, n))
same_items id (x ∷ xs) [] bytes a w b n = absurd (omega (arith, n))
same_items id (x ∷ xs) (y ∷ ys) bytes a w b n =
    let same = same_item id x y bytes a.0 b.0 a.1 w.0 b.1 in
    let middle : b.0 ≡ a.0 = sym (ap (λ (z : Item × List ℕ). z.1) same) in
    let first : x ≡ y = ap (λ (z : Item × List ℕ). z.0) same in
    let others : xs ≡ ys = same_items id xs ys a.0 a.2 w.1 (rw middle at b.2) (omega (arith, n)) in
    rw (first, others) refl

-- ---- how many

bool_cases : (b : Bool) → (b ≡ true) ⊎ (b ≡ false)
bool_cases true = inl refl
bool_cases false = inr refl

counted_as : (id : ℕ) (content : List ℕ) (b : Bool) → collects id ≡ b → Told (λ x. Holds id content x.0 x.1) ⊥ (cond b (read_u32 content) (Ok (1, content)))
counted_as id content true e = weaken (λ x. (u32 x.0).Reads Wide content x.1) (λ x. Holds id content x.0 x.1) ⊥ ⊥ (read_u32 content)
    (λ x r. inl (e, r)) (λ f. f) (u32_sound.tells content)
counted_as id content false e = inr (e, refl, refl)

pub count_told : (id : ℕ) (content : List ℕ) → Told (λ x. Holds id content x.0 x.1) ⊥ (read_count id content)
count_told id content = counted_as id content (collects id) refl

pub count_found : (id : ℕ) (content : List ℕ) (n : ℕ) (items : List ℕ) → Holds id content n items → read_count id content ≡ Ok (n, items)
count_found id content n items (inl h) = rw (h.0, cond) ((u32_lawful n).finds (u32_lawful n).depth (omega arith) Wide content items h.1)
count_found id content n items (inr h) = rw (h.0, cond, h.1, h.2) refl

same_count : (id : ℕ) (content : List ℕ) (n m : ℕ) (items others : List ℕ) → Holds id content n items → Holds id content m others → (n ≡ m) × (items ≡ others)
same_count id content n m items others h k = same_Ok_pair n m items others (sym (count_found id content n items h) ∙ count_found id content m others k)

-- ---- all items of a section

-- where the section collects, its items stand in it as they are
of_in : (id : ℕ) (x : Item) (bytes rest : List ℕ) → IsTrue (collects id) → (item_in id x).Reads Wide bytes rest → (item_of id x).Reads Wide bytes rest
of_in id (CustomItem c) bytes rest t r = absurd (true≢false (sym t ∙ ap collects r.0))
of_in id (ModuleItem bs) bytes rest t r = absurd (true≢false (sym t ∙ ap collects r.0))
of_in id (ComponentItem bs) bytes rest t r = absurd (true≢false (sym t ∙ ap collects r.0))
of_in id (StartItem s) bytes rest t r = absurd (true≢false (sym t ∙ ap collects r.0))
of_in id other bytes rest t r = r

each_of : (id : ℕ) (xs : List Item) (bytes rest : List ℕ) → IsTrue (collects id) → (each (item_in id) xs).Reads Wide bytes rest
    → (each (item_of id) xs).Reads Wide bytes rest
each_of id [] bytes rest t r = r
each_of id (x ∷ xs) bytes rest t r = (r.0, of_in id x bytes r.0 t r.1, each_of id xs r.0 rest t r.2)

each_in : (id : ℕ) (xs : List Item) (bytes rest : List ℕ) → (each (item_of id) xs).Reads Wide bytes rest → (each (item_in id) xs).Reads Wide bytes rest
each_in id [] bytes rest r = r
each_in id (x ∷ xs) bytes rest r = (r.0, in_of id x bytes r.0 r.1, each_in id xs r.0 rest r.2)

collected_false : (id k : ℕ) → IsFalse (collects id) → Some k ≡ Some id → IsTrue (collects k) → ⊥
collected_false id k f e t = true≢false (sym t ∙ ap collects (same_Some k id e) ∙ f)

alone_of : (id : ℕ) (x : Item) (content : List ℕ) → IsFalse (collects id) → (item_in id x).Reads Wide content [] → AloneIn id x content
alone_of id (CustomItem c) content f r = (r.0, r.1.1)
alone_of id (ModuleItem bs) content f r = (r.0, r.1.1)
alone_of id (ComponentItem bs) content f r = (r.0, r.1.1)
alone_of id (StartItem s) content f r = r
alone_of id (CoreInstanceItem i) content f r = absurd (collected_false id 2 f r.0 refl)
alone_of id (CoreTypeItem t) content f r = absurd (collected_false id 3 f r.0 refl)
alone_of id (InstanceItem i) content f r = absurd (collected_false id 5 f r.0 refl)
alone_of id (AliasItem to) content f r = absurd (collected_false id 6 f r.0 refl)
alone_of id (TypeItem t) content f r = absurd (collected_false id 7 f r.0 refl)
alone_of id (CanonItem c) content f r = absurd (collected_false id 8 f r.0 refl)
alone_of id (ImportItem i) content f r = absurd (collected_false id 10 f r.0 refl)
alone_of id (ExportItem x) content f r = absurd (collected_false id 11 f r.0 refl)
alone_of id (RawItem bs) content f r = absurd (none_is_some r.0)

fills_alone : (id : ℕ) (xs : List Item) (content : List ℕ) → IsFalse (collects id) → length xs ≡ 1
    → (each (item_in id) xs).Reads Wide content [] → Fills id xs content
fills_alone id [] content f n r = absurd (omega (arith, n))
fills_alone id (x ∷ []) content f n r = inr (x, refl, alone_of id x content f (subst (λ (rest : List ℕ). (item_in id x).Reads Wide content rest) r.2 r.1))
fills_alone id (x ∷ y ∷ xs) content f n r = absurd (omega (arith, n))

fills_of : (id n : ℕ) (content items : List ℕ) (xs : List Item) → Holds id content n items → (each (item_in id) xs).Reads Wide items []
    → length xs ≡ n → Fills id xs content
fills_of id n content items xs (inl h) r e = inl (h.0, (items, rw (sym e) at h.1, each_of id xs items [] h.0 r))
fills_of id n content items xs (inr h) r e = fills_alone id xs content h.0 (e ∙ h.1) (rw h.2 at r)

-- the items that fill a section are all that it holds
record HoldsAll (id : ℕ) (xs : List Item) (content : List ℕ) : Type 0 where
  items : List ℕ
  holds : Holds id content (length xs) items
  read : (each (item_in id) xs).Reads Wide items []

alone_held : (id : ℕ) (x : Item) (content : List ℕ) → AloneIn id x content → HoldsAll id (x ∷ []) content
alone_held id (CustomItem c) content a = rw a.0 (record { items = content; holds = inr (refl, refl, refl); read = ([], (refl, (refl, a.1)), refl) })
alone_held id (ModuleItem bs) content a = rw a.0 (record { items = content; holds = inr (refl, refl, refl); read = ([], (refl, (refl, a.1)), refl) })
alone_held id (ComponentItem bs) content a = rw a.0 (record { items = content; holds = inr (refl, refl, refl); read = ([], (refl, (refl, a.1)), refl) })
alone_held id (StartItem s) content a = rw a.0 (record { items = content; holds = inr (refl, refl, refl); read = ([], (refl, a.1), refl) })
alone_held id other content a = absurd a

all_held : (id : ℕ) (xs : List Item) (content : List ℕ) → Fills id xs content → HoldsAll id xs content
all_held id xs content (inl h) = record { items = h.1.0; holds = inl (h.0, h.1.1); read = each_in id xs h.1.0 [] h.1.2 }
all_held id xs content (inr h) = rw h.1 (alone_held id h.0 content h.2)

-- what fills a section within the depth is all that does
pub filled_once : (id : ℕ) (xs ys : List Item) (content : List ℕ) → Fills id xs content → AllByRecursion (HasDepth 100) xs → Fills id ys content → xs ≡ ys
filled_once id xs ys content f w g =
    let a = all_held id xs content f in
    let b = all_held id ys content g in
    let same = same_count id content (length xs) (length ys) a.items b.items a.holds b.holds in
    same_items id xs ys a.items a.read w (rw (sym same.1) at b.read) same.0

-- ---- a section, of which some items were taken

fills_here : (bytes : List ℕ) (id : ℕ) (content rest : List ℕ) → IsFramed bytes id content rest → (s : Section) (after : List ℕ)
    → (section_piece s).Reads Wide bytes after → Fills id (members s) content
fills_here bytes id content rest framed s after r =
    let f = section_framed s bytes after r in
    let same = same_frame bytes id f.id content f.content rest after (frame_finds bytes id content rest framed) f.framed in
    rw (same.id_is, same.content_is) f.fills

rest_read : (bytes : List ℕ) (id : ℕ) (content rest : List ℕ) (n : ℕ) (items : List ℕ) (before : List Item) (left : List ℕ) (number : ℕ)
    → IsFramed bytes id content rest → Holds id content n items
    → (each (item_in id) before).Reads Wide items left → AllByRecursion (HasDepth 100) before → n ≡ length before + number
    → (s : Section) (after : List ℕ) → (section_piece s).Reads Wide bytes after
    → RestOf id left number (AllByRecursion (HasDepth 100) (members s))
rest_read bytes id content rest n items before left number framed holds b w e s after r =
    let all = all_held id (members s) content (fills_here bytes id content rest framed s after r) in
    let same = same_count id content (length (members s)) n all.items items all.holds holds in
    goes_on id before (members s) items left number b w (rw same.1 at all.read) (same.0 ∙ e)

-- what of the section is left is known
record Known (bytes : List ℕ) (left : SectionItems) : Type 0 where
  content : List ℕ
  rest : List ℕ
  framed : IsFramed bytes left.id content rest
  n : ℕ
  items : List ℕ
  holds : Holds left.id content n items
  before : List Item
  read : (each (item_in left.id) before).Reads Wide items left.rest.now
  within : AllByRecursion (HasDepth 100) before
  counted : n ≡ length before + left.left

known : (ends : ℕ) (bytes rest : List ℕ) (s : SectionItems) (xs : List Item) (left : SectionItems) → Opens ends bytes s rest
    → HasTaken s xs left → Known bytes left
known ends bytes rest s xs left o t = record {
  content = o.content;
  rest = rest;
  framed = rw (sym t.same_id) at o.framed;
  n = s.left;
  items = s.rest.now;
  holds = rw (sym t.same_id) at o.holds;
  before = xs;
  read = subst (λ (id : ℕ). (each (item_in id) xs).Reads Wide s.rest.now left.rest.now) (sym t.same_id) t.read;
  within = t.within;
  counted = t.counted;
}

rest_of : (bytes : List ℕ) (left : SectionItems) → Known bytes left → (s : Section) (after : List ℕ)
    → (section_piece s).Reads Wide bytes after → RestOf left.id left.rest.now left.left (AllByRecursion (HasDepth 100) (members s))
rest_of bytes left k s after r = rest_read bytes left.id k.content k.rest k.n k.items k.before left.rest.now left.left k.framed k.holds
    k.read k.within k.counted s after r

-- ---- what stands against it

nothing_left : (id : ℕ) (left : List ℕ) (xs : List Item) → (each (item_in id) xs).Reads Wide left [] → length xs ≡ 0 → 0 < length left → ⊥
nothing_left id left [] r n some = omega (arith, ap length r, some)
nothing_left id left (x ∷ xs) r n some = omega (arith, n)

never_left : (id : ℕ) (left : List ℕ) (xs : List Item) → (each (item_in id) xs).Reads Wide left [] → 0 < length xs → IsNeverItem id left → ⊥
never_left id left [] r some never = omega (arith, some)
never_left id left (x ∷ xs) r some never = never x r.0 r.1

none_left : (id : ℕ) (left : List ℕ) (xs : List Item) → (each (item_in id) xs).Reads Wide left [] → AllByRecursion (HasDepth 100) xs
    → 0 < length xs → IsNoItem id left → ⊥
none_left id left [] r w some never = omega (arith, some)
none_left id left (x ∷ xs) r w some never = never x r.0 r.1 w.0

-- no item, or bytes behind the last one
abbrev IsStuck : SectionItems → Type 0
IsStuck left = ((0 < left.left) × (left.id ≡ 0 → ⊥) × IsNeverItem left.id left.rest.now) ⊎ ((left.left ≡ 0) × (0 < length left.rest.now))

stuck : (bytes : List ℕ) (left : SectionItems) → Known bytes left → IsStuck left → (s : Section) (after : List ℕ) → (section_piece s).Reads Wide bytes after → ⊥
stuck bytes left k (inl f) s after r = let o =
    rest_of bytes left k s after r in never_left left.id left.rest.now o.others o.read (omega (arith, o.are, f.0)) f.2
stuck bytes left k (inr f) s after r = let o =
    rest_of bytes left k s after r in nothing_left left.id left.rest.now o.others o.read (omega (arith, o.are, f.0)) f.1

pub labelled_other : (id : ℕ) (content : List ℕ) → (id ≡ 0 → ⊥) → IsLabelled id content
labelled_other zero content no0 = absurd (no0 refl)
labelled_other (suc id) content no0 = tt

-- after what is in a custom section nothing is
custom_ends : (x : Item) (content left : List ℕ) → (item_in 0 x).Reads Wide content left → left ≡ []
custom_ends (CustomItem c) content left r = r.1.0
custom_ends (ModuleItem bs) content left r = r.1.0
custom_ends (ComponentItem bs) content left r = r.1.0
custom_ends (StartItem s) content left r = absurd (omega (arith, r.0))
custom_ends (CoreInstanceItem i) content left r = absurd (collected_false 0 2 refl r.0 refl)
custom_ends (CoreTypeItem t) content left r = absurd (collected_false 0 3 refl r.0 refl)
custom_ends (InstanceItem i) content left r = absurd (collected_false 0 5 refl r.0 refl)
custom_ends (AliasItem to) content left r = absurd (collected_false 0 6 refl r.0 refl)
custom_ends (TypeItem t) content left r = absurd (collected_false 0 7 refl r.0 refl)
custom_ends (CanonItem c) content left r = absurd (collected_false 0 8 refl r.0 refl)
custom_ends (ImportItem i) content left r = absurd (collected_false 0 10 refl r.0 refl)
custom_ends (ExportItem x) content left r = absurd (collected_false 0 11 refl r.0 refl)
custom_ends (RawItem bs) content left r = absurd (none_is_some r.0)

customs_end : (xs : List Item) (items left : List ℕ) → (each (item_in 0) xs).Reads Wide items left → length xs ≡ 1 → left ≡ []
customs_end [] items left r n = absurd (omega (arith, n))
customs_end (x ∷ []) items left r n = sym r.2 ∙ custom_ends x items r.0 r.1
customs_end (x ∷ y ∷ xs) items left r n = absurd (omega (arith, n))

-- the content of a custom section is one item
one_alone : (n : ℕ) (content items : List ℕ) → Holds 0 content n items → (n ≡ 1) × (items ≡ content)
one_alone n content items (inl h) = absurd (true≢false (sym h.0))
one_alone n content items (inr h) = (h.1, h.2)

stuck_other : (bytes : List ℕ) (left : SectionItems) → Known bytes left → IsStuck left → left.id ≡ 0 → ⊥
stuck_other bytes left k (inl f) e = f.1 e
stuck_other bytes left k (inr f) e =
    let h = one_alone k.n k.content k.items (rw e at k.holds) in
    let n : length k.before ≡ 1 = omega (arith, k.counted, f.0, h.0) in
    let nil = customs_end k.before k.items left.rest.now (rw e at k.read) n in
    omega (arith, ap length nil, f.1)

alone_labelled : (id : ℕ) (x : Item) (content : List ℕ) → AloneIn id x content → IsLabelled id content
alone_labelled id (CustomItem c) content a = rw a.0 (c.label, a.1.0, a.1.1)
alone_labelled id (ModuleItem bs) content a = rw a.0 tt
alone_labelled id (ComponentItem bs) content a = rw a.0 tt
alone_labelled id (StartItem s) content a = rw a.0 tt
alone_labelled id other content a = absurd a

pub fills_labelled : (id : ℕ) (xs : List Item) (content : List ℕ) → Fills id xs content → IsLabelled id content
fills_labelled zero xs content (inl h) = absurd (true≢false (sym h.0))
fills_labelled (suc id) xs content (inl h) = tt
fills_labelled id xs content (inr h) = alone_labelled id h.0 content h.2

-- a custom section without a name, of which nothing was taken
nothing_before : (xs : List Item) (items left : List ℕ) → (each (item_in 0) xs).Reads Wide items left → length xs ≡ 0 → items ≡ left
nothing_before [] items left r n = r
nothing_before (x ∷ xs) items left r n = absurd (omega (arith, n))

unlabelled : (bytes : List ℕ) (left : SectionItems) → (k : Known bytes left) → 0 < left.left → left.id ≡ 0 → k.content ≡ left.rest.now
unlabelled bytes left k some e =
    let h = one_alone k.n k.content k.items (rw e at k.holds) in
    let n : length k.before ≡ 0 = omega (arith, k.counted, some, h.0) in
    sym h.1 ∙ nothing_before k.before k.items left.rest.now (rw e at k.read) n

known_fault : (here : ℕ) (bytes : List ℕ) (left : SectionItems) (fault : ListFault) → Known bytes left → left.place ≡ here
    → IsFaultIn left fault → IsFaultHere here bytes fault
known_fault here bytes left faults.Memory k p f = tt
known_fault here bytes left (faults.NotAComponent place) k p f = absurd f
known_fault here bytes left (faults.BadSection place) k p f =
    let same = unlabelled bytes left k f.1 f.2 in
    let no_label : IsLabelled left.id k.content → ⊥ = λ l. f.3 (rw (f.2, same) at l) in (
      f.0 ∙ p,
      (λ s after r w. no_label (fills_labelled left.id (members s) k.content (fills_here bytes left.id k.content k.rest k.framed s after r))),
      (λ id content rest framed l.
          (let one = same_frame bytes left.id id k.content content k.rest rest (frame_finds bytes left.id k.content k.rest k.framed) framed in
          no_label (rw (sym one.id_is, sym one.content_is) at l))),
    )
known_fault here bytes left (faults.BadItem place) k p f = (
  f.0 ∙ p,
  (λ s after r w. stuck bytes left k f.1 s after r),
  record {
    id = left.id;
    content = k.content;
    rest = k.rest;
    framed = k.framed;
    labelled = labelled_other left.id k.content (stuck_other bytes left k f.1);
    never = stuck bytes left k f.1;
  },
)
known_fault here bytes left (faults.TooDeep place) k p f =
    let counted = seven_counts k.content k.n k.items (rw f.2 at k.holds) in (
      f.0 ∙ p,
      (λ s after r w. (let o = rest_of bytes left k s after r in none_left left.id left.rest.now o.others o.read (o.within w.0)
          (omega (arith, o.are, f.1)) f.4)),
      record {
        content = k.content;
        rest = k.rest;
        framed = rw f.2 at k.framed;
        reached = record {
          count = k.n;
          middle = k.items;
          counted = counted;
          before = k.before;
          left = left.rest.now;
          read = each_of 7 k.before k.items left.rest.now refl (rw f.2 at k.read);
          fewer = omega (arith, k.counted, f.1);
          next = f.3;
        };
      },
    )
  where
    seven_counts : (content : List ℕ) (n : ℕ) (items : List ℕ) → Holds 7 content n items → (u32 n).Reads Wide content items
    seven_counts content n items (inl h) = h.1
    seven_counts content n items (inr h) = absurd (true≢false h.0)

-- ---- what a loop over the items of a section finds

pub taken_fault : (ends : ℕ) (bytes rest : List ℕ) (s : SectionItems) (xs : List Item) (left : SectionItems) (fault : ListFault)
    → Opens ends bytes s rest → HasTaken s xs left → IsFaultIn left fault → IsFaultHere s.place bytes fault
taken_fault ends bytes rest s xs left fault o t f = known_fault s.place bytes left fault (known ends bytes rest s xs left o t) t.same_place f

pub none_taken : (s : SectionItems) → HasTaken s [] s
none_taken s = record { read = refl; leaves = ([], refl); within = tt; counted = omega arith; same_id = refl; same_place = refl; same_end = refl }

pub one_more_taken : (first middle left : SectionItems) (xs : List Item) (x : Item) → HasTaken first xs middle
    → HasTaken middle (x ∷ []) left → HasTaken first (xs ++ x ∷ []) left
one_more_taken first middle left xs x a b =
    let one : (item_in first.id x).Reads Wide middle.rest.now left.rest.now =
    subst (λ (id : ℕ). (item_in id x).Reads Wide middle.rest.now left.rest.now) a.same_id
    (subst (λ (rest : List ℕ). (item_in middle.id x).Reads Wide middle.rest.now rest) b.read.2 b.read.1) in
    record {
      read = each_more (item_in first.id) xs x first.rest.now middle.rest.now left.rest.now a.read one;
      leaves = ends_on first.rest.now middle.rest.now left.rest.now a.leaves b.leaves;
      within = all_more (HasDepth 100) xs x a.within b.within.0;
      counted = omega (arith, a.counted, b.counted, length-append xs (x ∷ []));
      same_id = b.same_id ∙ a.same_id;
      same_place = b.same_place ∙ a.same_place;
      same_end = b.same_end ∙ a.same_end;
    }

all_fill : (ends : ℕ) (bytes rest : List ℕ) (s : SectionItems) (xs : List Item) (left : SectionItems) (o : Opens ends bytes s rest)
    → HasTaken s xs left → IsSpent left → Fills s.id xs o.content
all_fill ends bytes rest s xs left o t p = fills_of s.id s.left o.content s.rest.now xs o.holds (rw p.1 at t.read) (omega (arith, t.counted, p.0))

pub taken_read : (ends : ℕ) (bytes rest : List ℕ) (s : SectionItems) (xs : List Item) (left : SectionItems) → Opens ends bytes s rest
    → HasTaken s xs left → IsSpent left → (section_piece (item_section s.id xs)).Reads Wide bytes rest
taken_read ends bytes rest s xs left o t p = section_reads s.id xs bytes o.content rest o.framed (all_fill ends bytes rest s xs left o t p)

pub taken_within : (id : ℕ) (xs : List Item) → AllByRecursion (HasDepth 100) xs → AreWithin 100 (item_section id xs ∷ [])
taken_within id xs w = (rw (members_of id xs) w, tt)

-- ---- where it stands

pub after_section : (ends : ℕ) (bytes before rest : List ℕ) (s : SectionItems) → EndsWith bytes before → Opens ends before s rest → EndsWith bytes rest
after_section ends bytes before rest s e o = ends_on bytes before rest e (ends_on before (s.rest.now ++ rest) rest o.leaves (s.rest.now, refl))

pub stands_at_place : (bytes left : List ℕ) → EndsWith bytes left → drop (length bytes - length left) bytes ≡ left
stands_at_place bytes left e = at_place bytes left (length bytes - length left) e (omega (arith, ap length e.1, length-append e.0 left))

pub stands_where_reached : (bytes before rest : List ℕ) (first : SectionItems) (xs : List Item) (left : SectionItems)
    → EndsWith bytes before → Opens (length bytes) before first rest → HasTaken first xs left
    → drop (left.ends - length left.rest.now) bytes ≡ left.rest.now ++ rest
stands_where_reached bytes before rest first xs left e o t =
    let all = ends_on before (first.rest.now ++ rest) (left.rest.now ++ rest) o.leaves (ends_before first.rest.now left.rest.now rest t.leaves) in
    let f = ends_on bytes before (left.rest.now ++ rest) e all in
    at_place bytes (left.rest.now ++ rest) (left.ends - length left.rest.now) f
    (omega (arith, t.same_end, o.is_end, ap length f.1, length-append f.0 (left.rest.now ++ rest), length-append left.rest.now rest))

-- ---- where no count begins the content

pub uncounted : (id : ℕ) (content : List ℕ) → read_count id content ≡ Err Bad → (n : ℕ) (items : List ℕ) → Holds id content n items → ⊥
uncounted id content e n items h = not_both (read_count id content) (n, items) (count_found id content n items h) e

pub uncounted_fault : (place : ℕ) (bytes : List ℕ) (id : ℕ) (content rest : List ℕ) → IsFramed bytes id content rest → (id ≡ 0 → ⊥)
    → read_count id content ≡ Err Bad → IsFaultHere place bytes (faults.BadItem place)
uncounted_fault place bytes id content rest framed no0 e =
    let never : (s : Section) (after : List ℕ) → (section_piece s).Reads Wide bytes after → ⊥ =
    λ s after r. (let all = all_held id (members s) content (fills_here bytes id content rest framed s after r) in
    uncounted id content e (length (members s)) all.items all.holds) in (
      refl,
      (λ s after r w. never s after r),
      record { id = id; content = content; rest = rest; framed = framed; labelled = labelled_other id content no0; never = never },
    )

-- ---- what one step finds

pub no_count : (id : ℕ) (content : List ℕ) → read_count id content ≡ Err Bad → IsTrue (collects id)
no_count id content e =
    elim (bool_cases (collects id)) [
      | inl t ↦ t
      | inr f ↦ absurd (not_both (read_count id content) (1, content) (count_found id content 1 content (inr (f, refl, refl))) e)
    ]

pub collects_other : (id : ℕ) → IsTrue (collects id) → id ≡ 0 → ⊥
collects_other id t e = true≢false (sym t ∙ ap collects e)

-- a name that is read leaves bytes
behind_bytes : (front rest : List ℕ) → AreBytes (front ++ rest) → AreBytes rest
behind_bytes [] rest h = h
behind_bytes (b ∷ front) rest h = behind_bytes front rest h.1

name_leaves : (label content bytes : List ℕ) → (name label).Reads Wide content bytes → AreBytes content → AreBytes bytes
name_leaves label content bytes r h = let e = (name_lawful label).leaves Wide content bytes r in behind_bytes e.0 bytes (rw e.1 at h)

-- so a custom section with a name is read
labelled_found : (label content bytes : List ℕ) → (name label).Reads Wide content bytes → AreBytes content
    → read_item_in 100 0 content ≡ Ok (CustomItem (labelled_section label bytes), [])
labelled_found label content bytes r h = rw (
  (name_lawful label).finds (name_lawful label).depth (omega arith) Wide content bytes r,
  bytes_pass bytes (name_leaves label content bytes r h),
) refl

pub no_label : (content : List ℕ) → AreBytes content → read_item_in 100 0 content ≡ Err Bad → IsLabelled 0 content → ⊥
no_label content are bad l = not_both (read_item_in 100 0 content) (CustomItem (labelled_section l.0 l.1), []) (labelled_found l.0 content l.1 l.2 are) bad

bad_never : (D : Type 0) (x : Item × List ℕ) (found : Result (Item × List ℕ) Flaw) → found ≡ Err Bad → Agrees D x found → ⊥
bad_never D x found e a = rw e at a

deep_past : (D : Type 0) (x : Item × List ℕ) (found : Result (Item × List ℕ) Flaw) → found ≡ Err Deep → Agrees D x found → D
deep_past D x found e a = rw e at a

pub never_item : (id : ℕ) (bytes : List ℕ) → read_item_in 100 id bytes ≡ Err Bad → IsNeverItem id bytes
never_item id bytes e x rest r = bad_never (IsPast 100 x) (x, rest) (read_item_in 100 id bytes) e (in_agrees 100 id x bytes rest r)

pub no_item : (id : ℕ) (bytes : List ℕ) → read_item_in 100 id bytes ≡ Err Deep → IsNoItem id bytes
no_item id bytes e x rest r w = deep_past (IsPast 100 x) (x, rest) (read_item_in 100 id bytes) e (in_agrees 100 id x bytes rest r) w

told_deep : {A : Type 0} (P : A → Type 0) (D : Type 0) (some : Result A Flaw) → Told P D some → some ≡ Err Deep → D
told_deep P D some h e = rw e at h

pub goes_deep : (id : ℕ) (bytes : List ℕ) → read_item_in 100 id bytes ≡ Err Deep → GoesIn 100 id bytes
goes_deep id bytes e = told_deep (InWithin 100 id bytes) (GoesIn 100 id bytes) (read_item_in 100 id bytes) (in_told 100 id bytes) e

pub item_found : (id : ℕ) (bytes : List ℕ) (x : Item) (rest : List ℕ) → read_item_in 100 id bytes ≡ Ok (x, rest) → InWithin 100 id bytes (x, rest)
item_found id bytes x rest e = told_ok (InWithin 100 id bytes) (GoesIn 100 id bytes) (read_item_in 100 id bytes) (x, rest) (in_told 100 id bytes) e

pub count_holds : (id : ℕ) (content : List ℕ) (n : ℕ) (items : List ℕ) → read_count id content ≡ Ok (n, items) → Holds id content n items
count_holds id content n items e = told_ok (λ x. Holds id content x.0 x.1) ⊥ (read_count id content) (n, items) (count_told id content) e

item_fault : (s : SectionItems) (refusal : NestedRefusal) → 0 < s.left → AreBytes s.rest.now
    → read_item_in 100 s.id s.rest.now ≡ Err (flaw_of refusal) → IsFaultIn s (fault_of_content refusal s.id s.place)
item_fault s (Flat refusal) some are h =
    elim (eqb_tells s.id 0) [
      | inl t ↦ rw (t.0, cond) (refl, some, t.1, no_label s.rest.now are (rw t.1 at h))
      | inr t ↦ rw (t.0, cond) (refl, inl (some, t.1, never_item s.id s.rest.now h))
    ]
item_fault s (TooDeep left) some are h = let g = goes_deep s.id s.rest.now h in (refl, some, g.0, g.1, no_item s.id s.rest.now h)

pub next_fault : (s : SectionItems) (refusal : NestedRefusal) → (s.left ≡ 0 → ⊥) → AreBytes s.rest.now
    → read_item_in 100 s.id s.rest.now ≡ Err (flaw_of refusal) → IsFaultIn s (fault_of_items s refusal)
next_fault s refusal some are h =
    elim (eqb_tells s.left 0) [
      | inl t ↦ absurd (some t.1)
      | inr t ↦ rw (t.0, cond) (item_fault s refusal (omega (arith, t.1)) are h)
    ]

pub behind_fault : (s : SectionItems) (refusal : NestedRefusal) → s.left ≡ 0 → 0 < length s.rest.now → IsFaultIn s (fault_of_items s refusal)
behind_fault s refusal none more =
    elim (eqb_tells s.left 0) [
      | inl t ↦ rw (t.0, cond) (refl, inr (none, more))
      | inr t ↦ absurd (t.1 none)
    ]
