-- How many indices items take.
use Rattle.std.proofs.Common.{◌≡◌, ℕ, ◌+◌, ◌<◌, ◌≤◌, ◌^◌, cond, List, [], ◌∷◌, ◌++◌, length, map, take, drop, get_or, set, Option, Some}
use Rattle.std.proofs.Common.{None, refl, sym, ap, ◌∙◌, inl, inr, arith, get_or-set_other, get_or-set_same}
use Rattle.std.proofs.lemmas.List.{take_more, take-append-drop, map-append}
use Rattle.std.specs.List.{flat_map}
use Rattle.std.specs.Prelude.{option_map}
use Rattle.wenc_base.specs.Prelude.{Wide, each}
use Rattle.wenc_builder.specs.Prelude.{AliasItem, CanonItem, ComponentItem, CoreInstanceItem}
use Rattle.wenc_builder.specs.Prelude.{CoreTypeItem, CustomItem, ExportItem, ImportItem, Indices}
use Rattle.wenc_builder.specs.Prelude.{InstanceItem, Item, ModuleItem, RawItem, Section, StartItem}
use Rattle.wenc_builder.specs.Prelude.{TypeItem, canonical_space, collected, defined_in, indices_in}
use Rattle.wenc_builder.specs.Prelude.{item_of, members, next_index, number_in, section_piece}
use Rattle.wenc_builder.specs.Prelude.{some_in}
use Rattle.wenc_sections.specs.Prelude.{alias_space, kind_space, space_number}
use Rattle.wenc_sections.specs.declared.space.Space.TheVariants.{CoreModules, CoreTypes, CoreInstances, Instances, Values, Components, Types}
use Rattle.wenc_sections.specs.laws.Space.{same_number, space_tells}
use Rattle.wenc_parts.specs.Prelude.{kind_of}
use Rattle.wenc_sections.specs.declared.space.Space.{Space}
use Rattle.wenc_list.specs.Prelude.{ListedSection, count_of_sections, item_view, section_view}
use Rattle.wenc_list.specs.declared.item.ItemTree.{ItemTree}
use Rattle.wenc_list.proofs.SectionLaws.{Fills, AloneIn, section_framed, members_of}

-- the count of one space is raised
pub raised : (counts : List ℕ) (s : Space) (m : ℕ) (k : Space) → space_number s < length counts
    → get_or (set counts (space_number s) (get_or counts (space_number s) 0 + m)) (space_number k) 0 ≡ get_or counts (space_number k) 0
    + number_in k (some_in s m)
raised counts s m k lt =
    elim (space_tells s k) [
      | inl t ↦ rw (t.0, cond) (rw (sym t.1) (get_or-set_same counts (space_number s) (get_or counts (space_number s) 0 + m) 0 lt))
      | inr t ↦ rw (t.0, cond) (get_or-set_other counts (space_number s) (space_number k) (get_or counts (space_number s) 0 + m) 0
          (λ e. t.1 (sym (same_number k s e))) ∙ omega arith)
    ]

-- what an item takes, as it says
pub defined_so : (some : Option (Space × ℕ)) (d : Option Indices) (s : Space) (n : ℕ) (k : Space)
    → option_map (λ p. indices_in p.0 p.1) some ≡ d → some ≡ Some (s, n) → number_in k d ≡ number_in k (some_in s n)
defined_so some d s n k e f = ap (λ (o : Option Indices). number_in k o) (sym e ∙ ap (λ (o : Option (Space × ℕ)). option_map (λ p. indices_in p.0 p.1) o) f)

pub defined_nowhere : (some : Option (Space × ℕ)) (d : Option Indices) (k : Space) → option_map (λ p. indices_in p.0 p.1) some ≡ d
    → some ≡ None → number_in k d ≡ 0
defined_nowhere some d k e f = ap (λ (o : Option Indices). number_in k o) (sym e ∙ ap (λ (o : Option (Space × ℕ)). option_map (λ p. indices_in p.0 p.1) o) f)

pub own_space : (s : Space) (n : ℕ) → number_in s (some_in s n) ≡ n
own_space s n = elim (space_tells s s) [ inl t ↦ rw (t.0, cond) refl | inr t ↦ absurd (t.1 refl) ]

pub index-append : (xs ys : List Item) (k : Space) → next_index (xs ++ ys) k ≡ next_index xs k + next_index ys k
index-append [] ys k = omega arith
index-append (x ∷ xs) ys k = omega (arith, index-append xs ys k)

count-append : (ss : List Section) (t : Section) (k : Space) → count_of_sections k (ss ++ t ∷ []) ≡ count_of_sections k ss + next_index (members t) k
count-append [] t k = index-append (members t) [] k ∙ omega arith
count-append (s ∷ ss) t k = index-append (members s) (flat_map members (ss ++ t ∷ [])) k
    ∙ omega (arith, count-append ss t k, index-append (members s) (flat_map members ss) k)

module _ {A : Type 0} where
  -- one item more
  pub index_more : (items : List (ItemTree A)) (i : ℕ) (x : ItemTree A) (k : Space) → i < length items → x ≡ get_or items i x
      → next_index (map item_view (take (i + 1) items)) k ≡ next_index (map item_view (take i items)) k + defined_in k (item_view x)
  index_more items i x k lt e =
      let parts : take (i + 1) items ≡ take i items ++ x ∷ [] = take_more items i x lt ∙ ap (λ (y : ItemTree A). take i items ++ y ∷ []) (sym e) in
      rw (parts, map-append item_view (take i items) (x ∷ [])) (index-append (map item_view (take i items)) (item_view x ∷ []) k ∙ omega arith)

  -- the first of them take no more than all
  pub index_front : (items : List (ItemTree A)) (i : ℕ) (k : Space) → next_index (map item_view (take i items)) k ≤ next_index (map item_view items) k
  index_front items i k =
      let both : next_index (map item_view items) k ≡ next_index (map item_view (take i items)) k + next_index (map item_view (drop i items)) k =
      ap (λ (xs : List (ItemTree A)). next_index (map item_view xs) k) (sym (take-append-drop i items))
      ∙ rw (map-append item_view (take i items) (drop i items))
      (index-append (map item_view (take i items)) (map item_view (drop i items)) k) in
      omega (arith, both)

  pub section_members : (s : ListedSection A) → members (section_view s) ≡ map item_view s.items.items
  section_members s = members_of s.id (map item_view s.items.items)

  -- one section more
  pub count_more : (ss : List (ListedSection A)) (s : ListedSection A) (k : Space)
      → count_of_sections k (map section_view (ss ++ s ∷ [])) ≡ count_of_sections k (map section_view ss)
      + next_index (map item_view s.items.items) k
  count_more ss s k = rw (map-append section_view ss (s ∷ [])) (count-append (map section_view ss) (section_view s) k ∙ ap
      (λ (xs : List Item). count_of_sections k (map section_view ss) + next_index xs k) (section_members s))

-- ---- what is read takes few indices

at_most : (s : Space) (n : ℕ) (k : Space) → number_in k (some_in s n) ≤ n
at_most s n k = elim (space_tells s k) [ inl t ↦ rw (t.0, cond) (omega arith) | inr t ↦ rw (t.0, cond) (omega arith) ]

collected_few : (x : Item) (id : ℕ) (k : Space) → collected x ≡ Some id → defined_in k x ≤ 1
collected_few (CustomItem c) id k e = omega arith
collected_few (RawItem bs) id k e = omega arith
collected_few (StartItem s) id k e = absurd cc
collected_few (ModuleItem bs) id k e = at_most CoreModules 1 k
collected_few (CoreInstanceItem i) id k e = at_most CoreInstances 1 k
collected_few (CoreTypeItem t) id k e = at_most CoreTypes 1 k
collected_few (ComponentItem bs) id k e = at_most Components 1 k
collected_few (InstanceItem i) id k e = at_most Instances 1 k
collected_few (AliasItem to) id k e = at_most (alias_space to) 1 k
collected_few (TypeItem t) id k e = at_most Types 1 k
collected_few (CanonItem f) id k e = at_most (canonical_space f) 1 k
collected_few (ImportItem i) id k e = at_most (kind_space (kind_of i.ty)) 1 k
collected_few (ExportItem x) id k e = at_most (kind_space x.kind) 1 k

each_few : (id : ℕ) (k : Space) (xs : List Item) (bytes rest : List ℕ) → (each (item_of id) xs).Reads Wide bytes rest → next_index xs k ≤ length xs
each_few id k [] bytes rest r = omega arith
each_few id k (x ∷ xs) bytes rest r = omega (arith, collected_few x id k r.1.0, each_few id k xs r.0 rest r.2)

alone_few : (id : ℕ) (k : Space) (x : Item) (content : List ℕ) → AloneIn id x content → defined_in k x < 2 ^ 64
alone_few id k (CustomItem c) content a = omega arith
alone_few id k (ModuleItem bs) content a = omega (arith, at_most CoreModules 1 k)
alone_few id k (ComponentItem bs) content a = omega (arith, at_most Components 1 k)
alone_few id k (StartItem s) content a = omega (arith, at_most Values s.results k, a.1.2.2.0)
alone_few id k other content a = absurd a

filled_few : (id : ℕ) (k : Space) (xs : List Item) (content : List ℕ) → Fills id xs content → next_index xs k < 2 ^ 64
filled_few id k xs content (inl h) = omega (arith, each_few id k xs h.1.0 [] h.1.2, h.1.1.0)
filled_few id k xs content (inr h) = rw h.1 (omega (arith, alone_few id k h.0 content h.2))

pub are_few : {A : Type 0} (s : ListedSection A) (bytes rest : List ℕ) → (section_piece (section_view s)).Reads Wide bytes rest
    → (k : Space) → next_index (map item_view s.items.items) k < 2 ^ 64
are_few s bytes rest r k =
    let framed = section_framed (section_view s) bytes rest r in
    rw (section_members s) at (filled_few framed.id k (members (section_view s)) framed.content framed.fills)
