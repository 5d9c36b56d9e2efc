-- The readers of names and of parts are exact.
use Rattle.std.proofs.Common.{◌≡◌, ℕ, zero, suc, ◌≤◌, false, cond, eqb, ltb, List, [], ◌∷◌, ◌++◌}
use Rattle.std.proofs.Common.{length, take, drop, Result, Ok, Err, refl, sym, ap, ◌∙◌, arith, inl}
use Rattle.std.proofs.Common.{inr, length-append}
use Rattle.std.proofs.lemmas.Bool.{cases_lt, lt-ltb, le-ltb}
use Rattle.std.proofs.lemmas.List.{take_at, drop_at, take-append-drop, length-take-le, append-nil}
use Rattle.wenc_base.specs.Prelude.{AreBytes, Bad, Deep, Flaw, Form, Lawful, NameAssociation, Sound}
use Rattle.wenc_base.specs.Prelude.{SoundWhole, Told, Wide, choose_tells, done, give_tells, go_on}
use Rattle.wenc_base.specs.Prelude.{last, last_tells, list_lawful, list_sound, made, name}
use Rattle.wenc_base.specs.Prelude.{name_association, name_association_lawful, name_lawful}
use Rattle.wenc_base.specs.Prelude.{name_map, name_sound, nowhere_tells, raw, read_name, read_u32}
use Rattle.wenc_base.specs.Prelude.{sound_behind, tested, then, then_tells, told_on, u32}
use Rattle.wenc_base.specs.Prelude.{u32_lawful, u32_sound, weaken, whole_lawful, ◌⨾◌}
use Rattle.wenc_base.specs.laws.Sound.{whole_sound}
use Rattle.wenc_read.specs.Prelude.{IsExactAt}
use Rattle.wenc_read.specs.laws.Exact.{found_and_read}
use Rattle.wenc_sections.specs.Prelude.{ComponentName, ItemNames, RawNames, Subsection, item_sort}
use Rattle.wenc_sections.specs.Prelude.{sort_lawful, subsection}
use Rattle.wenc_sections.specs.declared.space.Space.{Space}
use Rattle.wenc_sections.specs.declared.space.Space.TheVariants.{CoreModules, CoreFuncs, CoreTypes}
use Rattle.wenc_sections.specs.declared.space.Space.TheVariants.{CoreMemories, CoreTables}
use Rattle.wenc_sections.specs.declared.space.Space.TheVariants.{CoreInstances, CoreTags}
use Rattle.wenc_sections.specs.declared.space.Space.TheVariants.{CoreGlobals, Funcs, Instances}
use Rattle.wenc_sections.specs.declared.space.Space.TheVariants.{Values, Components, Types}
use Rattle.wenc_list.specs.DebugNames.{part, subsection_by_id, read_part, read_item_name, read_core_sort}
use Rattle.wenc_list.specs.DebugNames.{read_sort, read_item_names, read_names_in, read_names}

-- ---- names of items

abbrev named_so : ℕ → List ℕ → NameAssociation
named_so index text = record { index = index; name = text }

pub item_name_sound : Sound name_association read_item_name
item_name_sound = then_tells _ u32_sound
    (λ index. last_tells (named_so index) name_sound (λ text middle rest r bytes p. (middle, p, r)))

core_sort_sound : Sound (sound_behind 0x00 item_sort) read_core_sort
core_sort_sound = choose_tells _ _ (
  give_tells CoreFuncs (λ bytes. (_, refl, refl)),
  (
    give_tells CoreTables (λ bytes. (_, refl, refl)),
    (
      give_tells CoreMemories (λ bytes. (_, refl, refl)),
      (
        give_tells CoreGlobals (λ bytes. (_, refl, refl)),
        (
          give_tells CoreTags (λ bytes. (_, refl, refl)),
          (
            give_tells CoreTypes (λ bytes. (_, refl, refl)),
            (
              give_tells CoreModules (λ bytes. (_, refl, refl)),
              (give_tells CoreInstances (λ bytes. (_, refl, refl)), tt),
            ),
          ),
        ),
      ),
    ),
  ),
) nowhere_tells

pub sort_sound : Sound item_sort read_sort
sort_sound = choose_tells _ _ (
  core_sort_sound,
  (
    give_tells Funcs (λ bytes. refl),
    (
      give_tells Values (λ bytes. refl),
      (
        give_tells Types (λ bytes. refl),
        (give_tells Components (λ bytes. refl), (give_tells Instances (λ bytes. refl), tt)),
      ),
    ),
  ),
) nowhere_tells

-- the content of a subsection of names of items; of another none
abbrev listed : Form Subsection
listed (ItemNames sort names) = item_sort sort ⨾ name_map names
listed other = raw (λ bs. ⊥) []

item_names_sound : SoundWhole listed (done read_item_names)
item_names_sound = whole_sound (then_tells _ sort_sound
    (λ sort. last_tells (ItemNames sort) (list_sound item_name_sound)
    (λ names middle rest r bytes p. (middle, p, r))))

item_names_lawful : (sort : Space) (names : List NameAssociation)
    → Lawful (item_sort sort ⨾ name_map names) (λ fuel. read_item_names) (ItemNames sort names)
item_names_lawful sort names =
    then _ (sort_lawful sort) (last (ItemNames sort) (list_lawful name_association_lawful names))

-- ---- parts

behind_bytes : (front rest : List ℕ) → AreBytes (front ++ rest) → AreBytes rest
behind_bytes [] rest h = h
behind_bytes (b ∷ front) rest h = behind_bytes front rest h.1

first_bytes : (n : ℕ) (bytes : List ℕ) → AreBytes bytes → AreBytes (take n bytes)
first_bytes zero bytes h = tt
first_bytes (suc n) [] h = tt
first_bytes (suc n) (b ∷ bytes) h = (h.0, first_bytes n bytes h.1)

part_told : (bytes : List ℕ) → AreBytes bytes → Told (λ x. (part x.0).Reads Wide bytes x.1) ⊥
    (read_part bytes)
part_told [] h = tt
part_told (id ∷ bytes) h =
    told_on (λ x. (u32 x.0).Reads Wide bytes x.1) ⊥ (λ x. (part x.0).Reads Wide (id ∷ bytes) x.1) ⊥
    cut (read_u32 bytes) (u32_sound.tells bytes) (λ e. e) (λ x r. inside x.0 x.1 r)
  where
    cut : ℕ → List ℕ → Result ((ℕ × List ℕ) × List ℕ) Flaw
    cut size rest = cond (ltb (length rest) size) (Err Bad)
        (Ok ((id, take size rest), drop size rest))

    inside : (size : ℕ) (rest : List ℕ) → (u32 size).Reads Wide bytes rest
        → Told (λ x. (part x.0).Reads Wide (id ∷ bytes) x.1) ⊥ (cut size rest)
    inside size rest r =
        let ends = (u32_lawful size).leaves Wide bytes rest r in
        let below : AreBytes rest = behind_bytes ends.0 rest (rw ends.1 at h.1) in
        elim (cases_lt (length rest) size) [
          | inl lt ↦ rw (lt-ltb (length rest) size lt, cond) tt
          | inr ge ↦ rw (le-ltb (length rest) size ge, cond) (
            bytes,
            refl,
            (
              take size rest,
              rw (
                length-take-le size rest ge,
                take-append-drop size rest,
              ) r,
              (
                first_bytes size rest below,
                sym (append-nil (take size rest)),
              ),
            ),
          )
        ]

part_found : (id : ℕ) (middle content rest : List ℕ) → (u32 (length content)).Reads Wide middle
    (content ++ rest) → read_part (id ∷ middle) ≡ Ok ((id, content), rest)
part_found id middle content rest r =
    rw (
      (u32_lawful (length content)).finds (u32_lawful (length content)).depth
          (omega arith) Wide middle (content ++ rest) r,
      le-ltb (length (content ++ rest))
          (length content) (omega (arith, length-append content rest)),
      take_at content rest (length content) refl,
      drop_at content rest (length content) refl,
    ) refl

-- what a part is read as, without the size of its size
part_opened : (p : ℕ × List ℕ) (bytes rest : List ℕ) → (part p).Reads Wide bytes rest
    → (middle : List ℕ) × (bytes ≡ p.0 ∷ middle) × (u32 (length p.1)).Reads Wide middle
    (p.1 ++ rest)
part_opened p bytes rest r = (r.0, r.1, rw (r.2.2.1 ∙ append-nil p.1) at r.2.1)

pub part_exact : (bytes : List ℕ) → AreBytes bytes → IsExactAt part read_part bytes
part_exact bytes h = found_and_read (part_told bytes h) (λ p rest r.
    let o = part_opened p bytes rest r in rw o.1 (part_found p.0 o.0 p.1 rest o.2))

-- ---- subsections

made_told : {A B : Type 0} (P : A → Type 0) (Q : B → Type 0) (make : A → B) (found : Result A Flaw)
    → ((v : A) → P v → Q (make v)) → Told P ⊥ found → Told Q ⊥ (made make found)
made_told P Q make (Ok v) k h = k v h
made_told P Q make (Err Bad) k h = tt
made_told P Q make (Err Deep) k h = h

listed_reads : (s : Subsection) (bytes middle content rest : List ℕ) → bytes ≡ 1 ∷ middle
    → (u32 (length content)).Reads Wide middle (content ++ rest) → (listed s).Reads Wide content []
    → (subsection_by_id s).Reads Wide bytes rest
listed_reads (ItemNames sort names) bytes middle content rest e sized r =
    (tt, (middle, e, (content, sized, r)))
listed_reads other bytes middle content rest e sized r = absurd r.0

content_told : (id : ℕ) (bytes middle content rest : List ℕ) → bytes ≡ id ∷ middle
    → (u32 (length content)).Reads Wide middle (content ++ rest)
    → (subsection (RawNames id content)).Reads Wide bytes rest
    → Told (λ s. (subsection_by_id s).Reads Wide bytes rest) ⊥ (read_names_in id content)
content_told id bytes middle content rest b sized raw =
    elim (tested id 0) [
      | inl e ↦ rw (e.0, cond) (made_told (λ v. (name v).Reads Wide content []) _ ComponentName
          (done read_name content) (λ v k. (tt, (middle, rw e.1 at b, (content, sized, k))))
          ((whole_sound name_sound).tells content))
      | inr e ↦ rw (e, cond) (elim (tested id 1) [
        | inl f ↦ rw (f.0, cond) (weaken (λ s. (listed s).Reads Wide content [])
            (λ s. (subsection_by_id s).Reads Wide bytes rest) ⊥ ⊥ (done read_item_names content)
            (λ s k. listed_reads s bytes middle content rest (rw f.1 at b) sized k)
            (λ d. d) (item_names_sound.tells content))
        | inr f ↦ rw (f, cond) (above id e f, raw)
      ])
    ]
  where
    above : (id : ℕ) → eqb id 0 ≡ false → eqb id 1 ≡ false → 2 ≤ id
    above zero e f = absurd cc
    above (suc zero) e f = absurd cc
    above (suc (suc n)) e f = omega arith

names_told : (bytes : List ℕ) → AreBytes bytes
    → Told (λ x. (subsection_by_id x.0).Reads Wide bytes x.1) ⊥ (read_names bytes)
names_told bytes h =
    told_on (λ x. (part x.0).Reads Wide bytes x.1) ⊥
    (λ x. (subsection_by_id x.0).Reads Wide bytes x.1) ⊥
    (λ p rest. made (λ s. (s, rest)) (read_names_in p.0 p.1)) (read_part bytes)
    (part_told bytes h) (λ e. e) (λ x r.
    made_told (λ s. (subsection_by_id s).Reads Wide bytes x.1) _
    (λ s. (s, x.1)) (read_names_in x.0.0 x.0.1) (λ s k. k)
    (let o = part_opened x.0 bytes x.1 r in content_told x.0.0 bytes o.0 x.0.1 x.1 o.1 o.2 r))

on_ok : {A B : Type 0} (x : A × List ℕ) (found : Result (A × List ℕ) Flaw)
    (next : A → List ℕ → Result B Flaw) → found ≡ Ok x → go_on found next ≡ next x.0 x.1
on_ok x found next e = rw e refl

content_found : (id : ℕ) (bytes middle content rest : List ℕ) (s : Subsection) → bytes ≡ id ∷ middle
    → (u32 (length content)).Reads Wide middle (content ++ rest) → read_names_in id content ≡ Ok s
    → read_names bytes ≡ Ok (s, rest)
content_found id bytes middle content rest s b r e =
    rw b (on_ok ((id, content), rest) (read_part (id ∷ middle))
    (λ p rest. made (λ s. (s, rest)) (read_names_in p.0 p.1))
    (part_found id middle content rest r) ∙ ap
    (λ (f : Result Subsection Flaw). made (λ s. (s, rest)) f) e)

not_equal : (b c : ℕ) → (b ≡ c → ⊥) → eqb b c ≡ false
not_equal b c h = elim (tested b c) [ inl e ↦ absurd (h e.1) | inr e ↦ e ]

names_found : (s : Subsection) (bytes rest : List ℕ) → (subsection_by_id s).Reads Wide bytes rest
    → read_names bytes ≡ Ok (s, rest)
names_found (ComponentName text) bytes rest r =
    let l = whole_lawful (name_lawful text) in
    content_found 0 bytes r.1.0 r.1.2.0 rest (ComponentName text) r.1.1 r.1.2.1
    (ap (λ (f : Result (List ℕ) Flaw). made ComponentName f)
    (l.finds l.depth (omega arith) Wide r.1.2.0 r.1.2.2))
names_found (ItemNames sort names) bytes rest r =
    let l = whole_lawful (item_names_lawful sort names) in
    content_found 1 bytes r.1.0 r.1.2.0 rest (ItemNames sort names) r.1.1 r.1.2.1
    (l.finds l.depth (omega arith) Wide r.1.2.0 r.1.2.2)
names_found (RawNames id bs) bytes rest r =
    let o = part_opened (id, bs) bytes rest r.1 in
    content_found id bytes o.0 bs rest (RawNames id bs) o.1 o.2
    (rw (not_equal id 0 (λ e. omega arith), not_equal id 1 (λ e. omega arith), cond) refl)

pub names_exact : (bytes : List ℕ) → AreBytes bytes → IsExactAt subsection_by_id read_names bytes
names_exact bytes h = found_and_read (names_told bytes h) (λ s. names_found s bytes)
