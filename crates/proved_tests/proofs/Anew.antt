-- Items that were listed, and the run of the commands that they become.
use Rattle.std.proofs.Common.{◌≡◌, ℕ, List, [], ◌∷◌, ◌++◌, map, length, arith, Bool, true, false, if◌then◌else◌, Option, Result, Ok, Err}
use Rattle.std.proofs.Common.{refl, sym, ap, ◌∙◌, append_assoc}
use Rattle.std.proofs.lemmas.List.{append-nil, map-append}
use Rattle.std.proofs.lemmas.Grind.{flat_map-append}
use Rattle.std.specs.List.{AllByRecursion, flat_map}
use Rattle.std.specs.Prelude.{IsOk}
use Rattle.wasm_encoder.specs.Prelude.{RanFrom, added, command_of}
use Rattle.wenc_builder.specs.Prelude.{Entry, Item, Run, collects, items, members}
use Rattle.wenc_list.specs.Prelude.{alone, item_view, section_view}
use Rattle.wenc_base.specs.declared.fault.Fault.{Fault}
use Rattle.wenc_list.specs.declared.listing.ListedSection.{ListedSection}

members_either : (b : Bool) (id : ℕ) (xs : List Item) → members (if b then Run id xs else alone id xs) ≡ xs
members_either true id xs = refl
members_either false id [] = refl
members_either false id (x ∷ []) = refl
members_either false id (x ∷ y ∷ xs) = refl

-- the commands of one section more
pub one_more : {A : Type 0} (before : List (ListedSection A)) (s : ListedSection A)
    → map command_of (flat_map members (map section_view before)) ++ map command_of (map item_view s.items.items)
    ≡ map command_of (flat_map members (map section_view (before ++ s ∷ [])))
one_more before s =
    let xs = map item_view s.items.items in
    let last : flat_map members (section_view s ∷ []) ≡ xs = append-nil (members (section_view s)) ∙ members_either (collects s.id) s.id xs in
    let all : flat_map members (map section_view (before ++ s ∷ [])) ≡ flat_map members (map section_view before) ++ xs =
    ap (flat_map members) (map-append section_view before (s ∷ [])) ∙ flat_map-append members (map section_view before)
    (section_view s ∷ []) ∙ ap (λ (ys : List Item). flat_map members (map section_view before) ++ ys) last in
    sym (ap (map command_of) all ∙ map-append command_of (flat_map members (map section_view before)) xs)

-- where each command is accepted there are just these items more
pub accepted : (alone : (es : List Entry) (x : Item) → items (added es (command_of x)) ≡ x ∷ []) (es : List Entry) (xs : List Item)
    (answers : List (Result (Option ℕ) Fault)) (all : List Entry)
    → RanFrom es (map command_of xs) answers all → AllByRecursion IsOk answers → items all ≡ items es ++ xs
accepted alone es [] [] all r ok = sym (ap items r) ∙ sym (append-nil (items es))
accepted alone es [] (a ∷ answers) all r ok = absurd r
accepted alone es (x ∷ xs) [] all r ok = absurd r
accepted alone es (x ∷ xs) (Err fault ∷ answers) all r ok = let never = ok.0 in absurd cc
accepted alone es (x ∷ xs) (Ok a ∷ answers) all r ok =
    accepted alone (es ++ added es (command_of x)) xs answers all r.1 ok.1
    ∙ ap (λ (ys : List Item). ys ++ xs) (map-append (λ e. e.item) es (added es (command_of x)) ∙ ap (λ (ys : List Item). items es ++ ys) (alone es x))
    ∙ append_assoc (items es) (x ∷ []) xs

-- one more, after those so far
pub pushed : {C X Y T : Type 0} (view : C → T) (seen : X → Y) (become : Y → T) (before : List T) (cs : List C) (c : C) (xs : List X) (x : X)
    → map view cs ≡ before ++ map become (map seen xs) → view c ≡ become (seen x) → map view (cs ++ c ∷ []) ≡ before ++ map become (map seen (xs ++ x ∷ []))
pushed view seen become before cs c xs x h e =
    rw (map-append view cs (c ∷ []), h, e, map-append seen xs (x ∷ []), map-append become (map seen xs) (seen x ∷ []))
    (append_assoc before (map become (map seen xs)) (become (seen x) ∷ []))

-- an iterator with nothing left has given all
pub all_given : {A : Type 0} (all given rest : List A) (left : ℕ) → all ≡ given ++ rest → left ≡ length rest → left ≡ 0 → given ≡ all
all_given all given [] left h e none = sym (append-nil given) ∙ sym h
all_given all given (x ∷ rest) left h e none = absurd (omega (arith, e, none))

pub next_given : {A : Type 0} (all given rest more : List A) (x : A) → all ≡ given ++ rest → rest ≡ x ∷ more → all ≡ (given ++ x ∷ []) ++ more
next_given all given rest more x h e = h ∙ rw e (sym (append_assoc given (x ∷ []) more))
