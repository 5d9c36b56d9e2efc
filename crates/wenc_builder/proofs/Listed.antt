-- Items that are made of the values which an iterator gives.
use Rattle.std.proofs.Common.{◌≡◌, ℕ, List, Option, Result, Ok, Err, refl}
use Rattle.wenc_base.specs.Prelude.{Piece, Serves}
use Rattle.wenc_canon.specs.Prelude.{Canonical, canonical}
use Rattle.wenc_builder.specs.Prelude.{AddsListedItem, EntersListed, Entry, State, canonical_entry}
use Rattle.wenc_builder.specs.Prelude.{canonical_space, item, kind_id, new_item, new_item_of}
use Rattle.wenc_builder.specs.declared.builder.kind.Kind.TheVariants as kinds
use Rattle.wenc_base.specs.declared.fault.Fault.{Fault}
use Rattle.wenc_canon.specs.declared.canonicals.CanonicalOption.{CanonicalOption}
use Rattle.wenc_sections.specs.declared.space.Space.{Space}
use Rattle.wenc_builder.proofs.Entered.{IsNewItemOf, new_item_enters}

-- what an iterator's values make is entered, where each list of values makes an entry
pub listed_enters : {S B : Type 0} (steps : S → Option B → S → Type 0) (values : S) (old new : State) (result : Result ℕ Fault)
    (x : List B → Entry) (id : ℕ) (space : Space) (name : Option (List ℕ)) (piece : List B → Piece)
    → ((vs : List B) → IsNewItemOf (x vs) id space name) → ((vs : List B) → Serves (piece vs) (item (x vs).item))
    → AddsListedItem steps values old new result (new_item id space name) piece → EntersListed steps values old new result x
listed_enters steps values old new (Ok i) x id space name piece w s t = record {
  ok = let h = t.ok in (h.0, h.1, h.2, new_item_enters old new (Ok i) (x h.0.items) id space name (w h.0.items) (s h.0.items) h.3);
  refused = tt;
}
listed_enters steps values old new (Err f) x id space name piece w s t = record {
  ok = tt;
  refused = let h = t.refused in (h.0, h.1, new_item_enters old new (Err f) (x h.0.items) id space name (w h.0.items) (s h.0.items) h.2);
}

-- ---- canonical functions with options

pub options_enter : {S : Type 0} (steps : S → Option CanonicalOption → S → Type 0) (options : S) (old new : State) (result : Result ℕ Fault)
    (function : List CanonicalOption → Canonical) (space : Space) (name : Option (List ℕ))
    (piece : List CanonicalOption → Piece) → ((os : List CanonicalOption) → canonical_space (function os) ≡ space)
    → ((os : List CanonicalOption) → Serves (piece os) (canonical (function os)))
    → AddsListedItem steps options old new result (new_item_of kinds.CanonicalFunction space name) piece
    → EntersListed steps options old new result (λ os. canonical_entry name (function os))
options_enter steps options old new result function space name piece defined serves t =
    listed_enters steps options old new result (λ os. canonical_entry name (function os)) (kind_id kinds.CanonicalFunction) space name piece
    (λ os. record { section = refl; defined = rw (defined os) refl; named = refl }) serves t
