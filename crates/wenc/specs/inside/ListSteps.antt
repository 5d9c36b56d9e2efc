-- What the steps of a run of `list` returned.
use Rattle.std.specs.Prelude.{◌≡◌, ℕ, List, ◌⊎◌, Option, None, Result, Ok, Err, Vec}
use Rattle.wenc_list.specs.declared.fault.ListFault.TheVariants.{Memory}
use Rattle.wenc_list.specs.declared.listing.Listing.{Listing}
use Rattle.wenc.specs.declared.unlisted.Unlisted.{Unlisted}
use Rattle.wenc.specs.declared.unlisted.Unlisted.TheVariants.{BadText, Fault, Transfer}
use Rattle.wenc.specs.Listed.{text_bytes, listing_text, bad_text, fault_line}
use Rattle.wenc.specs.ListRun.{IsListingOf, IsFaultIn}
use Rattle.wenc.specs.Run.{Says}
use Rattle.wenc.specs.inside.Steps.{IsWholeRun}

-- why a text says no bytes
abbrev pub NotDecoded : List ℕ → Unlisted → Type 0
NotDecoded text BadText = text_bytes text ≡ None
NotDecoded text (Fault fault) = fault ≡ Memory
NotDecoded text Transfer = ⊥

-- why a text is not listed
abbrev pub NotListed : List ℕ → Unlisted → Type 0
NotListed text BadText = text_bytes text ≡ None
NotListed text (Fault fault) = (fault ≡ Memory) ⊎ IsFaultIn text fault
NotListed text Transfer = ⊥

-- what is printed of what a text says
abbrev pub ListsText : {A : Type 0} → Result (Vec ℕ A) Unlisted → List ℕ → Type 0
ListsText {A} (Ok printed) text =
    (listing : Listing A) × IsListingOf text listing × (printed.items ≡ listing_text listing)
ListsText (Err unlisted) text = NotListed text unlisted

-- All that a reader had left was read, or a read failed, or memory ran out.
abbrev pub ReadsText : {A : Type 0} → Result (Vec ℕ A) Unlisted → Option (List ℕ) → Option (List ℕ)
    → Type 0
ReadsText (Ok text) left ended = IsWholeRun left ended text.items
ReadsText (Err BadText) left ended = ⊥
ReadsText (Err (Fault fault)) left ended = fault ≡ Memory
ReadsText (Err Transfer) left ended = Unit {0}

-- why what a reader had left is not listed
abbrev pub NotReadAndListed : Unlisted → Option (List ℕ) → Option (List ℕ) → Type 0
NotReadAndListed BadText left ended =
    (text : List ℕ) × IsWholeRun left ended text × (text_bytes text ≡ None)
NotReadAndListed (Fault fault) left ended =
    (fault ≡ Memory) ⊎ ((text : List ℕ) × IsWholeRun left ended text × IsFaultIn text fault)
NotReadAndListed Transfer left ended = Unit {0}

-- what is printed of what a reader had left
abbrev pub ReadsListing : {A : Type 0} → Result (Vec ℕ A) Unlisted → Option (List ℕ)
    → Option (List ℕ) → Type 0
ReadsListing {A} (Ok printed) left ended =
    (text : List ℕ) × IsWholeRun left ended text × ListsText {A = A} (Ok printed) text
ReadsListing (Err unlisted) left ended = NotReadAndListed unlisted left ended

-- how it was reported; a place's line also takes memory
abbrev pub ReportsUnlisted : ℕ → Unlisted → Option (List ℕ) → Option (List ℕ) → Type 0
ReportsUnlisted status BadText before after = Says status 1 bad_text before after
ReportsUnlisted status (Fault fault) before after =
    Says status 3 (fault_line fault) before after ⊎ Says status 3 (fault_line Memory) before after
ReportsUnlisted status Transfer before after = (status ≡ 4) × (after ≡ before)
