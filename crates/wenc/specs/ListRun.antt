-- What a run of `list` did, by its status.
use Rattle.std.specs.Prelude.{◌≡◌, ℕ, List, [], ◌++◌, ◌⊎◌, map, slice_index, Option, Some, None}
use Rattle.std.specs.Io.KnownBytes.{Appends, Keeps}
use Rattle.wenc_base.specs.Piece.{Wide}
use Rattle.wenc_builder.specs.Sections.{Reading}
use Rattle.wenc_sections.specs.Space.{space_number}
use Rattle.wenc_sections.specs.declared.space.Space.{Space}
use Rattle.wenc_list.specs.declared.fault.ListFault.{ListFault}
use Rattle.wenc_list.specs.declared.fault.ListFault.TheVariants.{Memory}
use Rattle.wenc_list.specs.declared.listing.Listing.{Listing}
use Rattle.wenc_list.specs.Items.{section_view}
use Rattle.wenc_list.specs.Listing.{AreWithin, ArePlaced, count_of_sections, IsFaultOf}
use Rattle.wenc.specs.Listed.{text_bytes, listing_text, bad_text, fault_line}

-- The text says bytes, of which this listing has the sections with their places, no type deeper
-- than 100, and the counts.
pub record IsListingOf {A : Type 0} (text : List ℕ) (listing : Listing A) : Type 0 where
  pub bytes : List ℕ
  pub says : text_bytes text ≡ Some bytes
  pub reading : Reading Wide bytes (map section_view listing.sections.items)
  pub within : AreWithin 100 (map section_view listing.sections.items)
  pub placed : ArePlaced bytes listing.sections.items
  pub counted : (k : Space) → slice_index listing.counts (space_number k)
      ≡ count_of_sections k (map section_view listing.sections.items)

-- the text says bytes that have this fault
abbrev pub IsFaultIn : List ℕ → ListFault → Type 0
IsFaultIn text fault = (bytes : List ℕ) × (text_bytes text ≡ Some bytes) × IsFaultOf bytes fault

-- status 0: what is printed of a listing was written
pub record PrintsListing (A : Type 0) (text before after : List ℕ) : Type 0 where
  pub listing : Listing A
  pub lists : IsListingOf text listing
  pub writes : after ≡ before ++ listing_text listing

-- status 3: a fault was reported, which is that of the text, or a failed allocation
pub record NamesFault (text : List ℕ) (ended errors reported : Option (List ℕ)) : Type 0 where
  pub fault : ListFault
  pub cause : (fault ≡ Memory) ⊎ ((ended ≡ Some []) × IsFaultIn text fault)
  pub names : Appends errors reported (fault_line fault)

-- status 4: a write failed, and what was written is a prefix of the output
pub record PrintsListingFront (A : Type 0) (text before after : List ℕ) : Type 0 where
  pub listing : Listing A
  pub lists : IsListingOf text listing
  pub sent : List ℕ
  pub missing : List ℕ
  pub front : listing_text listing ≡ sent ++ missing
  pub writes : after ≡ before ++ sent

-- What a reader had left and has left in the end, what a writer held before and after, and what
-- standard error held, where these are known: the status says what was read and written.
pub record EndsListing (A : Type 0) (status : ℕ)
    (left ended before after errors reported : Option (List ℕ)) : Type 0 where
  pub known : (status ≡ 0) ⊎ (status ≡ 1) ⊎ (status ≡ 3) ⊎ (status ≡ 4)
  pub zero : status ≡ 0 → (text old : List ℕ) → left ≡ Some text → before ≡ Some old
      → (new : List ℕ) × (after ≡ Some new) × (ended ≡ Some []) × PrintsListing A text old new ×
      Keeps errors reported
  pub one : status ≡ 1 → (text : List ℕ) → left ≡ Some text
      → (after ≡ before) × (ended ≡ Some []) × (text_bytes text ≡ None) ×
      Appends errors reported bad_text
  pub three : status ≡ 3 → (text : List ℕ) → left ≡ Some text
      → (after ≡ before) × NamesFault text ended errors reported
  pub four : status ≡ 4 → (text old : List ℕ) → left ≡ Some text → before ≡ Some old
      → (new : List ℕ) × (after ≡ Some new)
      × (((ended ≡ Some []) × PrintsListingFront A text old new × Keeps errors reported) ⊎
      (new ≡ old))
