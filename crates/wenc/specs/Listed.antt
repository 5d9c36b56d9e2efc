-- What the subcommand `list` reads and prints.
use Rattle.std.specs.Prelude.{◌≡◌, ℕ, ◌-◌, ◌==◌, if◌then◌else◌, List, [], ◌∷◌, ◌++◌, map, length}
use Rattle.std.specs.Prelude.{take, slice_index, Option, String, codes, string_bytes}
use Rattle.std.specs.Fmt.{decimal}
use Rattle.hex.specs.Hex.{decode_of}
use Rattle.wenc_list.specs.declared.fault.ListFault.{ListFault}
use Rattle.wenc_list.specs.declared.fault.ListFault.TheVariants as faults
use Rattle.wenc_list.specs.declared.listing.ListedSection.{ListedSection}
use Rattle.wenc_list.specs.declared.listing.Listing.{Listing}
use Rattle.wenc.specs.Fields.{decoded}

-- ---- arguments

-- the one word `list`
abbrev pub IsList : {A : Type 0} → List (String A) → Type 0
IsList args = map string_bytes args ≡ codes "list" ∷ []

-- ---- the text that is read

-- a text without the LF at its end, if there is one
abbrev pub without_line_end : List ℕ → List ℕ
without_line_end text =
    if slice_index text (length text - 1) == 10 then take (length text - 1) text else text

-- The bytes that a text says: an even number of hexadecimal digits, and perhaps an LF.
abbrev pub text_bytes : List ℕ → Option (List ℕ)
text_bytes text = decoded (decode_of (without_line_end text))

-- ---- what is printed

-- a section's id, and how many items it has
abbrev pub section_line : {A : Type 0} → ListedSection A → List ℕ
section_line s = decimal s.id ++ 32 ∷ decimal (length s.items.items) ++ 10 ∷ []

abbrev pub section_lines : {A : Type 0} → List (ListedSection A) → List ℕ
section_lines [] = []
section_lines (s ∷ ss) = section_line s ++ section_lines ss

-- numbers, each after a space
abbrev pub with_space : List ℕ → List ℕ
with_space [] = []
with_space (n ∷ ns) = 32 ∷ decimal n ++ with_space ns

-- numbers, with a space between two
abbrev pub counts_line : List ℕ → List ℕ
counts_line [] = 10 ∷ []
counts_line (n ∷ ns) = decimal n ++ with_space ns ++ 10 ∷ []

-- a line for each section, then one with the counts
abbrev pub listing_text : {A : Type 0} → Listing A → List ℕ
listing_text l = section_lines l.sections.items ++ counts_line l.counts

-- ---- what is printed on standard error

abbrev pub bad_text : List ℕ
bad_text = codes "line 1" ++ 10 ∷ []

abbrev pub place_line : List ℕ → ℕ → List ℕ
place_line name place = name ++ codes " at " ++ decimal place ++ 10 ∷ []

abbrev pub fault_line : ListFault → List ℕ
fault_line faults.Memory = codes "Memory" ++ 10 ∷ []
fault_line (faults.NotAComponent place) = place_line (codes "NotAComponent") place
fault_line (faults.BadSection place) = place_line (codes "BadSection") place
fault_line (faults.BadItem place) = place_line (codes "BadItem") place
fault_line (faults.TooDeep place) = place_line (codes "TooDeep") place
