-- Which bytes can be in a place at which others can't be read on.
use Rattle.std.specs.Prelude.{◌≡◌, ◌<◌, ℕ, List, [], ◌∷◌, Bool, true, false, ◌&&◌, ◌||◌}
use Rattle.std.specs.Prelude.{nat_le, is_ok, Ok}
use Rattle.wenc_base.specs.Readers.{Reader}
use Rattle.wenc_read.specs.declared.expected.Expected.{Expected}
use Rattle.wenc_read.specs.declared.expected.Expected.TheVariants.{Bytes, End, Utf8, Bits, From}
use Rattle.wenc_read.specs.declared.expected.Expected.TheVariants.{Index, CoreSort, CoreSpace}
use Rattle.wenc_read.specs.declared.expected.Expected.TheVariants.{ExportOrOuter, OptionCount}
use Rattle.wenc_read.specs.declared.expected.Expected.TheVariants.{Opcode, SubType, Group}
use Rattle.wenc_read.specs.declared.expected.Expected.TheVariants.{CoreType, RefType, ValType}
use Rattle.wenc_read.specs.declared.expected.Expected.TheVariants.{StorageType, HeapType}
use Rattle.wenc_read.specs.declared.expected.Expected.TheVariants.{TableLimits, InstanceDecl}
use Rattle.wenc_read.specs.declared.expected.Expected.TheVariants.{ComponentValType, «Type»}

-- a number that fits
abbrev pub is_number : Expected → Bool
is_number (Bits n) = true
is_number _ = false

-- bytes from the first to the second one
abbrev pub Range : Type 0
Range = ℕ × ℕ

-- no byte
abbrev pub none : Range
none = (1, 0)

-- up to three ranges
abbrev pub ranges : Range → Range → Range → List Range
ranges a b c = a ∷ b ∷ c ∷ none ∷ []

-- The bytes that are expected, in ascending order.
abbrev pub ranges_of : Expected → List Range
ranges_of (From first last) = ranges (first, last) none none
-- a byte of a signed number that isn't below 0 (WebAssembly 3.0, binary format, "Integers")
ranges_of Index = ranges (0, 0x3f) (0x80, 0xff) none
-- a sort of a core item (component model, binary format, "Index Spaces")
ranges_of CoreSort = ranges (0, 4) (0x10, 0x11) none
-- the same and core instances, whose names a name section has ("Name Section")
ranges_of CoreSpace = ranges (0, 4) (0x10, 0x12) none
-- the target of an alias that has the sort of a core item ("Alias Definitions")
ranges_of ExportOrOuter = ranges (0, 0) (2, 2) none
-- a number from 1 to 3, in one byte or in more ("Import and Export Definitions")
ranges_of OptionCount = ranges (1, 3) (0x81, 0x83) none
-- a canonical function ("Canonical Definitions")
ranges_of Opcode = ranges (0, 6) (9, 0x2f) (0x40, 0x42)
-- a core type ("Type Definitions"; WebAssembly 3.0, binary format, "Recursive Types")
ranges_of SubType = ranges (0x4f, 0x50) (0x5e, 0x60) none
-- the same, and a recursion group
ranges_of Group = ranges (0x4e, 0x50) (0x5e, 0x60) none
-- the same, and a final type of a component, after 00
ranges_of CoreType = ranges (0, 0) (0x4e, 0x50) (0x5e, 0x60)
-- WebAssembly 3.0, binary format, "Reference Types"
ranges_of RefType = ranges (0x63, 0x64) (0x69, 0x74) none
-- the same, and numbers and vectors ("Value Types")
ranges_of ValType = ranges (0x63, 0x64) (0x69, 0x74) (0x7b, 0x7f)
-- the same, and packed types ("Field Types")
ranges_of StorageType = (0x63, 0x64) ∷ (0x69, 0x74) ∷ (0x77, 0x78) ∷ (0x7b, 0x7f) ∷ []
-- an index or an abstract type ("Heap Types")
ranges_of HeapType = ranges (0, 0x3f) (0x69, 0x74) (0x80, 0xff)
-- flags of limits that aren't shared ("Limits")
ranges_of TableLimits = ranges (0, 1) (4, 5) none
-- an index or a primitive type (component model, binary format, "Type Definitions")
ranges_of ComponentValType = ranges (0, 0x3f) (0x64, 0x64) (0x73, 0xff)
-- a type
ranges_of «Type» = ranges (0x3f, 0x43) (0x63, 0x6b) (0x6d, 0x7f)
-- a declaration of an instance type
ranges_of InstanceDecl = ranges (0, 2) (4, 4) none
-- the end, bytes of any kind, a character, or a number whose first byte may be right
ranges_of End = ranges none none none
ranges_of (Bytes n) = ranges none none none
ranges_of Utf8 = ranges none none none
ranges_of (Bits n) = ranges none none none

-- whether a byte is in one of the ranges
abbrev pub is_in : List Range → ℕ → Bool
is_in [] b = false
is_in (range ∷ ranges) b = (nat_le range.0 b && nat_le b range.1) || is_in ranges b

-- The expected bytes are those with which a value can begin: nothing is read that begins with
-- another byte, and after each of them some bytes make a value.
pub record BeginsWith {A : Type 0} (read : Reader A) (expected : Expected) : Type 0 where
  pub others_fail : (b : ℕ) (rest : List ℕ) (x : A × List ℕ) → read (b ∷ rest) ≡ Ok x
      → is_in (ranges_of expected) b ≡ true
  pub each_begins : (b : ℕ) → b < 256 → is_in (ranges_of expected) b ≡ true
      → (rest : List ℕ) × (is_ok (read (b ∷ rest)) ≡ true)
