-- The laws of a form: of each value of a type and its piece.
use Rattle.std.specs.Prelude.{◌≡◌, ℕ, List, ◌++◌}
use Rattle.wenc_base.specs.Fault.{NoCause}
use Rattle.wenc_base.specs.Piece.{Form, Spelling, Strict, Wide}
use Rattle.wenc_base.specs.declared.fault.Fault.TheVariants.{Unfinished}

-- The text is read, whatever follows it.
abbrev pub TextIsRead : {A : Type 0} → Form A → Type 0
TextIsRead {A} form = (mode : Spelling) (v : A) (rest : List ℕ) → (form v).Fits
    → (form v).Reads mode ((form v).text ++ rest) rest

-- What is read strictly is the text, of a value that has one.
abbrev pub StrictIsText : {A : Type 0} → Form A → Type 0
StrictIsText {A} form = (v : A) (bytes rest : List ℕ) → (form v).Reads Strict bytes rest
    → (form v).Fits × (bytes ≡ (form v).text ++ rest)

-- The bytes begin with one value at most, in one way.
abbrev pub ReadsOnce : {A : Type 0} → Form A → Type 0
ReadsOnce {A} form = (v w : A) (mode other : Spelling) (bytes r s : List ℕ)
    → (form v).Reads mode bytes r → (form w).Reads other bytes s → (v ≡ w) × (r ≡ s)

-- No value's text begins another's.
abbrev pub IsDelimited : {A : Type 0} → Form A → Type 0
IsDelimited {A} form = (v w : A) (r s : List ℕ) → (form v).Fits → (form w).Fits
    → (form v).text ++ r ≡ (form w).text ++ s → (v ≡ w) × (r ≡ s)

-- A strict reading is a wide one.
abbrev pub WideReadsStrict : {A : Type 0} → Form A → Type 0
WideReadsStrict {A} form = (v : A) (bytes rest : List ℕ) → (form v).Reads Strict bytes rest
    → (form v).Reads Wide bytes rest

-- A value that fits has no cause.
abbrev pub FitsIsFree : {A : Type 0} → Form A → Type 0
FitsIsFree {A} form = (v : A) → (form v).Fits → NoCause (form v).Cause

-- No value is unfinished.
abbrev pub NeverUnfinished : {A : Type 0} → Form A → Type 0
NeverUnfinished {A} form = (v : A) → (form v).Cause Unfinished → ⊥

-- All of these.
pub record FormLaws {A : Type 0} (form : Form A) : Type 0 where
  pub text_is_read : TextIsRead form
  pub strict_is_text : StrictIsText form
  pub reads_once : ReadsOnce form
  pub delimited : IsDelimited form
  pub wide_reads_strict : WideReadsStrict form
  pub fits_is_free : FitsIsFree form
  pub never_unfinished : NeverUnfinished form
