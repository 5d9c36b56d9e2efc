-- Appending an encoding.
use Rattle.std.specs.Prelude.{◌≡◌, ℕ, List, length, ◌++◌, Result, Err, OnOk, OnErr, IfErr}
use Rattle.wenc_base.specs.Fault.{IsWarranted, NoCause, size_cause, first_of}
use Rattle.wenc_base.specs.Fault.{list_cause, drawn_cause}
use Rattle.wenc_base.specs.Forms.{list, sized}
use Rattle.wenc_base.specs.Piece.{Piece, Form, ◌⨾◌, refused_for}
use Rattle.wenc_base.specs.declared.fault.Fault.{Fault}
use Rattle.wenc_base.specs.declared.fault.Fault.TheVariants.{Unfinished}

-- A call appends this text, which has no cause, or fails for a cause and changes nothing.
pub record Appends (text : List ℕ) (cause : Fault → Type 0) (unfinished : Type 0)
    (old new : List ℕ) (outcome : Result (Unit {0}) Fault) : Type 0 where
  pub ok : OnOk outcome (new ≡ old ++ text)
  pub encodable : (fault : Fault) → cause fault → OnOk outcome ⊥
  pub err : OnErr outcome (new ≡ old)
  pub warranted : IfErr outcome (IsWarranted cause)
  pub unfinished_first : unfinished → outcome ≡ Err Unfinished

-- The text of this piece was appended; it fits, and has no cause.
pub record Appended (old : List ℕ) (p : Piece) (new : List ℕ) : Type 0 where
  pub items : new ≡ old ++ p.text
  pub fits : p.Fits
  pub no_cause : NoCause p.Cause

-- ---- the first error takes precedence

-- one piece, then another
abbrev pub in_order : Piece → Piece → Piece
in_order p q = refused_for (first_of p.Cause q.Cause) (p ⨾ q)

-- the number of values, then each
abbrev pub list_in_order : {A : Type 0} → Form A → Form (List A)
list_in_order form vs = refused_for (list_cause (λ v. (form v).Cause) vs) (list form vs)

-- the number of values, which is known last, then each
abbrev pub drawn_in_order : {A : Type 0} → Form A → Form (List A)
drawn_in_order form vs = refused_for (drawn_cause (λ v. (form v).Cause) vs) (list form vs)

-- a piece after its size, which is known last
abbrev pub sized_in_order : Piece → Piece
sized_in_order p =
    refused_for (first_of p.Cause (size_cause (length p.text))) (sized p)

-- ---- one piece for another

-- Writing p writes q: the text is the same, what fits still fits, each cause of p is one of q, and
-- where p has none, q has none.
pub record Serves (p q : Piece) : Type 0 where
  pub text : p.text ≡ q.text
  pub fits : p.Fits → q.Fits
  pub among : (fault : Fault) → p.Cause fault → q.Cause fault
  pub free : NoCause p.Cause → NoCause q.Cause
