-- A short name that is appended to a map which is far from full.
use Rattle.std.proofs.Common.{◌≡◌, ◌+◌, ◌<◌, ◌≤◌, ◌^◌, true, ◌++◌, length, length-append, Ok, arith, inl, inr}
use Rattle.std.specs.Prelude.{IsUtf8}
use Rattle.wenc_base.specs.Prelude.{AddCause, AddsMember, Fault, HolderState, NameAssociation}
use Rattle.wenc_base.specs.Prelude.{NoCause, OneMoreCause, is_finished, name_association}
use Rattle.wenc_base.specs.Prelude.{name_association_lawful, unsigned_text, with_member}
use Rattle.wenc_base.specs.declared.fault.Fault.TheVariants.{Memory, TooMany, TooLarge, Unfinished}
use Rattle.wenc_base.proofs.Groups.{size_1, size_of_u32}

pub short_name_added : (old new : HolderState) (entry : NameAssociation) → new ≡ with_member old (name_association entry).text → is_finished old ≡ true
    → old.count < 4294967295 → length old.body < 4294967040 → length entry.name < 128 → entry.index < 2 ^ 32
    → IsUtf8 entry.name → AddsMember (name_association entry) old new (Ok tt)
short_name_added old new entry state finished few small short index utf8 = record {
  ok = record { state = state; fits = fits; free = none };
  err = tt;
  warranted = tt;
  unfinished_first = λ g. absurd cc;
}
  where
    size : length (name_association entry).text ≤ 133
    size =
        omega (
          arith,
          size_1 (length entry.name) short,
          size_of_u32 entry.index index,
          short,
          length-append (unsigned_text entry.index) (unsigned_text (length entry.name) ++ entry.name),
          length-append (unsigned_text (length entry.name)) entry.name,
        )

    uncounted : (fault : Fault) → OneMoreCause old.count (length (old.body ++ (name_association entry).text)) fault → ⊥
    uncounted (Memory e) h = h
    uncounted TooMany h = omega (arith, h, few)
    uncounted TooLarge h = omega (arith, h, small, size, size_of_u32 (old.count + 1) (omega (arith, few)), length-append old.body (name_association entry).text)
    uncounted Unfinished h = h

    fits : (name_association entry).Fits
    fits = (index, (omega (arith, short), utf8))

    none : NoCause (AddCause old (name_association entry).text (name_association entry).Cause)
    none fault h = elim h [
      | inl own ↦ (name_association_lawful entry).free fits fault own
      | inr more ↦ elim more [ inl count ↦ uncounted fault count | inr stopped ↦ absurd cc ]
    ]
