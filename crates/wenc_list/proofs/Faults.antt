-- Which faults stand against bytes that are read.
use Rattle.std.proofs.Common.{◌≡◌, ℕ, List, [], ◌∷◌, length, refl, ◌⊎◌, inl, inr}
use Rattle.std.specs.List.{AllByRecursion}
use Rattle.wenc_base.specs.Piece.{Wide}
use Rattle.wenc_builder.specs.Sections.{Section, section_piece, sections, preamble, Reading}
use Rattle.wenc_list.specs.Listing.{AreWithin, IsMemoryOrTooDeep, StopsAt, IsFaultBehind, IsFaultOf}
use Rattle.wenc_list.specs.declared.fault.ListFault.{ListFault}
use Rattle.wenc_list.specs.declared.fault.ListFault.TheVariants as faults
use Rattle.wenc_list.proofs.SectionLaws.{section_framed}
use Rattle.wenc_list.proofs.Taken.{fills_labelled}
use Rattle.wenc_list.proofs.Listed.{goes_past, only_memory, same_behind}

-- ---- what stands where all is read

everything : (ss : List Section) → AllByRecursion (λ s. Unit {0}) ss
everything [] = tt
everything (s ∷ ss) = (tt, everything ss)

-- where it stops, a section is read
next_read : (all : ℕ) (bytes : List ℕ) (place : ℕ) (P : List ℕ → Type 0) (f : StopsAt all bytes place P) (ss : List Section)
    → (sections ss).Reads Wide bytes [] → (s : Section) × (rest : List ℕ) × (section_piece s).Reads Wide f.left rest
next_read all bytes place P f ss r = let next =
    goes_past (λ s. Unit {0}) f.before ss bytes f.left f.read r (everything ss) f.some_left in (next.0, next.1, next.2)

abbrev IsMemoryOrDeep : ListFault → Type 0
IsMemoryOrDeep fault = (fault ≡ faults.Memory) ⊎ ((place : ℕ) × (fault ≡ faults.TooDeep place))

memory_or_deep : (all : ℕ) (bytes : List ℕ) (fault : ListFault) → IsFaultBehind all bytes fault → (ss : List Section)
    → (sections ss).Reads Wide bytes [] → IsMemoryOrDeep fault
memory_or_deep all bytes faults.Memory f ss r = inl refl
memory_or_deep all bytes (faults.NotAComponent place) f ss r = absurd f
memory_or_deep all bytes (faults.BadSection place) f ss r =
    let next = next_read all bytes place _ f ss r in
    let framed = section_framed next.0 f.left next.1 next.2 in
    absurd (f.cause framed.id framed.content next.1 framed.framed (fills_labelled framed.id _ framed.content framed.fills))
memory_or_deep all bytes (faults.BadItem place) f ss r = let next = next_read all bytes place _ f ss r in absurd (f.cause.never next.0 next.1 next.2)
memory_or_deep all bytes (faults.TooDeep place) f ss r = inr (place, refl)

-- memory is wanting, or a type is too deep, and that is said
pub only_deep : (all : ℕ) (bytes : List ℕ) (fault : ListFault) → IsFaultBehind all bytes fault → (ss : List Section)
    → (sections ss).Reads Wide bytes [] → IsMemoryOrTooDeep ss fault
only_deep all bytes fault f ss r = elim (memory_or_deep all bytes fault f ss r)
    [ inl e ↦ inl e | inr d ↦ inr (d.0, d.1, λ w. (let e = only_memory all bytes fault f ss r w in let g = d.1 in cc)) ]

-- ---- of all bytes

pub fault_behind : (bytes behind : List ℕ) (fault : ListFault) → preamble.Reads Wide bytes behind → IsFaultBehind (length bytes) behind fault
    → IsFaultOf bytes fault
fault_behind bytes behind faults.Memory r f = tt
fault_behind bytes behind (faults.NotAComponent place) r f = absurd f
fault_behind bytes behind (faults.BadSection place) r f = (behind, r, f)
fault_behind bytes behind (faults.BadItem place) r f = (behind, r, f)
fault_behind bytes behind (faults.TooDeep place) r f = (behind, r, f)

pub no_fault : (bytes : List ℕ) (ss : List Section) → Reading Wide bytes ss → AreWithin 100 ss → (fault : ListFault) → IsFaultOf bytes fault
    → fault ≡ faults.Memory
no_fault bytes ss r w faults.Memory f = refl
no_fault bytes ss r w (faults.NotAComponent place) f = absurd (f.1 r.0 r.1)
no_fault bytes ss r w fault f = only_memory (length bytes) f.0 fault f.2 ss (rw (same_behind bytes r.0 f.0 r.1 f.1) at r.2) w

pub too_deep : (bytes : List ℕ) (ss : List Section) → Reading Wide bytes ss → (fault : ListFault) → IsFaultOf bytes fault → IsMemoryOrDeep fault
too_deep bytes ss r faults.Memory f = inl refl
too_deep bytes ss r (faults.NotAComponent place) f = absurd (f.1 r.0 r.1)
too_deep bytes ss r fault f = memory_or_deep (length bytes) f.0 fault f.2 ss (rw (same_behind bytes r.0 f.0 r.1 f.1) at r.2)
