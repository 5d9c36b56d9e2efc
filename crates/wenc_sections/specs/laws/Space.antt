-- The index spaces apart from each other.
use Rattle.std.proofs.Common.{◌≡◌, ◌≢◌, ◌<◌, ◌⊎◌, inl, inr, Bool, true, false, refl, arith}
use Rattle.std.proofs.lemmas.Grind.{common_steps}
use Rattle.std.specs.Bool.{Decides}
use Rattle.wenc_sections.specs.Space.{space_number, space_eq}
use Rattle.wenc_sections.specs.declared.space.Space.{Space}

pub space_within : (s : Space) → space_number s < 13
space_within s = grind (arith, common_steps)

-- each has its own number
pub same_number : (s t : Space) → space_number s ≡ space_number t → s ≡ t
same_number s t e = grind (arith, common_steps)

pub space_decides : (s t : Space) → Decides (space_eq s t) (s ≡ t)
space_decides s t = grind (arith, common_steps)

-- two spaces are the same, or they aren't
pub space_tells : (s t : Space) → ((space_eq s t ≡ true) × (s ≡ t)) ⊎ ((space_eq s t ≡ false) × (s ≢ t))
space_tells s t = by (space_eq s t) refl
  where
    by : (b : Bool) → space_eq s t ≡ b → ((space_eq s t ≡ true) × (s ≡ t)) ⊎ ((space_eq s t ≡ false) × (s ≢ t))
    by true e = inl (e, (space_decides s t).0 e)
    by false e = inr (e, λ same. let is = (space_decides s t).1 same in cc)

pub space_ne : (s t : Space) → s ≢ t → space_eq s t ≡ false
space_ne s t apart = elim (space_tells s t) [ inl is ↦ absurd (apart is.1) | inr is ↦ is.0 ]
