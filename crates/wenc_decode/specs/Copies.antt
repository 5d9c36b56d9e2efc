-- Owned values that equal views.
use Rattle.std.specs.Prelude.{◌≡◌, List, [], ◌∷◌, Option, Some, None}

-- Each is a copy of something that is seen as the member.
abbrev pub AreCopies : {T V A : Type 0} → (T → V → Type 0) → (V → A) → List T → List A → Type 0
AreCopies IsCopy view [] [] = Unit {0}
AreCopies IsCopy view [] (m ∷ ms) = ⊥
AreCopies IsCopy view (t ∷ ts) [] = ⊥
AreCopies {V = V} IsCopy view (t ∷ ts) (m ∷ ms) =
    ((v : V) × IsCopy t v × (view v ≡ m)) × AreCopies IsCopy view ts ms

abbrev pub OptionCopies : {T V : Type 0} → (T → V → Type 0) → Option T → Option V → Type 0
OptionCopies IsCopy None None = Unit {0}
OptionCopies IsCopy None (Some v) = ⊥
OptionCopies IsCopy (Some t) None = ⊥
OptionCopies IsCopy (Some t) (Some v) = IsCopy t v
