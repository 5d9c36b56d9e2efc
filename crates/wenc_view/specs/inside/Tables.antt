-- Tables of values that are a byte each: which value it is.
use Rattle.std.specs.Prelude.{ℕ, List, [], ◌∷◌, Option, Some, None, nat_eq, if◌then◌else◌}

-- the value with this byte
abbrev pub find : {T : Type 0} → (T → ℕ) → List T → ℕ → Option T
find byte_of [] b = None
find byte_of (t ∷ ts) b = if nat_eq b (byte_of t) then Some t else find byte_of ts b
