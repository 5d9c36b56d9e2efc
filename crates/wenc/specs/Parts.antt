-- Texts that are parted: a script into lines, and a line into words.
use Rattle.std.specs.Prelude.{ℕ, ◌==◌, if◌then◌else◌, List, [], ◌∷◌, Option, Some, None}

-- a byte put in front of the first part
abbrev pub first_grown : ℕ → List (List ℕ) → List (List ℕ)
first_grown b [] = (b ∷ []) ∷ []
first_grown b (part ∷ parts) = (b ∷ part) ∷ parts

-- the parts between separators: one more than there are separators
abbrev pub parted : ℕ → List ℕ → List (List ℕ)
parted separator [] = [] ∷ []
parted separator (b ∷ bytes) =
    if b == separator then [] ∷ parted separator bytes else first_grown b (parted separator bytes)

-- the parts of what is left after a separator, if there was one
abbrev pub parted_rest : ℕ → Option (List ℕ) → List (List ℕ)
parted_rest separator None = []
parted_rest separator (Some bytes) = parted separator bytes
