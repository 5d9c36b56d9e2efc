-- Bytes that a vector holds.
use Rattle.std.proofs.Common.{◌≡◌, ℕ, ◌<◌, Result, Ok, Err, OnOk, ◌++◌, List, [], ◌∷◌, length, get_or}
use Rattle.std.proofs.lemmas.List.Elements.{All-from_get_or, recursion_from_All}
use Rattle.wenc_base.specs.Prelude.{AreBytes, Fault}

-- each is below 256
pub bytes_below : (bytes : List ℕ) → ((i : ℕ) → i < length bytes → get_or bytes i 0 < 256) → AreBytes bytes
bytes_below bytes each = recursion_from_All (λ b. b < 256) bytes (All-from_get_or (λ b. b < 256) bytes 0 each)

-- and so are the last of them
pub last_below : (before bytes : List ℕ) → AreBytes (before ++ bytes) → AreBytes bytes
last_below [] bytes all = all
last_below (b ∷ before) bytes all = last_below before bytes all.1

-- what was appended is bytes, as all that there is now
pub text_below : (before bytes now : List ℕ) (outcome : Result (Unit {0}) Fault) → OnOk outcome (now ≡ before ++ bytes) → AreBytes now
    → OnOk outcome (AreBytes bytes)
text_below before bytes now (Ok u) e all = last_below before bytes (rw e at all)
text_below before bytes now (Err fault) e all = tt
