use Rattle.std.proofs.Common.{◌≡◌, ◌≤◌, ◌<◌, ℕ, List, Result, Ok, Err, refl, arith}
use Rattle.wenc_base.specs.Prelude.{Agrees, Bad, Deep, Flaw}
use Rattle.wenc_base.specs.laws.Sound.{agreed}
use Rattle.wenc_view.specs.Prelude.{type_finds, type_tells}
use Rattle.wenc_types.specs.Prelude.{DefType, depth, read_type}
use Rattle.wenc_view.proofs.laws.types_are_exact.Goals as goal

pub returns-clause-given_is_read : goal.returns-clause-given_is_read
returns-clause-given_is_read c d t bytes rest e = rw e at ((type_tells d).tells bytes)

pub returns-clause-read_is_given : goal.returns-clause-read_is_given
returns-clause-read_is_given c d t bytes rest le r =
    agreed (d < depth t) (t, rest) (read_type d bytes) ((type_finds d t).finds bytes rest r) (λ lt. omega arith)

pub returns-clause-deeper : goal.returns-clause-deeper
returns-clause-deeper c d t bytes rest lt r =
    found (read_type d bytes) ((type_finds d t).finds bytes rest r) (λ y e. (rw e at ((type_tells d).tells bytes)).0) refl
  where
    found : (some : Result (DefType × List ℕ) Flaw) → Agrees (d < depth t) (t, rest) some
        → ((y : DefType × List ℕ) → read_type d bytes ≡ Ok y → depth y.0 ≤ d) → read_type d bytes ≡ some → some ≡ Err Deep
    found (Ok y) a within e =
        let le : depth y.0 ≤ d = within y e in
        absurd (omega (arith, rw a at le))
    found (Err Bad) a within e = absurd a
    found (Err Deep) a within e = refl

pub returns-clause-too_deep : goal.returns-clause-too_deep
returns-clause-too_deep c d bytes e = rw e at ((type_tells d).tells bytes)
