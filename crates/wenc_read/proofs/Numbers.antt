-- Why no number is read.
use Rattle.std.proofs.Common.{◌≡◌, ℕ, zero, suc, List, [], ◌∷◌, Result, Ok, Err, refl, cond}
use Rattle.std.proofs.Common.{inl, inr}
use Rattle.std.proofs.lemmas.Bool.{cases_lt, le-ltb, lt-ltb}
use Rattle.wenc_base.specs.Readers.{Flaw}
use Rattle.wenc_base.specs.reading.Numbers.{raised, read_groups}
use Rattle.wenc_read.specs.Refusals.{expected_at, number_error}
use Rattle.wenc_read.specs.declared.expected.Expected.TheVariants.{Bits}

never : {A : Type 0} {flaw : Flaw} (x : ℕ × List ℕ) → Err flaw ≡ Ok x → A
never x e = absurd cc

raised_from : (bound b : ℕ) (found : Result (ℕ × List ℕ) Flaw) (x : ℕ × List ℕ)
    → raised bound b found ≡ Ok x → (y : ℕ × List ℕ) × (found ≡ Ok y)
raised_from bound b (Ok y) x e = (y, refl)
raised_from bound b (Err flaw) x e = never x e

-- where groups are read, the number is too large
pub too_large : (top bits bound room : ℕ) (whole bytes : List ℕ) (x : ℕ × List ℕ)
    → read_groups top bound room bytes ≡ Ok x
    → number_error top bits whole room bytes ≡ expected_at whole (Bits bits)
unfolding read_groups
too_large top bits bound zero whole [] x e = absurd cc
too_large top bits bound (suc room) whole [] x e = absurd cc
too_large top bits bound zero whole (b ∷ bytes) x e = refl
too_large top bits bound (suc room) whole (b ∷ bytes) x e =
    elim (cases_lt b top) [
      | inl lt ↦ rw (lt-ltb b top lt, cond) refl
      | inr ge ↦
          elim (cases_lt b 128) [
            | inl small ↦ never x (rw (le-ltb b top ge, cond, lt-ltb b 128 small, cond) at e)
            | inr low ↦
                elim (cases_lt b 256) [
                  | inl high ↦
                      let y = raised_from bound b (read_groups top bound room bytes) x
                      (rw (le-ltb b top ge, cond, le-ltb b 128 low, cond, lt-ltb b 256 high, cond) at e) in
                      rw (le-ltb b top ge, cond, le-ltb b 128 low, cond)
                      (too_large top bits bound room whole bytes y.0 y.1)
                  | inr big ↦ never x
                      (rw (le-ltb b top ge, cond, le-ltb b 128 low, cond, le-ltb b 256 big, cond) at e)
                ]
          ]
    ]
