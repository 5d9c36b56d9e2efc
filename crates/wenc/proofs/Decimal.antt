-- Digits written from the last on.
use Rattle.std.proofs.Common.{◌≡◌, ℕ, ◌+◌, ◌*◌, ◌/◌, ◌%◌, ◌^◌, ◌<◌, ◌≤◌, ◌-◌, List, [], ◌∷◌, ◌++◌, length, take, drop, slice_set, rules}
use Rattle.std.proofs.Common.{Result, Ok, Err, length-drop, sym, ◌∙◌, ap, zero, suc, append_assoc, add-one, arith}
use Rattle.std.specs.Prelude.{OnOk, is_ok, if◌then◌else◌}
use Rattle.std.proofs.Math.ListN.{length-set}
use Rattle.std.proofs.Math.Nat.{pow-succ'}
use Rattle.std.proofs.lemmas.List.{drop-set, take_all}
use Rattle.std.proofs.lemmas.Fmt.{decimal_step, decimal_digit}
use Rattle.std.specs.Fmt.{decimal}

-- a number with more digits than one has room for the others in front of its last
pub room_in_front : (rest start : ℕ) → 10 ≤ rest → rest < 10 ^ (start + 1) → (0 < start) × (rest / 10 < 10 ^ start)
room_in_front rest zero h r = absurd (omega arith)
room_in_front rest (suc k) h r =
    let e : 10 ^ (suc k + 1) ≡ 10 * 10 ^ suc k = rw add-one (pow-succ' 10 (suc k)) in
    (omega arith, omega arith)

-- its last digit is written
pub digit_written : (rest start : ℕ) (line all : List ℕ) → 10 ≤ rest → rest < 2 ^ 64 → start < length line → decimal rest ++ drop (start + 1) line ≡ all
    → decimal (rest / 10) ++ drop start (slice_set line start (48 + rest % 10)) ≡ all
digit_written rest start line all h small within is =
    rw (drop-set line start (48 + rest % 10) within)
    (sym (append_assoc (decimal (rest / 10)) ((48 + rest % 10) ∷ []) (drop (start + 1) line)) ∙ ap
    (λ (l : List ℕ). l ++ drop (start + 1) line) (sym (decimal_step rest h small)) ∙ is)

-- the first digit is written, and what stands from there on is the whole
pub first_written : (rest start n : ℕ) (line all : List ℕ) → rest < 10 → start < n → length line ≡ n
    → decimal rest ++ drop (start + 1) line ≡ all → take (n - start) (drop start (slice_set line start (48 + rest))) ≡ all
first_written rest start n line all h within len is =
    let inside : start < length line = omega arith in
    let short : length (drop start (slice_set line start (48 + rest))) ≤ n - start =
    omega (arith, length-drop start (slice_set line start (48 + rest)), length-set {A = ℕ}) in
    take_all _ _ short ∙ drop-set line start (48 + rest) inside ∙ ap (λ (l : List ℕ). l ++ drop (start + 1) line) (sym (decimal_digit rest h)) ∙ is

pub appended : {E : Type 0} (r : Result (Unit {0}) E) (old new part all : List ℕ) → new ≡ (if is_ok r then old ++ part else old)
    → part ≡ all → OnOk r (new ≡ old ++ all)
appended (Ok done) old new part all e is = e ∙ ap (λ (l : List ℕ). old ++ l) is
appended (Err error) old new part all e is = search rules
