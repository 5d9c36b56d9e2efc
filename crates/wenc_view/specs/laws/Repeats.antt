-- Reading values one after the other, as a loop does.
use Rattle.std.proofs.Common.{◌≡◌, ℕ, suc, ◌-◌, ◌+◌, ◌≤◌, ◌<◌, List, [], ◌∷◌, ◌++◌, Result, Ok, Err}
use Rattle.std.proofs.Common.{refl, sym, ap, ◌∙◌, append_assoc, arith}
use Rattle.std.proofs.lemmas.List.{append-nil}
use Rattle.wenc_base.specs.Readers.{Flaw, Reader, go_on, times}
use Rattle.wenc_read.specs.laws.Tables.{fails_on}

-- what was read before, and what is still read
abbrev pub with_front : {A : Type 0} → List A → Result (List A × List ℕ) Flaw
    → Result (List A × List ℕ) Flaw
with_front front read = go_on read (λ vs rest. Ok (front ++ vs, rest))

regroup : {A : Type 0} (front : List A) (v : A) (read : Result (List A × List ℕ) Flaw)
    → with_front front (go_on read (λ vs rest. Ok (v ∷ vs, rest))) ≡ with_front
    (front ++ v ∷ []) read
regroup front v (Ok x) = ap (λ (vs : List _). Ok (vs, x.1)) (simp append_assoc)
regroup front v (Err flaw) = refl

times_whole : {A : Type 0} (read : Result (List A × List ℕ) Flaw) → with_front [] read ≡ read
times_whole (Ok x) = refl
times_whole (Err flaw) = refl

pub at_start : {A : Type 0} (read : Reader A) (count : ℕ) (bytes : List ℕ)
    → with_front [] (times read (count - 0) bytes) ≡ times read count bytes
at_start read count bytes = let all : count - 0 ≡ count = omega arith in rw all
    (times_whole (times read count bytes))

pub times_go_on : {A : Type 0} (read : Reader A) (front : List A) (count i : ℕ) (bytes : List ℕ)
    (v : A) (after : List ℕ) (total : Result (List A × List ℕ) Flaw) → i < count
    → read bytes ≡ Ok (v, after)
    → with_front front (times read (count - i) bytes) ≡ total
    → with_front (front ++ v ∷ []) (times read (count - (i + 1)) after) ≡ total
times_go_on read front count i bytes v after total lt h so_far =
    let k : count - i ≡ suc (count - (i + 1)) = omega arith in
    let one : with_front front (times read (count - i) bytes) ≡ with_front (front ++ v ∷ [])
    (times read (count - (i + 1)) after) = rw (k, h) (regroup front v
    (times read (count - (i + 1)) after)) in
    sym one ∙ so_far

pub stops : {A : Type 0} (flaw : Flaw) (read : Reader A) (front : List A) (count i : ℕ)
    (bytes : List ℕ) (total : Result (List A × List ℕ) Flaw) → i < count → read bytes ≡ Err flaw
    → with_front front (times read (count - i) bytes) ≡ total → total ≡ Err flaw
stops {A} flaw read front count i bytes total lt h so_far =
    let k : count - i ≡ suc (count - (i + 1)) = omega arith in
    let one : with_front front (times read (count - i) bytes) ≡ Err flaw = rw k
    (fails_on flaw (times read (suc (count - (i + 1))) bytes) _ (fails_on flaw (read bytes) _ h)) in
    sym so_far ∙ one

pub is_done : {A : Type 0} (read : Reader A) (front : List A) (count i : ℕ) (bytes : List ℕ)
    (total : Result (List A × List ℕ) Flaw) → count ≤ i
    → with_front front (times read (count - i) bytes) ≡ total → total ≡ Ok (front, bytes)
is_done read front count i bytes total le so_far =
    let k : count - i ≡ 0 = omega arith in
    let one : with_front front (times read (count - i) bytes) ≡ Ok (front, bytes) = rw k
    (ap (λ (vs : List _). Ok (vs, bytes)) (append-nil front)) in
    sym so_far ∙ one
