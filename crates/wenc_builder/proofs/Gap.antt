-- The section whose items stand after a gap, where the gap is filled.
use Rattle.std.proofs.Common.{zero, length-take-le, take-append-drop, ◌≡◌, ℕ, suc, ◌+◌, ◌-◌, ◌≤◌, List, [], ◌∷◌, ◌++◌, length, take, drop}
use Rattle.std.proofs.Common.{refl, arith, append_assoc, length-append, length-drop, sym, ap, ◌∙◌}
use Rattle.std.proofs.lemmas.List.{take_at, drop_at}
use Rattle.wenc_base.specs.Prelude.{filled, number_size}
use Rattle.wenc_builder.specs.Prelude.{open_text_of, section_head}

drop_split : (k n : ℕ) (xs : List ℕ) → k ≤ n → drop k xs ≡ drop k (take n xs) ++ drop n xs
drop_split zero n xs h = sym (take-append-drop n xs)
drop_split (suc k) zero xs h = absurd (omega arith)
drop_split (suc k) (suc n) [] h = refl
drop_split (suc k) (suc n) (x ∷ xs) h = drop_split k n xs (omega arith)

length_between : (k n : ℕ) (xs : List ℕ) → n ≤ length xs → length (drop k (take n xs)) ≡ n - k
length_between k n xs h = omega (arith, length-drop k (take n xs), length-take-le n xs)

-- a section's head in front of its items is its text
pub headed : (id count : ℕ) (body rest : List ℕ) → section_head id count (number_size count + length body) ++ (body ++ rest)
    ≡ open_text_of (record { id = id; count = count; body = body }) ++ rest
headed id count body rest = simp append_assoc

pub closed_items : (xs : List ℕ) (e n id count : ℕ) → e + 11 ≤ n → n ≤ length xs
    → take e xs ++ (section_head id count (number_size count + (n - (e + 11))) ++ drop (e + 11) xs)
    ≡ (take e xs ++ open_text_of (record { id = id; count = count; body = drop (e + 11) (take n xs) })) ++ drop n xs
closed_items xs e n id count h l =
    let body = drop (e + 11) (take n xs) in
    rw (← length_between (e + 11) n xs l, drop_split (e + 11) n xs h)
    (ap (λ (t : List ℕ). take e xs ++ t) (headed id count body (drop n xs)) ∙ sym
    (append_assoc (take e xs) (open_text_of (record { id = id; count = count; body = body })) (drop n xs)))

-- after other bytes, a head in the place of the last of some
pub gap_filled : (before first more head : List ℕ) (gap end : ℕ) → gap ≤ length first → end ≡ length (before ++ (first ++ more)) - length more
    → filled (before ++ (first ++ more)) (end - gap) end head ≡ before ++ (take (length first - gap) first ++ (head ++ more))
gap_filled before first more head gap end room e =
    let n : ℕ = length first - gap in
    let behind : length (before ++ first) ≡ end =
    omega (arith, e, length-append before (first ++ more), length-append first more, length-append before first) in
    let in_front : length (before ++ take n first) ≡ end - gap =
    omega (arith, room, behind, length-append before first, length-append before (take n first), length-take-le n first (omega arith)) in
    let split : before ++ (first ++ more) ≡ (before ++ take n first) ++ (drop n first ++ more) =
    ap (λ (xs : List ℕ). before ++ (xs ++ more)) (sym (take-append-drop n first)) ∙ regrouped before (take n first) (drop n first) more in
    let front : take (end - gap) (before ++ (first ++ more)) ≡ before ++ take n first =
    rw split (take_at (before ++ take n first) (drop n first ++ more) (end - gap) in_front) in
    let back : drop end (before ++ (first ++ more)) ≡ more = rw (← append_assoc before first more) (drop_at (before ++ first) more end behind) in
    rw (front, back) (append_assoc before (take n first) (head ++ more))
  where
    regrouped : (a b c d : List ℕ) → a ++ ((b ++ c) ++ d) ≡ (a ++ b) ++ (c ++ d)
    regrouped a b c d = simp append_assoc
