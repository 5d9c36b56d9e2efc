-- Bytes in the middle of a list are replaced by fewer ones, and what follows them moves up.
use Rattle.std.proofs.Common.{◌≡◌, ℕ, ◌+◌, ◌-◌, ◌≤◌, ◌<◌, ◌^◌, List, ◌++◌, length, take, drop, refl, arith, append_assoc, length-drop}
use Rattle.std.proofs.Common.{length-append, length-take-le, take-append-drop, Option, ap, rules}
use Rattle.std.proofs.lemmas.Slice.{take-put_mid, drop-put_mid, overwrites}
use Rattle.std.proofs.lemmas.List.{places, take_at, drop_at, take-append-le, drop-append-le}
use Rattle.std.proofs.lemmas.List.Edits.{take-paste}
use Rattle.wenc_base.specs.Prelude.{HolderState, Opening, content_size, with_kept}
use Rattle.wenc_base.proofs.Groups.{size_1}
use borrow.Rule.Slice.PartMut.{put_mid}
use lib.Seq.{paste}

all_of_drop : (k n : ℕ) (xs : List ℕ) → n ≡ length xs - k → take n (drop k xs) ≡ drop k xs
all_of_drop k n xs e = search (rules, overwrites)

pub filled : (xs head : List ℕ) (e n : ℕ) → e ≤ n → n ≤ length xs → length head ≤ n - e
    → take (length xs - (n - e - length head)) (paste (put_mid e (length head) xs head) (e + length head)
    (drop n (put_mid e (length head) xs head)) (length xs - n))
    ≡ take e xs ++ (head ++ drop n xs)
filled xs head e n order room short =
    let at_most : e + length head ≤ length (put_mid e (length head) xs head) = search (rules, places, arith) in
    let front : take (e + length head) (put_mid e (length head) xs head) ≡ take e xs ++ head =
    take-put_mid e (length head) xs head (e + length head) refl (omega arith) in
    let back : drop n (put_mid e (length head) xs head) ≡ drop n xs = drop-put_mid e (length head) xs head n (omega arith) (omega arith) refl in
    let cut : length xs - (n - e - length head) ≡ e + length head + (length xs - n) = omega arith in
    let enough : length xs - n ≤ length (drop n (put_mid e (length head) xs head)) = rw back (omega (arith, length-drop n xs)) in
    rw (
      cut,
      take-paste (put_mid e (length head) xs head) (e + length head) (drop n (put_mid e (length head) xs head))
          (length xs - n) at_most enough,
      front,
      back,
      all_of_drop n (length xs - n) xs refl,
    )
    (append_assoc (take e xs) head (drop n xs))

-- ---- bytes that are kept in front of others

-- where all are kept there are no members
pub all_kept : (bytes : List ℕ) (kept : ℕ) → kept ≡ length bytes → (kept ≤ length bytes) × (content_size 0 (length (drop kept bytes)) < 2 ^ 32)
all_kept bytes kept e = (omega (arith, e), omega (arith, e, length-drop kept bytes, size_1 0 (omega arith)))

module _ (kept body head : List ℕ) (start end : ℕ) (order : start ≤ end) (room : end ≤ length kept) (short : length head ≤ end - start) where
  abbrev front : List ℕ
  front = take start kept ++ (head ++ drop end kept)

  regrouped : (a h b c : List ℕ) → a ++ (h ++ (b ++ c)) ≡ (a ++ (h ++ b)) ++ c
  regrouped a h b c = simp append_assoc

  in_front : take start (kept ++ body) ++ (head ++ drop end (kept ++ body)) ≡ front ++ body
  in_front = rw (take-append-le start kept body (omega arith), drop-append-le end kept body room) (regrouped (take start kept) head (drop end kept) body)

  front_length : length front ≡ length kept - (end - start - length head)
  front_length = omega (
    arith,
    length-append (take start kept) (head ++ drop end kept),
    length-append head (drop end kept),
    length-take-le start kept (omega arith),
    length-drop end kept,
  )

  filled_view : (count : ℕ) (opening : Option Opening) (after : List ℕ) → after ≡ take start (kept ++ body) ++ (head ++ drop end (kept ++ body))
      → let h : HolderState = record {
        kept = take (length kept - (end - start - length head)) after;
        count = count;
        body =
            drop (length kept - (end - start - length head)) after;
        opening = opening;
      } in
      h ≡ record { kept = front; count = count; body = body; opening = opening }
  filled_view count opening after e = rw (
    e,
    in_front,
    take_at front body (length kept - (end - start - length head)) front_length,
    drop_at front body (length kept - (end - start - length head)) front_length,
  ) refl

-- the kept bytes are the first of all
pub kept_filled : (bytes after head : List ℕ) (kept start end count : ℕ) (opening : Option Opening) (h : HolderState) → kept ≤ length bytes
    → record { kept = take kept bytes; count = count; body = drop kept bytes; opening = opening } ≡ h → start ≤ end → end ≤ length h.kept
    → length head ≤ end - start
    → after ≡ take start bytes ++ (head ++ drop end bytes)
    → record {
      kept = take (kept - (end - start - length head)) after;
      count = count;
      body =
          drop (kept - (end - start - length head)) after;
      opening = opening;
    }
    ≡ with_kept h (take start h.kept ++ (head ++ drop end h.kept))
kept_filled bytes after head kept start end count opening h le view order room short e =
    let size : length (take kept bytes) ≡ kept = length-take-le kept bytes le in
    let whole : take kept bytes ++ drop kept bytes ≡ bytes = take-append-drop kept bytes in
    let same : take kept bytes ≡ h.kept = ap (λ (h : HolderState). h.kept) view in
    let within : end ≤ length (take kept bytes) = rw same room in
    let shown = filled_view (take kept bytes) (drop kept bytes) head start end order within short count opening after (rw whole e) in
    rw (← view) (rw size at shown)
