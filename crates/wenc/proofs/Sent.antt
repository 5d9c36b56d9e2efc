-- What a writer took of a text.
use Rattle.std.proofs.Common.{◌≡◌, ℕ, ◌-◌, ◌≤◌, List, [], ◌∷◌, ◌++◌, length, take, drop, Option, refl, ap, ◌∙◌, append_assoc, append-nil, length-drop, arith}
use Rattle.std.proofs.lemmas.List.{take-append-drop, take_all}
use Rattle.std.specs.Io.KnownBytes.{Appends}
use Rattle.hex.specs.Hex.{encode_with, encode_lower}
use Rattle.wenc.specs.Run.{AppendsFront}

pub appends_both : (a b c : Option (List ℕ)) (xs ys : List ℕ) → Appends a b xs → Appends b c ys → Appends a c (xs ++ ys)
appends_both a b c xs ys p q = grind (arith, append_assoc {A = ℕ})

-- a writer took n more bytes of a text
pub sent_more : (a b c : Option (List ℕ)) (text sent rest : List ℕ) (n : ℕ) → n ≤ length rest → Appends a b sent → Appends b c (take n rest)
    → text ≡ sent ++ rest
    → (all : List ℕ) × Appends a c all × (text ≡ all ++ take (length rest - n) (drop n rest))
sent_more a b c text sent rest n within p q e =
    let left : take (length rest - n) (drop n rest) ≡ drop n rest = take_all _ _ (omega (arith, length-drop n rest)) in
    (sent ++ take n rest, appends_both a b c sent (take n rest) p q, e ∙ rw (left, append_assoc, take-append-drop) refl)

-- What was sent of a text that follows another is, after that, a front of both and what follows
-- them.
pub front_behind : (a b c : Option (List ℕ)) (xs ys zs text : List ℕ) → Appends a b xs → AppendsFront b c ys → text ≡ xs ++ (ys ++ zs) → AppendsFront a c text
front_behind a b c xs ys zs text p f e = record {
  sent = xs ++ f.sent;
  missing = f.missing ++ zs;
  front = e ∙ ap (λ (l : List ℕ). xs ++ (l ++ zs)) f.front ∙ simp append_assoc;
  appends = appends_both a b c xs f.sent p f.appends;
}

-- ---- hexadecimal text

pub encode_with-append : (t xs ys : List ℕ) → encode_with t (xs ++ ys) ≡ encode_with t xs ++ encode_with t ys
unfolding encode_with
encode_with-append t [] ys = refl
encode_with-append t (x ∷ xs) ys = rw (encode_with-append t xs ys) refl

pub nothing_sent : (a : Option (List ℕ)) → Appends a a (encode_lower [])
unfolding encode_with
nothing_sent a = grind (arith, append-nil {A = ℕ})

-- a writer took the text of one more piece of the bytes
pub piece_more : (a b c : Option (List ℕ)) (bytes sent rest piece behind : List ℕ) → bytes ≡ sent ++ rest → rest ≡ piece ++ behind
    → Appends a b (encode_lower sent) → Appends b c (encode_lower piece) → (all : List ℕ) × Appends a c (encode_lower all) × (bytes ≡ all ++ behind)
piece_more a b c bytes sent rest piece behind e split p q = (
  sent ++ piece,
  rw encode_with-append (appends_both a b c _ _ p q),
  e ∙ ap (λ (l : List ℕ). sent ++ l) split ∙ simp append_assoc,
)

-- or a front of its text
pub piece_front : (a b c : Option (List ℕ)) (bytes sent rest piece behind : List ℕ) → bytes ≡ sent ++ rest → rest ≡ piece ++ behind
    → Appends a b (encode_lower sent) → AppendsFront b c (encode_lower piece) → AppendsFront a c (encode_lower bytes)
piece_front a b c bytes sent rest piece behind e split p f =
    let all : bytes ≡ sent ++ (piece ++ behind) = e ∙ ap (λ (l : List ℕ). sent ++ l) split in
    front_behind a b c _ _ (encode_lower behind) _ p f (rw (all, encode_with-append, encode_with-append) refl)
