-- The front of a script that is a text, and the line in which it ends.
use Rattle.std.proofs.Common.{◌≡◌, ℕ, ◌+◌, ◌<◌, ◌≤◌, eqb, List, [], ◌∷◌, ◌++◌, Bool, true, false, length, take, drop, Result, Ok, Err, refl}
use Rattle.std.proofs.Common.{sym, ap, subst, ◌∙◌, arith, inl, inr, append-nil, length-append, length-take, length-drop, take-append-drop}
use Rattle.std.proofs.Common.{MatchResult, Bor}
use Rattle.std.proofs.Math.Seq.{take-append_seam, take-append-add, drop-append_seam}
use Rattle.std.specs.Result.{result_unwrap_or}
use Rattle.std.specs.Str.{IsUtf8, IsValidUpTo}
use Rattle.std.specs.List.{position_or_len, before_first, after_first}
use Rattle.std.proofs.lemmas.Bool.Decides.{eqb_tells}
use Rattle.std.proofs.lemmas.List.{drop_all}
use Rattle.std.proofs.lemmas.Str.{IsUtf8-append, IsUtf8-nil, IsUtf8-drop, IsUtf8-from_ascii, IsCharBoundary-from_take, IsCharBoundary-after_ascii}
use Rattle.wenc.specs.Prelude.{IsTextInFront, commands_from, parted}
use Rattle.wasm_encoder.specs.Prelude.{CommandTree}
use Rattle.wenc.proofs.Parted.{lacks, parts_behind, parted_whole, at_first, line_before, first_part}
use Rattle.wenc.proofs.Lines.{not_text}
use Rattle.wenc.proofs.Commands.{put_before}

-- the front that is a text is cut off, and is a text
pub text_cut : {E : Type 0} (bytes : List ℕ) (n k : ℕ) (r : Result (Bor (List ℕ)) E) (Q : E → Type 0) (other text : Bor (List ℕ)) → IsValidUpTo bytes n → k ≡ n
    → MatchResult r (λ s. (s.now ≡ take k bytes) × IsUtf8 (take k bytes)) (λ e. ¬ (IsUtf8 (take k bytes)) × Q e) → text ≡ result_unwrap_or r other
    → IsTextInFront bytes text.now false
text_cut bytes n k (Ok s) Q other text v e is said =
    let short = v.short in
    let now : text.now ≡ take n bytes = rw (said, is.0, e) refl in
    let len : length text.now ≡ n = ap length now ∙ omega (arith, length-take n bytes) in
    rw len (now, v)
text_cut bytes n k (Err error) Q other text v e is said = absurd (is.0 (rw e v.front))

none_behind : (bytes text : List ℕ) → text ≡ bytes → drop (length text) bytes ≡ []
none_behind bytes text h = drop_all (length text) bytes (omega (arith, ap length h))

-- the text, and then the bytes behind it
pub front_and_behind : (bytes text : List ℕ) (is_whole : Bool) → IsTextInFront bytes text is_whole → text ++ drop (length text) bytes ≡ bytes
front_and_behind bytes text true h = rw (none_behind bytes text h.0, append-nil) h.0
front_and_behind bytes text false h = ap (λ (l : List ℕ). l ++ drop (length text) bytes) h.0 ∙ take-append-drop (length text) bytes

pub front_text : (bytes text : List ℕ) (is_whole : Bool) → IsTextInFront bytes text is_whole → IsUtf8 text
front_text bytes text true h = rw h.0 h.1
front_text bytes text false h = subst IsUtf8 (sym h.0) h.1.front

pub front_shorter : (bytes text : List ℕ) (is_whole : Bool) → IsTextInFront bytes text is_whole → length text ≤ length bytes
front_shorter bytes text is_whole h = omega (arith, simp length-append at (ap length (front_and_behind bytes text is_whole h)))

-- behind the longest front that is a text none begins
none_longer : (text more : List ℕ) (n : ℕ) → IsValidUpTo (text ++ more) (length text) → 0 < n → ¬ (IsUtf8 (take n more))
none_longer text more n v some is =
    let front : IsUtf8 text = rw take-append_seam at v.front in
    v.longest (length text + n) (omega arith) (rw take-append-add (IsUtf8-append text (take n more) front is))

line_end : IsUtf8 (10 ∷ [])
line_end = IsUtf8-from_ascii (10 ∷ []) (λ i. grind arith)

-- so the line that follows it is none
no_text_behind : (text more : List ℕ) → IsValidUpTo (text ++ more) (length text) → ¬ (IsUtf8 (before_first (λ b. eqb b 10) more))
no_text_behind text [] v is = let short = v.short in absurd (omega (arith, length-append text []))
no_text_behind text (b ∷ more) v is =
    elim (eqb_tells b 10) [
      | inl t ↦ none_longer text (b ∷ more) 1 v (omega arith) (rw t.1 line_end)
      | inr t ↦ none_longer text (b ∷ more) (position_or_len (λ x. eqb x 10) (b ∷ more)) v (rw t.0 (omega arith)) is
    ]

no_text : (last part : List ℕ) → IsUtf8 last → ¬ (IsUtf8 part) → ¬ (IsUtf8 (last ++ part))
no_text last part u none is =
    let ends = IsCharBoundary-from_take (last ++ part) (length last) is (omega (arith, length-append last part)) (rw take-append_seam u) in
    none (rw drop-append_seam at (IsUtf8-drop (last ++ part) (length last) is ends))

bad_first : (n : ℕ) (line : List ℕ) (lines : List (List ℕ)) → ¬ (IsUtf8 line) → commands_from n (line ∷ lines) ≡ Err n
bad_first n [] lines bad = absurd (bad IsUtf8-nil)
bad_first n (b ∷ line) lines bad = rw (not_text (b ∷ line) bad) refl

-- the last line is bad, where more bytes follow the text
pub ends_badly : (commands : List CommandTree) (n : ℕ) (bytes text last : List ℕ) (is_whole : Bool) (all : Result (List CommandTree) ℕ)
    → put_before commands (commands_from n (parted 10 (last ++ drop (length text) bytes))) ≡ all → IsTextInFront bytes text is_whole
    → is_whole ≡ false → IsUtf8 last
    → position_or_len (λ b. eqb b 10) last ≡ length last → all ≡ Err n
ends_badly commands n bytes text last is_whole all said front no_more u no_end =
    let more : List ℕ = drop (length text) bytes in
    let f = first_part 10 more in
    let valid = rw no_more at front in
    let none = no_text last _ u (no_text_behind text more (rw (front_and_behind bytes text is_whole front) valid.1)) in
    let line = parts_behind 10 last more _ f.0 (lacks 10 last (omega arith)) f.1 in
    sym said ∙ ap (λ lines. put_before commands (commands_from n lines)) line ∙ ap (put_before commands) (bad_first n _ f.0 none)

-- the last line, where none do
pub last_line : (bytes text last : List ℕ) (is_whole : Bool) → IsTextInFront bytes text is_whole → is_whole ≡ true
    → position_or_len (λ b. eqb b 10) last ≡ length last
    → parted 10 (last ++ drop (length text) bytes) ≡ last ∷ []
last_line bytes text last is_whole front no_more no_end =
    let whole = rw no_more at front in
    rw (none_behind bytes text whole.0, append-nil) (parted_whole 10 last (omega arith))

-- a text is cut at its first LF: what stands behind it is a text, which is shorter, and the line in
-- front is read first
pub next_line : (last line behind more : List ℕ) → (line ≡ before_first (λ b. eqb b 10) last) × (behind ≡ after_first (λ b. eqb b 10) last)
    × (position_or_len (λ b. eqb b 10) last < length last)
    → IsUtf8 last → IsUtf8 behind × (length behind < length last) × (parted 10 (last ++ more) ≡ line ∷ parted 10 (behind ++ more))
next_line last line behind more cut u =
    let n = position_or_len (λ b. eqb b 10) last in
    let ends = cut.2 in (
      rw cut.1 (IsUtf8-drop last (n + 1) u (IsCharBoundary-after_ascii last n u ends (omega (arith, at_first 10 last ends)))),
      omega (arith, ap length cut.1, length-drop (n + 1) last),
      rw (cut.0, cut.1) (line_before 10 last more ends),
    )
