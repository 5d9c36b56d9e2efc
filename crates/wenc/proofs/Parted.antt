-- Parting at the first separator.
use Rattle.std.proofs.Common.{◌≡◌, ℕ, ◌<◌, ◌≤◌, eqb, false, List, [], ◌∷◌, ◌++◌, length, get_or, refl, ap, ◌∙◌, arith, inl, inr, append_assoc, append-nil}
use Rattle.std.proofs.lemmas.Bool.{eqb-true, eq-eqb, cases_lt}
use Rattle.std.proofs.lemmas.Grind.{common_steps}
use Rattle.std.proofs.lemmas.List.{take_all}
use Rattle.std.proofs.lemmas.List.Elements.{All-head, All-tail}
use Rattle.std.proofs.lemmas.List.Sums.{fails_before_first, passes_at_first, split_at_first}
use Rattle.std.specs.List.{All, position_or_len, before_first, after_first}
use Rattle.wenc.specs.Parts.{parted}

module _ (separator : ℕ) where
  abbrev Lacks : List ℕ → Type 0
  Lacks s = All (λ b. eqb b separator ≡ false) s

  lacks_before : (s : List ℕ) → Lacks (before_first (λ b. eqb b separator) s)
  lacks_before s = λ k d m. let fails = fails_before_first (λ b. eqb b separator) s k d (grind (arith, common_steps)) in grind (arith, common_steps)

  -- what has no separator stands in front of the first part
  pub parts_behind : (s behind part : List ℕ) (parts : List (List ℕ)) → Lacks s → parted separator behind ≡ part ∷ parts
      → parted separator (s ++ behind) ≡ (s ++ part) ∷ parts
  parts_behind [] behind part parts lacks is = is
  parts_behind (b ∷ s) behind part parts lacks is =
      rw (All-head (λ x. eqb x separator ≡ false) b s lacks, parts_behind s behind part parts (All-tail (λ x. eqb x separator ≡ false) b s lacks) is) refl

  pub lacks : (s : List ℕ) → length s ≤ position_or_len (λ b. eqb b separator) s → Lacks s
  lacks s h = λ k d m. fails_before_first (λ b. eqb b separator) s k d (omega arith)

  pub parted_whole : (s : List ℕ) → length s ≤ position_or_len (λ b. eqb b separator) s → parted separator s ≡ s ∷ []
  parted_whole s h = simp append-nil at (parts_behind s [] [] [] (lacks s h) refl)

  pub at_first : (s : List ℕ) → position_or_len (λ b. eqb b separator) s < length s → get_or s (position_or_len (λ b. eqb b separator) s) 0 ≡ separator
  at_first s h = eqb-true _ separator (passes_at_first (λ b. eqb b separator) s 0 h)

  -- the first part, where there is a separator
  pub line_before : (s behind : List ℕ) → position_or_len (λ b. eqb b separator) s < length s
      → parted separator (s ++ behind) ≡ before_first (λ b. eqb b separator) s ∷ parted separator (after_first (λ b. eqb b separator) s ++ behind)
  line_before s behind h =
      let cut = rw (at_first s h) at (split_at_first (λ b. eqb b separator) s 0 h) in
      let next : parted separator (separator ∷ (after_first (λ b. eqb b separator) s ++ behind)) ≡ []
      ∷ parted separator (after_first (λ b. eqb b separator) s ++ behind) = rw (eq-eqb separator separator refl) refl in
      ap (λ (l : List ℕ). parted separator (l ++ behind)) cut ∙ simp append_assoc
      (simp append-nil at (parts_behind _ (separator ∷ (after_first (λ b. eqb b separator) s ++ behind)) [] _ (lacks_before s) next))

  pub parted_first : (s : List ℕ) → position_or_len (λ b. eqb b separator) s < length s
      → parted separator s ≡ before_first (λ b. eqb b separator) s ∷ parted separator (after_first (λ b. eqb b separator) s)
  parted_first s h = simp append-nil at (line_before s [] h)

  pub first_part : (s : List ℕ) → (parts : List (List ℕ)) × (parted separator s ≡ before_first (λ b. eqb b separator) s ∷ parts)
  first_part s =
      elim (cases_lt (position_or_len (λ b. eqb b separator) s) (length s)) [
        | inl h ↦ (_, parted_first s h)
        | inr h ↦ ([], rw (take_all _ s h) (parted_whole s h))
      ]
