-- One more item at the end of a list.
use Rattle.std.proofs.Common.{◌≡◌, ℕ, ◌+◌, List, [], ◌∷◌, ◌++◌, length, eqb, cond, Option, Some}
use Rattle.std.proofs.Common.{None, refl, ap, sym, ◌∙◌, inl, inr, append_assoc, append-nil}
use Rattle.std.proofs.Common.{length-append}
use Rattle.std.proofs.lemmas.Bool.Decides.{eqb_tells}
use Rattle.std.proofs.lemmas.List.{append_cancel_right}
use Rattle.std.specs.List.{flat_map}
use Rattle.wenc_base.specs.Prelude.{unsigned_text}
use Rattle.wenc_builder.specs.Prelude.{Alone, Item, Run, Section, SectionsHold, SectionsState}
use Rattle.wenc_builder.specs.Prelude.{collected, item, joined, open_of, open_text_of, preamble}
use Rattle.wenc_builder.specs.Prelude.{runs, section_piece, sections, sections_text}
use Rattle.wenc_builder.specs.Builder.{open_text, with_item, with_item_at}

abbrev item_text : Item → List ℕ
item_text x = (item x).text

-- a section's text, by its count and its items' bytes
abbrev run_text : ℕ → ℕ → List ℕ → List ℕ
run_text id count body = open_text_of (record { id = id; count = count; body = body })

abbrev piece_text : Section → List ℕ
piece_text (Run id xs) = run_text id (length xs) (flat_map item_text xs)
piece_text (Alone x) = item_text x

same_text : (s : Section) → (section_piece s).text ≡ piece_text s
same_text (Run id xs) = rw (length-append (unsigned_text (length xs)) (flat_map item_text xs)) refl
same_text (Alone x) = refl

same_texts : (ss : List Section) → (sections ss).text ≡ flat_map piece_text ss
same_texts [] = refl
same_texts (s ∷ ss) = rw (same_text s, same_texts ss) refl

-- an item put after a last piece
abbrev pub runs_extended : Option ℕ → Section → Item → List Section
runs_extended None p x = p ∷ Alone x ∷ []
runs_extended (Some id) (Alone y) x = Alone y ∷ Run id (x ∷ []) ∷ []
runs_extended (Some id) (Run other ys) x =
    cond (eqb other id) (Run other (ys ++ x ∷ []) ∷ []) (Run other ys ∷ Run id (x ∷ []) ∷ [])

-- an item put after pieces
abbrev pub pushed : Option ℕ → List Section → Item → List Section
pushed o [] x = joined o x []
pushed o (p ∷ []) x = runs_extended o p x
pushed o (p ∷ q ∷ ps) x = p ∷ pushed o (q ∷ ps) x

-- putting an item in front and one after
around_one : (m o : Option ℕ) (y x : Item) (p : Section)
    → joined m y (runs_extended o p x) ≡ pushed o (joined m y (p ∷ [])) x
around_one None None y x p = refl
around_one None (Some id) y x p = refl
around_one (Some k) None y x (Alone z) = refl
around_one (Some k) None y x (Run l ys) =
    elim (eqb_tells k l) [ inl t ↦ rw t.0 refl | inr t ↦ rw t.0 refl ]
around_one (Some k) (Some id) y x (Alone z) = refl
around_one (Some k) (Some id) y x (Run l ys) =
    elim (eqb_tells k l) [
      | inl t ↦ elim (eqb_tells l id) [ inl u ↦ rw (u.0, t.0, u.0) refl | inr u ↦ rw (u.0, t.0, u.0) refl ]
      | inr t ↦ elim (eqb_tells l id) [ inl u ↦ rw (u.0, t.0, u.0) refl | inr u ↦ rw (u.0, t.0, u.0) refl ]
    ]

around : (m o : Option ℕ) (y x : Item) (ps : List Section) → joined m y (pushed o ps x) ≡ pushed o (joined m y ps) x
around None None y x [] = refl
around None (Some id) y x [] = refl
around (Some k) None y x [] = refl
around (Some k) (Some id) y x [] =
    elim (eqb_tells k id) [ inl t ↦ rw t.0 (ap (λ (i : ℕ). Run i (y ∷ x ∷ []) ∷ []) (sym t.1)) | inr t ↦ rw t.0 refl ]
around m o y x (p ∷ []) = around_one m o y x p
around None o y x (p ∷ q ∷ ps) = refl
around (Some k) o y x (Alone z ∷ q ∷ ps) = refl
around (Some k) o y x (Run l ys ∷ q ∷ ps) =
    elim (eqb_tells k l) [ inl t ↦ rw t.0 refl | inr t ↦ rw t.0 refl ]

pub runs_push : (xs : List Item) (x : Item) → runs (xs ++ x ∷ []) ≡ pushed (collected x) (runs xs) x
runs_push [] x = refl
runs_push (y ∷ ys) x = rw (runs_push ys x) (around (collected y) (collected x) y x (runs ys))

-- ---- the texts

pub pushed_some : (o : Option ℕ) (ps : List Section) (x : Item)
    → (r : Section) × (rs : List Section) × (pushed o ps x ≡ r ∷ rs)
pushed_some None [] x = (_, _, refl)
pushed_some (Some id) [] x = (_, _, refl)
pushed_some None (p ∷ []) x = (_, _, refl)
pushed_some (Some id) (Alone y ∷ []) x = (_, _, refl)
pushed_some (Some id) (Run l ys ∷ []) x =
    elim (eqb_tells l id) [
      | inl t ↦ (Run l (ys ++ x ∷ []), [], rw t.0 refl)
      | inr t ↦ (Run l ys, Run id (x ∷ []) ∷ [], rw t.0 refl)
    ]
pushed_some o (p ∷ q ∷ ps) x = (_, _, refl)

pub open_skip : (p r : Section) (ps rs : List Section) → ps ≡ r ∷ rs → open_of (p ∷ ps) ≡ open_of ps
open_skip p r ps rs e = rw e refl

abbrev pub texts : List Section → List ℕ
texts = flat_map piece_text

-- the sections that these pieces leave, with these closed bytes, then hold one item more
pub record Hold (front : List ℕ) (s : SectionsState) (ps : List Section) : Type 0 where
  pub bytes : sections_text s ≡ front ++ texts ps
  pub last : s.current ≡ open_of ps

one_text : (t : List ℕ) → t ++ [] ≡ t
one_text t = append-nil t

runs_behind : (all front piece t : List ℕ) → all ≡ front ++ (piece ++ [])
    → (all ++ t) ++ [] ≡ front ++ (piece ++ (t ++ []))
runs_behind all front piece t h = rw h (simp (append_assoc, append-nil))

new_behind : (all front piece s : List ℕ) → all ≡ front ++ (piece ++ []) → all ++ s ≡ front ++ (piece ++ (s ++ []))
new_behind all front piece s h = rw h (simp (append_assoc, append-nil))

same_front : (closed front s : List ℕ) → closed ++ s ≡ front ++ (s ++ []) → closed ≡ front
same_front closed front s h = append_cancel_right closed front s (h ∙ ap (λ (t : List ℕ). front ++ t) (append-nil s))

flat_push : (ys : List Item) (x : Item) → flat_map item_text (ys ++ x ∷ []) ≡ flat_map item_text ys ++ item_text x
flat_push [] x = append-nil (item_text x)
flat_push (y ∷ ys) x = rw (flat_push ys x) (sym (append_assoc (item_text y) (flat_map item_text ys) (item_text x)))

count_push : (ys : List Item) (x : Item) → length (ys ++ x ∷ []) ≡ length ys + 1
count_push ys x = length-append ys (x ∷ [])

one_open : (id : ℕ) (x : Item) → Some (record { id = id; count = 1; body = item_text x })
    ≡ open_of (Run id (x ∷ []) ∷ [])
one_open id x = rw (append-nil (item_text x)) refl

hold_one : (o : Option ℕ) (front closed : List ℕ) (p : Section) (x : Item)
    → closed ++ open_text (open_of (p ∷ [])) ≡ front ++ texts (p ∷ [])
    → Hold front (with_item_at o (record { closed = closed; current = open_of (p ∷ []) })
    (item_text x)) (pushed o (p ∷ []) x)
hold_one None front closed (Alone y) x h =
    record { bytes = runs_behind (closed ++ []) front (item_text y) (item_text x) h; last = refl }
hold_one None front closed (Run l ys) x h =
    record {
      bytes = runs_behind (closed ++ run_text l (length ys) (flat_map item_text ys)) front
          (run_text l (length ys) (flat_map item_text ys)) (item_text x) h;
      last = refl;
    }
hold_one (Some id) front closed (Alone y) x h =
    record {
      bytes = rw (append-nil (item_text x))
          (new_behind closed front (item_text y) (run_text id 1 (item_text x))
          (sym (append-nil closed) ∙ h));
      last = one_open id x;
    }
hold_one (Some id) front closed (Run l ys) x h =
    elim (eqb_tells l id) [
      | inl t ↦
          let e : closed ≡ front = same_front closed front (run_text l (length ys) (flat_map item_text ys)) h in
          rw t.0 (record {
            bytes = rw (flat_push ys x, count_push ys x, e) (ap
                (λ (r : List ℕ). front ++ r) (sym
                (append-nil (run_text l (length ys + 1) (flat_map item_text ys ++ item_text x)))));
            last = rw (flat_push ys x, count_push ys x) refl;
          })
      | inr t ↦
          rw t.0 (record {
            bytes = rw (append-nil (item_text x))
                (new_behind (closed ++ run_text l (length ys) (flat_map item_text ys)) front
                (run_text l (length ys) (flat_map item_text ys)) (run_text id 1 (item_text x)) h);
            last = one_open id x;
          })
    ]

pub hold_more : (o : Option ℕ) (front closed : List ℕ) (ps : List Section) (x : Item)
    → closed ++ open_text (open_of ps) ≡ front ++ texts ps
    → Hold front (with_item_at o (record { closed = closed; current = open_of ps }) (item_text x)) (pushed o ps x)
hold_more None front closed [] x h = record { bytes = rw h (simp (append_assoc, append-nil)); last = refl }
hold_more (Some id) front closed [] x h =
    let e : closed ≡ front = sym (append-nil closed) ∙ h ∙ append-nil front in
    record {
      bytes = rw (append-nil (item_text x), e) (ap
          (λ (r : List ℕ). front ++ r) (sym (append-nil (run_text id 1 (item_text x)))));
      last =
          one_open id x;
    }
hold_more o front closed (p ∷ []) x h = hold_one o front closed p x h
hold_more o front closed (p ∷ q ∷ ps) x h =
    let r = hold_more o (front ++ piece_text p) closed (q ∷ ps) x
    (h ∙ sym (append_assoc front (piece_text p) (texts (q ∷ ps)))) in
    let s = pushed_some o (q ∷ ps) x in
    record {
      bytes = r.bytes ∙ append_assoc front (piece_text p) (texts (pushed o (q ∷ ps) x));
      last = r.last ∙ sym (open_skip p s.0 (pushed o (q ∷ ps) x) s.1 s.2);
    }

pub sections_hold_more : (s : SectionsState) (xs : List Item) (x : Item) → SectionsHold s xs
    → SectionsHold (with_item s x) (xs ++ x ∷ [])
sections_hold_more s xs x h =
    let bytes : s.closed ++ open_text (open_of (runs xs)) ≡ preamble.text ++ texts (runs xs) =
    rw (← h.last, ← same_texts (runs xs)) h.bytes in
    let same : s ≡ record { closed = s.closed; current = open_of (runs xs) } = rw (← h.last) refl in
    let r = hold_more (collected x) preamble.text s.closed (runs xs) x bytes in
    record {
      bytes = rw (same_texts (runs (xs ++ x ∷ [])), same, runs_push xs x) r.bytes;
      last = rw (same, runs_push xs x) r.last;
    }
