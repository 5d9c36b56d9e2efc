-- Derived equality of trees of canonical functions is true exactly where they are seen as the same.
use Rattle.std.proofs.Common.{arith, ◌≡◌, refl, sym, ◌∙◌, ap, subst, Bool, false, true≢false, ◌&&◌, ℕ, ◌+◌, ◌<◌, ◌≤◌, nat_eq, List, [], ◌∷◌}
use Rattle.std.proofs.Common.{Option, Some, None, inl, inr}
use Rattle.std.proofs.lemmas.Bool.Decides.{Decides-and, Decides-like}
use Rattle.std.proofs.lemmas.Grind.{common_steps}
use Rattle.std.specs.Bool.{Decides, beq}
use Rattle.std.specs.Cmp.{booleans_Decides, unsigned_Decides}
use Rattle.std.specs.Cmp.Lexicographic.{pointwise}
use Rattle.std.specs.Option.{option_eq}
use Rattle.std.specs.declared.cmp.PartialEq.{Ghosts}
use denote.Enum.Compared.{Each, by}
use denote.Enum.Declared.{Choice}
use denote.RattleType.{RattleType}
use denote.Struct.Field.{Field as Part}
use denote.Struct.Values.{Values as Parts}
use mir.Syntax.{Dict}
use Rattle.wenc_base.specs.declared.types.ValType.{ValType}
use Rattle.wenc_base.specs.contracts.types.ValTypePartialEq.TheImpl.{eq-value as core_eq'}
use Rattle.wenc_parts.specs.declared.types.ComponentValType.{ComponentValType}
use Rattle.wenc_parts.specs.contracts.types.ComponentValTypePartialEq.TheImpl.{eq-value as value_eq'}
use Rattle.wenc_sections.specs.CanonTrees.{canon_of}
use Rattle.wenc_canon.specs.Canonicals as canon
use Rattle.wenc_canon.specs.Canonicals.{Field, Index, Options, Flag, Zero, CoreType, Results, Value, Values, row, Canonical, Lift, Lower, OfBuiltin}
use Rattle.wenc_sections.specs.declared.canon_tree.CanonOf.{CanonOf}
use Rattle.wenc_canon.specs.declared.canonicals.CanonicalOption.{CanonicalOption}
use Rattle.wenc_sections.specs.contracts.canon_tree.CanonOf.{enum}
use Rattle.wenc_sections.specs.contracts.canon_tree.CanonOfPartialEq.TheImpl.{eq-value}
use Rattle.wenc_canon.specs.contracts.canonicals.CanonicalOptionPartialEq.TheImpl.{eq-value as option_eq'}

-- the byte that a canonical function begins with
abbrev opcode_of : Canonical → ℕ
opcode_of (Lift function options type_index) = 0x00
opcode_of (Lower function options) = 0x01
opcode_of (OfBuiltin i values) = (row i).opcode

-- ---- a test that goes by variants

module _ {S : Type 0} (kind : S → ℕ) where
  -- a variant's values are of one kind, from n on, and its test tells whether two are seen alike
  record Variant (Fs : List Part) (test : Parts Fs → Parts Fs → Bool) (seen : Parts Fs → S) (n : ℕ) : Type 0 where
    k : ℕ
    is : (x : Parts Fs) → kind (seen x) ≡ k
    from : n ≤ k
    tells : (x y : Parts Fs) → Decides (test x y) (seen x ≡ seen y)

  -- so it is with all variants, one kind above the other
  abbrev Tells : (Fss : List (List Part)) → Each Bool Fss → (Choice Fss → S) → ℕ → Type 0
  Tells [] each seen n = Unit {0}
  Tells (Fs ∷ Fss) each seen n = (r : Variant Fs each.0 (λ x. seen (inl x)) n) × Tells Fss each.1 (λ c. seen (inr c)) (r.k + 1)

  from_there : (Fss : List (List Part)) (each : Each Bool Fss) (seen : Choice Fss → S) (n : ℕ) → Tells Fss each seen n → (c : Choice Fss) → n ≤ kind (seen c)
  from_there [] each seen n t c = absurd c
  from_there (Fs ∷ Fss) each seen n t (inl x) = omega (arith, t.0.is x, t.0.from)
  from_there (Fs ∷ Fss) each seen n t (inr c) = omega (arith, t.0.from, from_there Fss each.1 (λ d. seen (inr d)) (t.0.k + 1) t.1 c)

  apart : (s u : S) → kind s < kind u → Decides false (s ≡ u)
  apart s u lt = (λ e. absurd (true≢false (sym e)), λ e. absurd (omega (arith, lt, ap kind e)))

  apart_back : (s u : S) → kind u < kind s → Decides false (s ≡ u)
  apart_back s u lt = (λ e. absurd (true≢false (sym e)), λ e. absurd (omega (arith, lt, ap kind e)))

  by_decides : (Fss : List (List Part)) (each : Each Bool Fss) (seen : Choice Fss → S) (n : ℕ) → Tells Fss each seen n → (c d : Choice Fss)
      → Decides (by false false Fss each c d) (seen c ≡ seen d)
  by_decides [] each seen n t c d = absurd c
  by_decides (Fs ∷ Fss) each seen n t (inl x) (inl y) = t.0.tells x y
  by_decides (Fs ∷ Fss) each seen n t (inl x) (inr d) =
      apart (seen (inl x)) (seen (inr d)) (omega (arith, t.0.is x, from_there Fss each.1 (λ e. seen (inr e)) (t.0.k + 1) t.1 d))
  by_decides (Fs ∷ Fss) each seen n t (inr c) (inl y) =
      apart_back (seen (inr c)) (seen (inl y)) (omega (arith, t.0.is y, from_there Fss each.1 (λ e. seen (inr e)) (t.0.k + 1) t.1 c))
  by_decides (Fs ∷ Fss) each seen n t (inr c) (inr d) = by_decides Fss each.1 (λ e. seen (inr e)) (t.0.k + 1) t.1 c d

-- ---- fields

-- the fields of a canonical function, whatever it is
data GivenTree : Type 0 where
  Number : (n : ℕ) → GivenTree
  Chosen : (options : List CanonicalOption) → GivenTree
  Told : (b : Bool) → GivenTree
  Fixed : GivenTree
  Core : (t : ValType) → GivenTree
  Answer : (r : Option ComponentValType) → GivenTree

abbrev given_tree : (f : Field) → Value f → GivenTree
given_tree Index n = Number n
given_tree Options os = Chosen os
given_tree Flag b = Told b
given_tree Zero v = Fixed
given_tree CoreType t = Core t
given_tree Results r = Answer r

abbrev all_given : (fs : List Field) → Values fs → List GivenTree
all_given [] vs = []
all_given (f ∷ []) v = given_tree f v ∷ []
all_given (f ∷ g ∷ fs) vs = given_tree f vs.0 ∷ all_given (g ∷ fs) vs.1

abbrev tree_fields_of : Canonical → List GivenTree
tree_fields_of (Lift function options ty) = Number function ∷ Chosen options ∷ Number ty ∷ []
tree_fields_of (Lower function options) = Number function ∷ Chosen options ∷ []
tree_fields_of (OfBuiltin i values) = all_given (row i).fields values

-- ---- tests of fields

choices : (a b : CanonicalOption) → Decides (option_eq'.it a b) (a ≡ b)
choices a b = grind (arith, common_steps)

core_types : (a b : ValType) → Decides (core_eq'.it a b) (a ≡ b)
core_types a b = grind (arith, common_steps)

value_types : (a b : ComponentValType) → Decides (value_eq'.it a b) (a ≡ b)
value_types a b = grind (arith, common_steps)

answers : (r s : Option ComponentValType) → Decides (option_eq value_eq'.it r s) (r ≡ s)
answers None None = (λ e. refl, λ e. refl)
answers None (Some u) = (λ e. absurd cc, λ e. absurd cc)
answers (Some t) None = (λ e. absurd cc, λ e. absurd cc)
answers (Some t) (Some u) = Decides-like _ (λ e. cc) (λ e. cc) (value_types t u)

pub lists : (xs ys : List CanonicalOption) → Decides (pointwise option_eq'.it xs ys) (xs ≡ ys)
lists [] [] = (λ e. refl, λ e. refl)
lists [] (y ∷ ys) = (λ e. absurd cc, λ e. absurd cc)
lists (x ∷ xs) [] = (λ e. absurd cc, λ e. absurd cc)
lists (x ∷ xs) (y ∷ ys) = Decides-like _ (λ e. let here = e.0 in let there = e.1 in cc) (λ e. (cc, cc)) (Decides-and _ _ (choices x y) (lists xs ys))

-- ---- what fields tell

abbrev first : List GivenTree → GivenTree
first [] = Fixed
first (g ∷ gs) = g

abbrev second : List GivenTree → GivenTree
second [] = Fixed
second (g ∷ gs) = first gs

abbrev third : List GivenTree → GivenTree
third [] = Fixed
third (g ∷ gs) = second gs

same_number : (m n : ℕ) → Number m ≡ Number n → m ≡ n
same_number m n e = cc

same_chosen : (os ps : List CanonicalOption) → Chosen os ≡ Chosen ps → os ≡ ps
same_chosen os ps e = cc

same_told : (b c : Bool) → Told b ≡ Told c → b ≡ c
same_told b c e = cc

same_core : (t u : ValType) → Core t ≡ Core u → t ≡ u
same_core t u e = cc

same_answer : (r s : Option ComponentValType) → Answer r ≡ Answer s → r ≡ s
same_answer r s e = cc

-- what two equal functions have in common
common : (f g : Canonical) (gs hs : List GivenTree) → tree_fields_of f ≡ gs → tree_fields_of g ≡ hs → f ≡ g → gs ≡ hs
common f g gs hs p q e = sym p ∙ ap tree_fields_of e ∙ q

index_row : (c : ℕ → Canonical) → ((n : ℕ) → tree_fields_of (c n) ≡ Number n ∷ []) → (x y : ℕ) → Decides (nat_eq x y) (c x ≡ c y)
index_row c f x y = Decides-like _ (λ e. ap c e) (λ e. same_number x y (ap first (common (c x) (c y) _ _ (f x) (f y) e))) (unsigned_Decides x y)

-- an index after what is fixed
memory_row : (c : ℕ → Canonical) → ((n : ℕ) → tree_fields_of (c n) ≡ Fixed ∷ Number n ∷ []) → (x y : ℕ) → Decides (nat_eq x y) (c x ≡ c y)
memory_row c f x y = Decides-like _ (λ e. ap c e) (λ e. same_number x y (ap second (common (c x) (c y) _ _ (f x) (f y) e))) (unsigned_Decides x y)

flag_row : (c : Bool → Canonical) → ((b : Bool) → tree_fields_of (c b) ≡ Told b ∷ []) → (x y : Bool) → Decides (beq x y) (c x ≡ c y)
flag_row c f x y = Decides-like _ (λ e. ap c e) (λ e. same_told x y (ap first (common (c x) (c y) _ _ (f x) (f y) e))) (booleans_Decides x y)

-- two fields
module _ {T U V : Type 0} (one : T → GivenTree) (two : U → GivenTree) (same_one : (x y : T) → one x ≡ one y → x ≡ y)
    (same_two : (x y : U) → two x ≡ two y → x ≡ y)
    (eq : T → T → Bool) (eqs : (x y : T) → Decides (eq x y) (x ≡ y)) (sees : V → U) (fq : V → V → Bool)
    (fqs : (x y : V) → Decides (fq x y) (sees x ≡ sees y)) where
  two_rows : (c : T → U → Canonical) → ((t : T) (u : U) → tree_fields_of (c t u) ≡ one t ∷ two u ∷ []) → (t : T) (u : V) (v : T) (w : V)
      → Decides (eq t v && fq u w) (c t (sees u) ≡ c v (sees w))
  two_rows c f t u v w =
      Decides-like _ (λ e. let p = e.0 in let q = e.1 in cc)
      (λ e. let same = common (c t (sees u)) (c v (sees w)) _ _ (f t (sees u)) (f v (sees w)) e in
      (same_one t v (ap first same), same_two (sees u) (sees w) (ap second same)))
      (Decides-and _ _ (eqs t v) (fqs u w))

indices_row : (c : ℕ → ℕ → Canonical) → ((m n : ℕ) → tree_fields_of (c m n) ≡ Number m ∷ Number n ∷ []) → (m n k l : ℕ)
    → Decides (nat_eq m k && nat_eq n l) (c m n ≡ c k l)
indices_row = two_rows Number Number same_number same_number nat_eq unsigned_Decides (λ n. n) nat_eq unsigned_Decides

index_and_flag_row : (c : ℕ → Bool → Canonical) → ((n : ℕ) (b : Bool) → tree_fields_of (c n b) ≡ Number n ∷ Told b ∷ [])
    → (n : ℕ) (b : Bool) (k : ℕ) (d : Bool) → Decides (nat_eq n k && beq b d) (c n b ≡ c k d)
index_and_flag_row = two_rows Number Told same_number same_told nat_eq unsigned_Decides (λ b. b) beq booleans_Decides

type_and_index_row : (c : ValType → ℕ → Canonical) → ((t : ValType) (n : ℕ) → tree_fields_of (c t n) ≡ Core t ∷ Number n ∷ [])
    → (t : ValType) (n : ℕ) (u : ValType) (k : ℕ) → Decides (core_eq'.it t u && nat_eq n k) (c t n ≡ c u k)
type_and_index_row = two_rows Core Number same_core same_number core_eq'.it core_types (λ n. n) nat_eq unsigned_Decides

-- ---- the whole

-- rows, one after the other
infixr 10 ◌then◌
abbrev ◌then◌ : {T : Type 0} {U : T → Type 0} → (x : T) → U x → (y : T) × U y
x then u = (x, u)

abbrev row_at : (Fs : List Part) {test : Parts Fs → Parts Fs → Bool} {seen : Parts Fs → Canonical} {n : ℕ} (k : ℕ)
    → ((x : Parts Fs) → opcode_of (seen x) ≡ k) → n ≤ k → ((x y : Parts Fs) → Decides (test x y) (seen x ≡ seen y))
    → Variant opcode_of Fs test seen n
row_at Fs k is from tells = record { k = k; is = is; from = from; tells = tells }

-- where the options are seen as lists, and their test tells whether two are seen alike
module _ (O : RattleType) (os : Ghosts O.Denot) (d : Dict) (sees : O.Denot → List CanonicalOption)
    (tells : (x y : O.Denot) → Decides (os.eq x y) (sees x ≡ sees y)) where
  options_row : (c : List CanonicalOption → Canonical) → ((xs : List CanonicalOption) → tree_fields_of (c xs) ≡ Chosen xs ∷ [])
      → (x y : O.Denot) → Decides (os.eq x y) (c (sees x) ≡ c (sees y))
  options_row c f x y = Decides-like _ (λ e. ap c e)
      (λ e. same_chosen (sees x) (sees y) (ap first (common (c (sees x)) (c (sees y)) _ _ (f (sees x)) (f (sees y)) e))) (tells x y)

  index_and_options_row : (c : ℕ → List CanonicalOption → Canonical)
      → ((n : ℕ) (xs : List CanonicalOption) → tree_fields_of (c n xs) ≡ Number n ∷ Chosen xs ∷ [])
      → (n : ℕ) (x : O.Denot) (k : ℕ) (y : O.Denot) → Decides (nat_eq n k && os.eq x y) (c n (sees x) ≡ c k (sees y))
  index_and_options_row = two_rows Number Chosen same_number same_chosen nat_eq unsigned_Decides sees os.eq tells

  results_and_options_row : (c : Option ComponentValType → List CanonicalOption → Canonical)
      → ((r : Option ComponentValType) (xs : List CanonicalOption) → tree_fields_of (c r xs) ≡ Answer r ∷ Chosen xs ∷ [])
      → (r : Option ComponentValType) (x : O.Denot) (s : Option ComponentValType) (y : O.Denot)
      → Decides (option_eq value_eq'.it r s && os.eq x y) (c r (sees x) ≡ c s (sees y))
  results_and_options_row =
      two_rows Answer Chosen same_answer same_chosen (option_eq value_eq'.it) answers sees os.eq tells

  lifted_row : (f t : ℕ) (x : O.Denot) (g u : ℕ) (y : O.Denot)
      → Decides (nat_eq f g && (nat_eq t u && os.eq x y)) (Lift f (sees x) t ≡ Lift g (sees y) u)
  lifted_row f t x g u y =
      Decides-like _ (λ e. let p = e.0 in let q = e.1.0 in let r = e.1.1 in cc) (λ e. (cc, (cc, cc)))
      (Decides-and _ _ (unsigned_Decides f g) (Decides-and _ _ (unsigned_Decides t u) (tells x y)))

  abbrev Parts_of : List (List Part)
  Parts_of = (enum O).parts

  abbrev seen : Choice Parts_of → Canonical
  seen c = canon_of sees ((enum O).make c)

  pub trees : (a b : CanonOf O.Denot) → Decides ((eq-value O os d).it a b) (canon_of sees a ≡ canon_of sees b)
  trees a b =
      let same : Decides ((eq-value O os d).it a b) (seen ((enum O).as_values a) ≡ seen ((enum O).as_values b)) =
      by_decides opcode_of Parts_of _ seen 0 (
      row_at _ 0x00 (λ x. refl) (omega arith) (λ x y. lifted_row x.0 x.1.0 x.1.1.0 y.0 y.1.0 y.1.1.0) then
      row_at _ 0x01 (λ x. refl) (omega arith) (λ x y. index_and_options_row (λ n os. Lower n os) (λ n os. refl) x.0 x.1.0 y.0 y.1.0) then
      row_at _ 0x02 (λ x. refl) (omega arith) (λ x y. index_row (OfBuiltin canon.ResourceNew) (λ n. refl) x.0 y.0) then
      row_at _ 0x03 (λ x. refl) (omega arith) (λ x y. index_row (OfBuiltin canon.ResourceDrop) (λ n. refl) x.0 y.0) then
      row_at _ 0x04 (λ x. refl) (omega arith) (λ x y. index_row (OfBuiltin canon.ResourceRep) (λ n. refl) x.0 y.0) then
      row_at _ 0x05 (λ x. refl) (omega arith) (λ x y. (λ e. refl, λ e. refl)) then
      row_at _ 0x06 (λ x. refl) (omega arith) (λ x y. flag_row (OfBuiltin canon.SubtaskCancel) (λ b. refl) x.0 y.0) then
      row_at _ 0x09 (λ x. refl) (omega arith) (λ x y. results_and_options_row (λ r os. OfBuiltin canon.TaskReturn (r, os))
      (λ r os. refl) x.0 x.1.0 y.0 y.1.0) then
      row_at _ 0x0a (λ x. refl) (omega arith) (λ x y. type_and_index_row (λ t n. OfBuiltin canon.ContextGet (t, n)) (λ t n. refl) x.0 x.1.0 y.0 y.1.0) then
      row_at _ 0x0b (λ x. refl) (omega arith) (λ x y. type_and_index_row (λ t n. OfBuiltin canon.ContextSet (t, n)) (λ t n. refl) x.0 x.1.0 y.0 y.1.0) then
      row_at _ 0x0c (λ x. refl) (omega arith) (λ x y. (λ e. refl, λ e. refl)) then
      row_at _ 0x0d (λ x. refl) (omega arith) (λ x y. (λ e. refl, λ e. refl)) then
      row_at _ 0x0e (λ x. refl) (omega arith) (λ x y. index_row (OfBuiltin canon.StreamNew) (λ n. refl) x.0 y.0) then
      row_at _ 0x0f (λ x. refl) (omega arith) (λ x y. index_and_options_row (λ n os. OfBuiltin canon.StreamRead (n, os))
      (λ n os. refl) x.0 x.1.0 y.0 y.1.0) then
      row_at _ 0x10 (λ x. refl) (omega arith) (λ x y. index_and_options_row (λ n os. OfBuiltin canon.StreamWrite (n, os))
      (λ n os. refl) x.0 x.1.0 y.0 y.1.0) then
      row_at _ 0x11 (λ x. refl) (omega arith) (λ x y. index_and_flag_row (λ n b. OfBuiltin canon.StreamCancelRead (n, b))
      (λ n b. refl) x.0 x.1.0 y.0 y.1.0) then
      row_at _ 0x12 (λ x. refl) (omega arith) (λ x y. index_and_flag_row (λ n b. OfBuiltin canon.StreamCancelWrite (n, b))
      (λ n b. refl) x.0 x.1.0 y.0 y.1.0) then
      row_at _ 0x13 (λ x. refl) (omega arith) (λ x y. index_row (OfBuiltin canon.StreamDropReadable) (λ n. refl) x.0 y.0) then
      row_at _ 0x14 (λ x. refl) (omega arith) (λ x y. index_row (OfBuiltin canon.StreamDropWritable) (λ n. refl) x.0 y.0) then
      row_at _ 0x15 (λ x. refl) (omega arith) (λ x y. index_row (OfBuiltin canon.FutureNew) (λ n. refl) x.0 y.0) then
      row_at _ 0x16 (λ x. refl) (omega arith) (λ x y. index_and_options_row (λ n os. OfBuiltin canon.FutureRead (n, os))
      (λ n os. refl) x.0 x.1.0 y.0 y.1.0) then
      row_at _ 0x17 (λ x. refl) (omega arith) (λ x y. index_and_options_row (λ n os. OfBuiltin canon.FutureWrite (n, os))
      (λ n os. refl) x.0 x.1.0 y.0 y.1.0) then
      row_at _ 0x18 (λ x. refl) (omega arith) (λ x y. index_and_flag_row (λ n b. OfBuiltin canon.FutureCancelRead (n, b))
      (λ n b. refl) x.0 x.1.0 y.0 y.1.0) then
      row_at _ 0x19 (λ x. refl) (omega arith) (λ x y. index_and_flag_row (λ n b. OfBuiltin canon.FutureCancelWrite (n, b))
      (λ n b. refl) x.0 x.1.0 y.0 y.1.0) then
      row_at _ 0x1a (λ x. refl) (omega arith) (λ x y. index_row (OfBuiltin canon.FutureDropReadable) (λ n. refl) x.0 y.0) then
      row_at _ 0x1b (λ x. refl) (omega arith) (λ x y. index_row (OfBuiltin canon.FutureDropWritable) (λ n. refl) x.0 y.0) then
      row_at _ 0x1c (λ x. refl) (omega arith) (λ x y. options_row (OfBuiltin canon.ErrorContextNew) (λ os. refl) x.0 y.0) then
      row_at _ 0x1d (λ x. refl) (omega arith) (λ x y. options_row (OfBuiltin canon.ErrorContextDebugMessage) (λ os. refl) x.0 y.0) then
      row_at _ 0x1e (λ x. refl) (omega arith) (λ x y. (λ e. refl, λ e. refl)) then
      row_at _ 0x1f (λ x. refl) (omega arith) (λ x y. (λ e. refl, λ e. refl)) then
      row_at _ 0x20 (λ x. refl) (omega arith) (λ x y. memory_row (λ n. OfBuiltin canon.WaitableSetWait (tt, n)) (λ n. refl) x.0 y.0) then
      row_at _ 0x21 (λ x. refl) (omega arith) (λ x y. memory_row (λ n. OfBuiltin canon.WaitableSetPoll (tt, n)) (λ n. refl) x.0 y.0) then
      row_at _ 0x22 (λ x. refl) (omega arith) (λ x y. (λ e. refl, λ e. refl)) then
      row_at _ 0x23 (λ x. refl) (omega arith) (λ x y. (λ e. refl, λ e. refl)) then
      row_at _ 0x24 (λ x. refl) (omega arith) (λ x y. (λ e. refl, λ e. refl)) then
      row_at _ 0x25 (λ x. refl) (omega arith) (λ x y. (λ e. refl, λ e. refl)) then
      row_at _ 0x26 (λ x. refl) (omega arith) (λ x y. (λ e. refl, λ e. refl)) then
      row_at _ 0x27 (λ x. refl) (omega arith) (λ x y. indices_row (λ m n. OfBuiltin canon.ThreadNewIndirect (m, n)) (λ m n. refl) x.0 x.1.0 y.0 y.1.0) then
      row_at _ 0x28 (λ x. refl) (omega arith) (λ x y. (λ e. refl, λ e. refl)) then
      row_at _ 0x29 (λ x. refl) (omega arith) (λ x y. (λ e. refl, λ e. refl)) then
      row_at _ 0x2a (λ x. refl) (omega arith) (λ x y. (λ e. refl, λ e. refl)) then
      row_at _ 0x2b (λ x. refl) (omega arith) (λ x y. (λ e. refl, λ e. refl)) then
      row_at _ 0x2c (λ x. refl) (omega arith) (λ x y. (λ e. refl, λ e. refl)) then
      row_at _ 0x2d (λ x. refl) (omega arith) (λ x y. (λ e. refl, λ e. refl)) then
      row_at _ 0x2e (λ x. refl) (omega arith) (λ x y. index_row (OfBuiltin canon.StreamForward) (λ n. refl) x.0 y.0) then
      row_at _ 0x2f (λ x. refl) (omega arith) (λ x y. index_row (OfBuiltin canon.FutureForward) (λ n. refl) x.0 y.0) then
      row_at _ 0x40 (λ x. refl) (omega arith) (λ x y. index_row (OfBuiltin canon.ThreadSpawnRef) (λ n. refl) x.0 y.0) then
      row_at _ 0x41 (λ x. refl) (omega arith) (λ x y. indices_row (λ m n. OfBuiltin canon.ThreadSpawnIndirect (m, n)) (λ m n. refl) x.0 x.1.0 y.0 y.1.0) then
      row_at _ 0x42 (λ x. refl) (omega arith) (λ x y. (λ e. refl, λ e. refl)) then
      tt
      ) ((enum O).as_values a) ((enum O).as_values b) in
      let P : CanonOf O.Denot → CanonOf O.Denot → Type 0 = λ v w. Decides ((eq-value O os d).it a b) (canon_of sees v ≡ canon_of sees w) in
      subst (λ (w : CanonOf O.Denot). P a w) ((enum O).eta b)
      (subst (λ (v : CanonOf O.Denot). P v ((enum O).make ((enum O).as_values b))) ((enum O).eta a) same)
