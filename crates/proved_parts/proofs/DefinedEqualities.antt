-- Derived equality of types of values is true exactly where they are seen as the same.
use Rattle.std.proofs.Common.{arith, ◌≡◌, refl, sym, ◌∙◌, ap, Bool, true, false, true≢false, ◌&&◌, ℕ, nat_eq, List, [], ◌∷◌, map, Option, Some, None, String}
use Rattle.std.proofs.lemmas.Bool.Decides.{Decides-and, Decides-like, nat_tests}
use Rattle.std.proofs.lemmas.Grind.{common_steps}
use Rattle.std.proofs.lemmas.Slice.Eq.{bytes_eq-Decides}
use Rattle.std.specs.Bool.{Decides}
use Rattle.std.specs.Cmp.{unsigned_Decides}
use Rattle.std.specs.Option.{option_eq}
use Rattle.std.specs.declared.alloc.Allocator.{Ghosts}
use Rattle.std.specs.Str.{bytes_eq}
use Rattle.std.specs.String.{string_bytes}
use denote.RattleType.{RattleType}
use mir.Syntax.{Dict}
use Rattle.wenc_parts.specs.contracts.types.ComponentValTypePartialEq.TheImpl.{eq-value as value_eq'}
use Rattle.wenc_parts.specs.contracts.types.PrimitiveValTypePartialEq.TheImpl.{eq-value as primitive_eq'}
use Rattle.wenc_types.specs.Prelude.{Borrow, Case, DefValType, Enumeration, FixedLengthList, Flags}
use Rattle.wenc_types.specs.Prelude.{Future, LabelledType, ListOf, MapOf, OptionOf, Own, Primitive}
use Rattle.wenc_types.specs.Prelude.{Record, ResultOf, Stream, Tuple, Variant, case_view}
use Rattle.wenc_types.specs.Prelude.{defined_view, labelled_type_view}
use Rattle.wenc_parts.specs.declared.types.ComponentValType.{ComponentValType}
use Rattle.wenc_parts.specs.declared.types.PrimitiveValType.{PrimitiveValType}
use Rattle.wenc_types.specs.declared.defined_tree.CaseTree.{CaseTree}
use Rattle.wenc_types.specs.declared.defined_tree.DefinedTree.{DefinedTree}
use Rattle.wenc_types.specs.declared.defined_tree.DefinedTree.TheVariants as trees
use Rattle.wenc_types.specs.contracts.defined_tree.CaseTreePartialEq.TheImpl.{eq-value as case_eq'}
use Rattle.wenc_types.specs.contracts.defined_tree.DefinedTreePartialEq.TheImpl.{eq-value as defined_eq'}
use Rattle.proved_parts.proofs.Equalities.{both, lists, same_lists}

-- ---- of parts

primitives : (p q : PrimitiveValType) → Decides (primitive_eq'.it p q) (p ≡ q)
primitives p q = grind (arith, common_steps)

values : (t u : ComponentValType) → Decides (value_eq'.it t u) (t ≡ u)
values t u = grind (arith, common_steps)

options : (o p : Option ComponentValType) → Decides (option_eq value_eq'.it o p) (o ≡ p)
options None None = (λ e. refl, λ e. refl)
options None (Some u) = (λ e. absurd cc, λ e. absurd cc)
options (Some t) None = (λ e. absurd cc, λ e. absurd cc)
options (Some t) (Some u) = Decides-like _ (λ e. cc) (λ e. cc) (values t u)

texts : {A : Type 0} (m n : String A) → Decides (bytes_eq (string_bytes m) (string_bytes n)) (string_bytes m ≡ string_bytes n)
texts m n = bytes_eq-Decides (string_bytes m) (string_bytes n)

nameds : {A : Type 0} (f g : String A × ComponentValType) → Decides (bytes_eq (string_bytes f.0) (string_bytes g.0) && value_eq'.it f.1 g.1)
    (labelled_type_view f ≡ labelled_type_view g)
nameds f g = both _ _ (texts f.0 g.0) (values f.1 g.1) (λ p q. cc) (λ e. ap (λ (n : LabelledType). n.name) e) (λ e. ap (λ (n : LabelledType). n.ty) e)

cases : (A : RattleType) (al : Ghosts A.Denot) (d e : Dict) (c k : CaseTree A.Denot) → Decides ((case_eq' A al d e).it c k) (case_view c ≡ case_view k)
cases A al d e c k = both _ _ (texts c.name k.name) (options c.ty k.ty) (λ p q. cc) (λ e. ap (λ (n : Case). n.name) e) (λ e. ap (λ (n : Case). n.ty) e)

-- ---- the whole

-- which kind a type is of
abbrev kind : DefValType → ℕ
kind (Primitive ty) = 0
kind (Record fields) = 1
kind (Variant cases) = 2
kind (ListOf element) = 3
kind (MapOf key value) = 4
kind (FixedLengthList element length) = 5
kind (Tuple elements) = 6
kind (Flags names) = 7
kind (Enumeration names) = 8
kind (OptionOf ty) = 9
kind (ResultOf ok error) = 10
kind (Own number) = 11
kind (Borrow number) = 12
kind (Future ty) = 13
kind (Stream ty) = 14

same_kind : (n : ℕ) → nat_eq n n ≡ true
same_kind n = grind (arith, nat_tests)

-- types of other kinds are others
differ : (x y : DefValType) → nat_eq (kind x) (kind y) ≡ false → Decides false (x ≡ y)
differ x y e = (λ q. absurd (true≢false (sym q)), λ s. absurd (true≢false (sym (same_kind (kind y)) ∙ rw s at e)))

pub defined_types : (A : RattleType) (al : Ghosts A.Denot) (d e : Dict) (a b : DefinedTree A.Denot)
    → Decides ((defined_eq' A al d e).it a b) (defined_view a ≡ defined_view b)
defined_types A al d e (trees.Primitive p) (trees.Primitive p') = Decides-like _ (λ q. cc) (λ q. cc) (primitives p p')
defined_types A al d e (trees.Primitive p) other = differ _ _ refl
defined_types A al d e (trees.Record v) (trees.Record v') = Decides-like _ (λ q. cc) (λ q. cc) (lists _ labelled_type_view nameds v.items v'.items)
defined_types A al d e (trees.Record v) other = differ _ _ refl
defined_types A al d e (trees.Variant v) (trees.Variant v') =
    Decides-like _ (λ q. cc) (λ q. cc) (lists (case_eq' A al d e).it case_view (cases A al d e) v.items v'.items)
defined_types A al d e (trees.Variant v) other = differ _ _ refl
defined_types A al d e (trees.List t) (trees.List t') = Decides-like _ (λ q. cc) (λ q. cc) (values t t')
defined_types A al d e (trees.List t) other = differ _ _ refl
defined_types A al d e (trees.Map k t) (trees.Map k' t') = both _ _ (values k k') (values t t') (λ q r. cc) (λ q. cc) (λ q. cc)
defined_types A al d e (trees.Map k t) other = differ _ _ refl
defined_types A al d e (trees.FixedLengthList t n) (trees.FixedLengthList t' n') =
    both _ _ (values t t') (unsigned_Decides n n') (λ q r. cc) (λ q. cc) (λ q. cc)
defined_types A al d e (trees.FixedLengthList t n) other = differ _ _ refl
defined_types A al d e (trees.Tuple v) (trees.Tuple v') = Decides-like _ (λ q. cc) (λ q. cc) (same_lists value_eq'.it values v.items v'.items)
defined_types A al d e (trees.Tuple v) other = differ _ _ refl
defined_types A al d e (trees.Flags v) (trees.Flags v') = Decides-like _ (λ q. cc) (λ q. cc) (lists _ string_bytes texts v.items v'.items)
defined_types A al d e (trees.Flags v) other = differ _ _ refl
defined_types A al d e (trees.Enum v) (trees.Enum v') = Decides-like _ (λ q. cc) (λ q. cc) (lists _ string_bytes texts v.items v'.items)
defined_types A al d e (trees.Enum v) other = differ _ _ refl
defined_types A al d e (trees.Option t) (trees.Option t') = Decides-like _ (λ q. cc) (λ q. cc) (values t t')
defined_types A al d e (trees.Option t) other = differ _ _ refl
defined_types A al d e (trees.Result o f) (trees.Result o' f') = both _ _ (options o o') (options f f') (λ q r. cc) (λ q. cc) (λ q. cc)
defined_types A al d e (trees.Result o f) other = differ _ _ refl
defined_types A al d e (trees.Own n) (trees.Own n') = Decides-like _ (λ q. cc) (λ q. cc) (unsigned_Decides n n')
defined_types A al d e (trees.Own n) other = differ _ _ refl
defined_types A al d e (trees.Borrow n) (trees.Borrow n') = Decides-like _ (λ q. cc) (λ q. cc) (unsigned_Decides n n')
defined_types A al d e (trees.Borrow n) other = differ _ _ refl
defined_types A al d e (trees.Future o) (trees.Future o') = Decides-like _ (λ q. cc) (λ q. cc) (options o o')
defined_types A al d e (trees.Future o) other = differ _ _ refl
defined_types A al d e (trees.Stream o) (trees.Stream o') = Decides-like _ (λ q. cc) (λ q. cc) (options o o')
defined_types A al d e (trees.Stream o) other = differ _ _ refl
