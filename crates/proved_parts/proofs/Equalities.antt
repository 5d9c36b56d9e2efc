-- Derived equality is true exactly where the values are the same: a lemma for each type, from its
-- parts up.
use Rattle.std.proofs.Common.{arith, ◌≡◌, refl, ap, Bool, ◌&&◌, ℕ, List, [], ◌∷◌, map, Option, nat_eq}
use Rattle.std.proofs.lemmas.Bool.Decides.{Decides-and, Decides-like}
use Rattle.std.proofs.lemmas.Grind.{common_steps}
use Rattle.std.specs.Bool.{Decides}
use Rattle.std.specs.Cmp.{booleans_Decides, unsigned_Decides}
use Rattle.std.specs.Option.{option_eq}
use Rattle.std.specs.Cmp.Lexicographic.{pointwise}
use Rattle.std.specs.declared.alloc.Allocator.{Ghosts}
use Rattle.std.proofs.lemmas.Slice.Eq.{bytes_eq-Decides}
use Rattle.std.specs.String.{string_bytes}
use denote.RattleType.{RattleType}
use mir.Syntax.{Dict}
use Rattle.wenc_base.specs.Prelude.{Composite, Sub, composite_view, func_type_view, params_of}
use Rattle.wenc_base.specs.Prelude.{rec_type_view, results_of, structure_view, sub_view}
use Rattle.wenc_base.specs.declared.types.composite.CompositeType.TheVariants as kinds
use Rattle.wenc_base.specs.declared.types.groups.GroupTree.TheVariants as trees
use Rattle.wenc_base.specs.declared.imports.EntityType.TheVariants as externals
use Rattle.wenc_types.specs.Prelude.{core_type_view, module_declaration_view}
use Rattle.wenc_base.specs.declared.types.composite.ArrayType.{ArrayType}
use Rattle.wenc_base.specs.declared.types.composite.CompositeType.{CompositeType}
use Rattle.wenc_base.specs.declared.imports.EntityType.{EntityType}
use Rattle.wenc_base.specs.declared.types.storage.FieldType.{FieldType}
use Rattle.wenc_base.specs.declared.types.composite.FuncType.{FuncType}
use Rattle.wenc_base.specs.declared.globals.GlobalType.{GlobalType}
use Rattle.wenc_base.specs.declared.types.groups.GroupTree.{GroupTree}
use Rattle.wenc_base.specs.declared.memories.MemoryType.{MemoryType}
use Rattle.wenc_base.specs.declared.types.RefType.{RefType}
use Rattle.wenc_base.specs.declared.types.storage.StorageType.{StorageType}
use Rattle.wenc_base.specs.declared.types.composite.StructType.{StructType}
use Rattle.wenc_base.specs.declared.types.sub.SubType.{SubType}
use Rattle.wenc_base.specs.declared.tables.TableType.{TableType}
use Rattle.wenc_base.specs.declared.tags.TagType.{TagType}
use Rattle.wenc_base.specs.declared.types.ValType.{ValType}
use Rattle.wenc_types.specs.declared.core_type_tree.CoreTypeTree.{CoreTypeTree}
use Rattle.wenc_types.specs.declared.core_type_tree.ModuleDecl.{ModuleDecl}
use Rattle.wenc_types.specs.declared.core_type_tree.ModuleDecl.TheVariants as decls
use Rattle.wenc_types.specs.declared.core_type_tree.CoreTypeTree.TheVariants as cores
use Rattle.wenc_base.specs.contracts.types.RefTypePartialEq.TheImpl.{eq-value as ref_eq'}
use Rattle.wenc_base.specs.contracts.types.ValTypePartialEq.TheImpl.{eq-value as value_eq'}
use Rattle.wenc_base.specs.contracts.types.storage.StorageTypePartialEq.TheImpl.{eq-value as storage_eq'}
use Rattle.wenc_base.specs.contracts.types.storage.FieldTypePartialEq.TheImpl.{eq-value as field_eq'}
use Rattle.wenc_base.specs.contracts.types.composite.ArrayTypePartialEq.TheImpl.{eq-value as array_eq'}
use Rattle.wenc_base.specs.contracts.types.composite.FuncTypePartialEq.TheImpl.{eq-value as function_eq'}
use Rattle.wenc_base.specs.contracts.types.composite.StructTypePartialEq.TheImpl.{eq-value as structure_eq'}
use Rattle.wenc_base.specs.contracts.types.composite.CompositeTypePartialEq.TheImpl.{eq-value as composite_eq'}
use Rattle.wenc_base.specs.contracts.types.sub.SubTypePartialEq.TheImpl.{eq-value as sub_eq'}
use Rattle.wenc_base.specs.contracts.types.groups.GroupTreePartialEq.TheImpl.{eq-value as group_eq'}
use Rattle.wenc_base.specs.contracts.tables.TableTypePartialEq.TheImpl.{eq-value as table_eq'}
use Rattle.wenc_base.specs.contracts.memories.MemoryTypePartialEq.TheImpl.{eq-value as memory_eq'}
use Rattle.wenc_base.specs.contracts.globals.GlobalTypePartialEq.TheImpl.{eq-value as global_eq'}
use Rattle.wenc_base.specs.contracts.tags.TagTypePartialEq.TheImpl.{eq-value as tag_eq'}
use Rattle.wenc_base.specs.contracts.imports.EntityTypePartialEq.TheImpl.{eq-value as entity_eq'}
use Rattle.wenc_types.specs.contracts.core_type_tree.ModuleDeclPartialEq.TheImpl.{eq-value as declaration_eq'}
use Rattle.wenc_types.specs.contracts.core_type_tree.CoreTypeTreePartialEq.TheImpl.{eq-value as core_type_eq'}

-- ---- of parts

-- two tests, which tell two things, tell what these two say together
pub both : {P Q R : Type 0} (x y : Bool) → Decides x P → Decides y Q → (P → Q → R) → (R → P) → (R → Q) → Decides (x && y) R
both x y one two joined first second = Decides-like (x && y) (λ p. joined p.0 p.1) (λ r. (first r, second r)) (Decides-and x y one two)

pub options : (o p : Option ℕ) → Decides (option_eq nat_eq o p) (o ≡ p)
options o p = grind (arith, common_steps)

-- ---- the types of values

pub references : (a b : RefType) → Decides (ref_eq'.it a b) (a ≡ b)
references a b = grind (arith, common_steps)

pub values : (a b : ValType) → Decides (value_eq'.it a b) (a ≡ b)
values a b = grind (arith, common_steps)

-- ---- composite types

pub storages : (a b : StorageType) → Decides (storage_eq'.it a b) (a ≡ b)
storages a b = grind (arith, common_steps)

abbrev field : StorageType → Bool → FieldType
field element_type mutable = record { element_type = element_type; mutable = mutable }

same_field : (s t : StorageType) (m n : Bool) → s ≡ t → m ≡ n → field s m ≡ field t n
same_field s t m n p q = rw (p, q) refl

pub fields : (a b : FieldType) → Decides (field_eq'.it a b) (a ≡ b)
fields a b = both _ _ (storages a.element_type b.element_type) (booleans_Decides a.mutable b.mutable) (same_field _ _ _ _)
    (λ e. ap (λ (f : FieldType). f.element_type) e) (λ e. ap (λ (f : FieldType). f.mutable) e)

abbrev array : FieldType → ArrayType
array f = record { 0 = f }

pub arrays : (a b : ArrayType) → Decides (array_eq'.it a b) (a ≡ b)
arrays a b = Decides-like _ (λ e. ap array e) (λ e. ap (λ (f : ArrayType). f.0) e) (fields a.0 b.0)

-- ---- the types of what modules import

abbrev table : RefType → Bool → ℕ → Option ℕ → TableType
table element_type long minimum maximum = record { element_type = element_type; table64 = long; minimum = minimum; maximum = maximum }

same_table : (r s : RefType) (l k : Bool) (m n : ℕ) (o p : Option ℕ) → r ≡ s → (l ≡ k) × ((m ≡ n) × (o ≡ p)) → table r l m o ≡ table s k n p
same_table r s l k m n o p e f = rw (e, f.0, f.1.0, f.1.1) refl

pub tables : (a b : TableType) → Decides (table_eq'.it a b) (a ≡ b)
tables a b =
    both _ _ (references a.element_type b.element_type)
    (Decides-and _ _ (booleans_Decides a.table64 b.table64) (Decides-and _ _ (unsigned_Decides a.minimum b.minimum) (options a.maximum b.maximum)))
    (same_table _ _ _ _ _ _ _ _)
    (λ e. ap (λ (t : TableType). t.element_type) e)
    (λ e. (ap (λ (t : TableType). t.table64) e, (ap (λ (t : TableType). t.minimum) e, ap (λ (t : TableType). t.maximum) e)))

pub memories : (a b : MemoryType) → Decides (memory_eq'.it a b) (a ≡ b)
memories a b = grind (arith, common_steps)

abbrev global : ValType → Bool → GlobalType
global val_type mutable = record { val_type = val_type; mutable = mutable }

same_global : (s t : ValType) (m n : Bool) → s ≡ t → m ≡ n → global s m ≡ global t n
same_global s t m n p q = rw (p, q) refl

pub globals : (a b : GlobalType) → Decides (global_eq'.it a b) (a ≡ b)
globals a b = both _ _ (values a.val_type b.val_type) (booleans_Decides a.mutable b.mutable) (same_global _ _ _ _)
    (λ e. ap (λ (g : GlobalType). g.val_type) e) (λ e. ap (λ (g : GlobalType). g.mutable) e)

pub tags : (a b : TagType) → Decides (tag_eq'.it a b) (a ≡ b)
tags a b = grind (arith, common_steps)

pub entities : (a b : EntityType) → Decides (entity_eq'.it a b) (a ≡ b)
entities (externals.Function m) (externals.Function n) = Decides-like _ (λ e. ap externals.Function e) (λ e. cc) (unsigned_Decides m n)
entities (externals.Table x) (externals.Table y) = Decides-like _ (λ e. ap externals.Table e) (λ e. cc) (tables x y)
entities (externals.Memory x) (externals.Memory y) = Decides-like _ (λ e. cc) (λ e. cc) (memories x y)
entities (externals.Global x) (externals.Global y) = Decides-like _ (λ e. cc) (λ e. cc) (globals x y)
entities (externals.Tag x) (externals.Tag y) = Decides-like _ (λ e. cc) (λ e. cc) (tags x y)
entities one other = (λ e. absurd cc, λ e. absurd cc)

-- ---- lists

-- where each two members are equal exactly if they are seen alike, so are lists of them
pub lists : {A S : Type 0} (eq : A → A → Bool) (seen : A → S) → ((a b : A) → Decides (eq a b) (seen a ≡ seen b)) → (xs ys : List A)
    → Decides (pointwise eq xs ys) (map seen xs ≡ map seen ys)
lists eq seen each [] [] = (λ e. refl, λ e. refl)
lists eq seen each [] (y ∷ ys) = (λ e. absurd cc, λ e. absurd cc)
lists eq seen each (x ∷ xs) [] = (λ e. absurd cc, λ e. absurd cc)
lists eq seen each (x ∷ xs) (y ∷ ys) = both _ _ (each x y) (lists eq seen each xs ys) (λ p q. cc) (λ e. cc) (λ e. cc)

pub same_lists : {A : Type 0} (eq : A → A → Bool) → ((a b : A) → Decides (eq a b) (a ≡ b)) → (xs ys : List A) → Decides (pointwise eq xs ys) (xs ≡ ys)
same_lists eq each [] [] = (λ e. refl, λ e. refl)
same_lists eq each [] (y ∷ ys) = (λ e. absurd cc, λ e. absurd cc)
same_lists eq each (x ∷ xs) [] = (λ e. absurd cc, λ e. absurd cc)
same_lists eq each (x ∷ xs) (y ∷ ys) = both _ _ (each x y) (same_lists eq each xs ys) (λ p q. cc) (λ e. cc) (λ e. cc)

-- ---- types with lists, by what is seen of them

pub functions : (A : RattleType) (al : Ghosts A.Denot) (d e : Dict) (f g : FuncType A.Denot)
    → Decides ((function_eq' A al d e).it f g) (func_type_view f ≡ func_type_view g)
functions A al d e f g =
    both _ _ (same_lists value_eq'.it values (params_of f) (params_of g)) (same_lists value_eq'.it values (results_of f) (results_of g))
    (λ p q. cc) (λ e. cc) (λ e. cc)

pub structures : (A : RattleType) (al : Ghosts A.Denot) (d e : Dict) (s t : StructType A.Denot)
    → Decides ((structure_eq' A al d e).it s t) (structure_view s ≡ structure_view t)
structures A al d e s t = Decides-like _ (λ p. cc) (λ e. cc) (same_lists field_eq'.it fields s.fields.items t.fields.items)

pub composites : (A : RattleType) (al : Ghosts A.Denot) (d e : Dict) (c k : CompositeType A.Denot)
    → Decides ((composite_eq' A al d e).it c k) (composite_view c ≡ composite_view k)
composites A al d e (kinds.Func x) (kinds.Func y) = functions A al d e x y
composites A al d e (kinds.Array x) (kinds.Array y) = Decides-like _ (λ e. cc) (λ e. cc) (fields x.0 y.0)
composites A al d e (kinds.Struct x) (kinds.Struct y) = structures A al d e x y
composites A al d e one other = (λ e. absurd cc, λ e. absurd cc)

abbrev sub : Bool → Option ℕ → Composite → Sub
sub is_final supertype composite = record { is_final = is_final; supertype = supertype; composite = composite }

same_sub : (k l : Bool) (o p : Option ℕ) (b c : Composite) → k ≡ l → (o ≡ p) × (b ≡ c) → sub k o b ≡ sub l p c
same_sub k l o p b c e f = rw (e, f.0, f.1) refl

pub subs : (A : RattleType) (al : Ghosts A.Denot) (d e : Dict) (s t : SubType A.Denot) → Decides ((sub_eq' A al d e).it s t) (sub_view s ≡ sub_view t)
subs A al d e s t =
    both _ _ (booleans_Decides s.is_final t.is_final)
    (Decides-and _ _ (options s.supertype_idx t.supertype_idx) (composites A al d e s.composite_type t.composite_type))
    (same_sub _ _ _ _ _ _)
    (λ e. ap (λ (u : Sub). u.is_final) e)
    (λ e. (ap (λ (u : Sub). u.supertype) e, ap (λ (u : Sub). u.composite) e))

pub groups : (A : RattleType) (al : Ghosts A.Denot) (d e : Dict) (g h : GroupTree A.Denot)
    → Decides ((group_eq' A al d e).it g h) (rec_type_view g ≡ rec_type_view h)
groups A al d e (trees.Sub s) (trees.Sub t) = Decides-like _ (λ e. cc) (λ e. cc) (subs A al d e s t)
groups A al d e (trees.Rec v) (trees.Rec w) = Decides-like _ (λ e. cc) (λ e. cc) (lists (sub_eq' A al d e).it sub_view (subs A al d e) v.items w.items)
groups A al d e one other = (λ e. absurd cc, λ e. absurd cc)

-- ---- core types of components, by what is seen of them

pub declarations : (A : RattleType) (al : Ghosts A.Denot) (d e : Dict) (a b : ModuleDecl A.Denot)
    → Decides ((declaration_eq' A al d e).it a b) (module_declaration_view a ≡ module_declaration_view b)
declarations A al d e (decls.Import from name ty) (decls.Import from' name' ty') =
    Decides-like _ (λ p. cc (p.0, p.1.0, p.1.1)) (λ e. (cc, (cc, cc)))
    (Decides-and _ _ (bytes_eq-Decides (string_bytes from) (string_bytes from'))
    (Decides-and _ _ (bytes_eq-Decides (string_bytes name) (string_bytes name')) (entities ty ty')))
declarations A al d e (decls.«Type» g) (decls.«Type» h) = Decides-like _ (λ e. cc) (λ e. cc) (groups A al d e g h)
declarations A al d e (decls.Alias k l) (decls.Alias m n) = both _ _ (unsigned_Decides k m) (unsigned_Decides l n) (λ p q. cc) (λ e. cc) (λ e. cc)
declarations A al d e (decls.Export name ty) (decls.Export name' ty') =
    both _ _ (bytes_eq-Decides (string_bytes name) (string_bytes name')) (entities ty ty') (λ p q. cc) (λ e. cc) (λ e. cc)
declarations A al d e one other = (λ e. absurd cc, λ e. absurd cc)

pub core_types : (A : RattleType) (al : Ghosts A.Denot) (d e : Dict) (a b : CoreTypeTree A.Denot)
    → Decides ((core_type_eq' A al d e).it a b) (core_type_view a ≡ core_type_view b)
core_types A al d e (cores.Group g) (cores.Group h) = Decides-like _ (λ e. cc) (λ e. cc) (groups A al d e g h)
core_types A al d e (cores.Module v) (cores.Module w) =
    Decides-like _ (λ e. cc) (λ e. cc) (lists (declaration_eq' A al d e).it module_declaration_view (declarations A al d e) v.items w.items)
core_types A al d e one other = (λ e. absurd cc, λ e. absurd cc)
