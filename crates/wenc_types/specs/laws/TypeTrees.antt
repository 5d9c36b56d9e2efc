-- What follows for types that components define, with all that is in them.
use Rattle.std.proofs.Common.{String, ◌≡◌, Bool, List, Option, Vec, map, refl, sym, ap, subst, ◌∙◌}
use mathlib.Core.Former.{Count}
use Rattle.std.specs.String.{string_bytes}
use Rattle.wenc_parts.specs.declared.types.ComponentValType.{ComponentValType}
use Rattle.wenc_types.specs.ComponentTypes.{ComponentType, InstanceType, InstanceDeclarations}
use Rattle.wenc_types.specs.ComponentTypes.{and_instance, instances_of, ComponentDeclarations}
use Rattle.wenc_types.specs.ComponentTypes.{and_component, components_of}
use Rattle.wenc_types.specs.DefinedTypes.{LabelledType, Case, DefValType, Primitive, Record}
use Rattle.wenc_types.specs.DefinedTypes.{Variant, ListOf, MapOf, FixedLengthList, Tuple, Flags}
use Rattle.wenc_types.specs.DefinedTypes.{Enumeration, OptionOf, ResultOf, Own, Borrow, Future}
use Rattle.wenc_types.specs.DefinedTypes.{Stream}
use Rattle.wenc_types.specs.TypeTrees.{labelled_type_view, case_view, defined_view, type_view}
use Rattle.wenc_types.specs.TypeTrees.{instance_declaration_view, component_declaration_view}
use Rattle.wenc_types.specs.TypeTrees.{instance_row_view, component_row_view}
use Rattle.wenc_types.specs.declared.defined_tree.CaseTree.{CaseTree}
use Rattle.wenc_types.specs.declared.defined_tree.DefinedTree.{DefinedTree}
use Rattle.wenc_types.specs.declared.defined_tree.DefinedTree.TheVariants as trees
use Rattle.wenc_types.specs.declared.type_tree.ComponentDecl.{ComponentDecl}
use Rattle.wenc_types.specs.declared.type_tree.InstanceDecl.{InstanceDecl}
use Rattle.wenc_types.specs.declared.type_tree.TypeTree.{TypeTree, Row_of-InstanceDecl}
use Rattle.wenc_types.specs.declared.type_tree.TypeTree.{end_of-InstanceDecl, more_of-InstanceDecl}
use Rattle.wenc_types.specs.declared.type_tree.TypeTree.{items-the_row-InstanceDecl}
use Rattle.wenc_types.specs.declared.type_tree.TypeTree.{items_hidden-the_row-InstanceDecl-1}
use Rattle.wenc_types.specs.declared.type_tree.TypeTree.{Row_of-ComponentDecl, end_of-ComponentDecl}
use Rattle.wenc_types.specs.declared.type_tree.TypeTree.{more_of-ComponentDecl}
use Rattle.wenc_types.specs.declared.type_tree.TypeTree.{items-the_row-ComponentDecl}
use Rattle.wenc_types.specs.declared.type_tree.TypeTree.{items_hidden-the_row-ComponentDecl-0}
use Rattle.wenc_types.specs.declared.type_tree.TypeTree as types'
use Rattle.wenc_types.specs.declared.type_tree.TypeTree.TheVariants as types
use Rattle.wenc_types.specs.laws.CoreTypes.{SeesAlike}

-- ---- equal values

-- fields and cases, by their names
pub named_sees : {A : Type 0} (eq : String A × ComponentValType → String A × ComponentValType → Bool)
    → ((m n : String A) (t : ComponentValType) → string_bytes m ≡ string_bytes n
    → eq (m, t) (m, t) ≡ eq (m, t) (n, t)) → SeesAlike eq labelled_type_view
named_sees eq names f g e =
    let types : f.1 ≡ g.1 = ap (λ (v : LabelledType). v.ty) e in
    subst (λ (t : ComponentValType). eq f f ≡ eq f (g.0, t)) types
    (names f.0 g.0 f.1 (ap (λ (v : LabelledType). v.name) e))

abbrev case_with : {A : Type 0} → String A → Option ComponentValType → CaseTree A
case_with name ty = record { name = name; ty = ty }

pub case_sees : {A : Type 0} (eq : CaseTree A → CaseTree A → Bool)
    → ((m n : String A) (t : Option ComponentValType) → string_bytes m ≡ string_bytes n
    → eq (case_with m t) (case_with m t) ≡ eq (case_with m t) (case_with n t))
    → SeesAlike eq case_view
case_sees eq names c d e =
    let types : c.ty ≡ d.ty = ap (λ (v : Case). v.ty) e in
    subst (λ (t : Option ComponentValType). eq c c ≡ eq c (case_with d.name t)) types
    (names c.name d.name c.ty (ap (λ (v : Case). v.name) e))

-- the trees that are seen as this type
abbrev ShapeOf : {A : Type 0} → DefValType → DefinedTree A → Type 0
ShapeOf (Primitive p) t = t ≡ trees.Primitive p
ShapeOf {A} (Record fields) t = (v : Vec (String A × ComponentValType) A)
    × (fields ≡ map labelled_type_view v.items) × (t ≡ trees.Record v)
ShapeOf {A} (Variant cases) t = (v : Vec (CaseTree A) A) × (cases ≡ map case_view v.items) × (t ≡ trees.Variant v)
ShapeOf (ListOf element) t = t ≡ trees.List element
ShapeOf (MapOf key value) t = t ≡ trees.Map key value
ShapeOf (FixedLengthList element n) t = t ≡ trees.FixedLengthList element n
ShapeOf {A} (Tuple elements) t = (v : Vec ComponentValType A) × (elements ≡ v.items) × (t ≡ trees.Tuple v)
ShapeOf {A} (Flags names) t = (v : Vec (String A) A) × (names ≡ map string_bytes v.items) × (t ≡ trees.Flags v)
ShapeOf {A} (Enumeration names) t = (v : Vec (String A) A) × (names ≡ map string_bytes v.items) × (t ≡ trees.Enum v)
ShapeOf (OptionOf ty) t = t ≡ trees.Option ty
ShapeOf (ResultOf ok error) t = t ≡ trees.Result ok error
ShapeOf (Own number) t = t ≡ trees.Own number
ShapeOf (Borrow number) t = t ≡ trees.Borrow number
ShapeOf (Future ty) t = t ≡ trees.Future ty
ShapeOf (Stream ty) t = t ≡ trees.Stream ty

shape_of : {A : Type 0} (t : DefinedTree A) → ShapeOf (defined_view t) t
shape_of (trees.Record v) = (v, refl, refl)
shape_of (trees.Variant v) = (v, refl, refl)
shape_of (trees.Tuple v) = (v, refl, refl)
shape_of (trees.Flags v) = (v, refl, refl)
shape_of (trees.Enum v) = (v, refl, refl)
shape_of other = refl

-- Trees, by what their lists have: fields, cases, elements and names.
pub defined_sees : {A : Type 0} (eq : DefinedTree A → DefinedTree A → Bool)
    → SeesAlike (λ (v w : Vec (String A × ComponentValType) A). eq (trees.Record v)
    (trees.Record w)) (λ v. map labelled_type_view v.items)
    → SeesAlike (λ (v w : Vec (CaseTree A) A). eq (trees.Variant v) (trees.Variant w)) (λ v. map case_view v.items)
    → SeesAlike (λ (v w : Vec ComponentValType A). eq (trees.Tuple v) (trees.Tuple w)) (λ v. v.items)
    → SeesAlike (λ (v w : Vec (String A) A). eq (trees.Flags v) (trees.Flags w)) (λ v. map string_bytes v.items)
    → SeesAlike (λ (v w : Vec (String A) A). eq (trees.Enum v) (trees.Enum w)) (λ v. map string_bytes v.items)
    → SeesAlike eq defined_view
defined_sees {A} eq records variants tuples flags enums a b e =
    of a (subst (λ (d : DefValType). ShapeOf d b) (sym e) (shape_of b))
  where
    of : (a : DefinedTree A) → ShapeOf (defined_view a) b → eq a a ≡ eq a b
    of (trees.Record v) h = rw h.2 (records v h.0 h.1)
    of (trees.Variant v) h = rw h.2 (variants v h.0 h.1)
    of (trees.Tuple v) h = rw h.2 (tuples v h.0 h.1)
    of (trees.Flags v) h = rw h.2 (flags v h.0 h.1)
    of (trees.Enum v) h = rw h.2 (enums v h.0 h.1)
    of other h = rw h refl

-- ---- what the code's trees are seen as, level by level

instances_listed : {A : Type 0} (n : _) (row : Row_of-InstanceDecl A n)
    → instance_row_view row ≡ instances_of
    (map instance_declaration_view (items-the_row-InstanceDecl A n row))
instances_listed n end_of-InstanceDecl = refl
instances_listed n (more_of-InstanceDecl d ds) =
    ap (λ (others : InstanceDeclarations). and_instance (instance_declaration_view d) others)
    (instances_listed _ ds)

components_listed : {A : Type 0} (n : _) (row : Row_of-ComponentDecl A n)
    → component_row_view row ≡ components_of
    (map component_declaration_view (items-the_row-ComponentDecl A n row))
components_listed n end_of-ComponentDecl = refl
components_listed n (more_of-ComponentDecl d ds) =
    ap (λ (others : ComponentDeclarations). and_component (component_declaration_view d) others)
    (components_listed _ ds)

abbrev instance_row_of : {A : Type 0} → TypeTree A → (n : Count) × Row_of-InstanceDecl A n
instance_row_of (types'.Instance' shape row) = (_, row)
instance_row_of _ = (_, end_of-InstanceDecl)

abbrev component_row_of : {A : Type 0} → TypeTree A → (n : Count) × Row_of-ComponentDecl A n
component_row_of (types'.Component' shape row) = (_, row)
component_row_of _ = (_, end_of-ComponentDecl)

pub view_component : {A : Type 0} (ds : Vec (ComponentDecl A) A)
    → type_view (types.Component ds) ≡ ComponentType
    (components_of (map component_declaration_view ds.items))
view_component {A} ds =
    let row = component_row_of (types.Component ds) in
    ap (λ (cs : ComponentDeclarations). ComponentType cs)
    (components_listed row.0 row.1 ∙ ap
    (λ (cs : List (ComponentDecl A)). components_of (map component_declaration_view cs))
    (items_hidden-the_row-ComponentDecl-0 A ds))

pub view_instance : {A : Type 0} (ds : Vec (InstanceDecl A) A)
    → type_view (types.Instance ds) ≡ InstanceType
    (instances_of (map instance_declaration_view ds.items))
view_instance {A} ds =
    let row = instance_row_of (types.Instance ds) in
    ap (λ (cs : InstanceDeclarations). InstanceType cs) (instances_listed row.0 row.1 ∙ ap
    (λ (cs : List (InstanceDecl A)). instances_of (map instance_declaration_view cs))
    (items_hidden-the_row-InstanceDecl-1 A ds))
