-- What the code writes of types serves as their forms.
use Rattle.std.proofs.Common.{String, Result, ◌≡◌, ℕ, Bool, List, [], ◌∷◌, Option, Vec, map, refl, ap, sym, subst}
use Rattle.std.specs.Borrow.{Bor}
use Rattle.std.specs.String.{string_bytes}
use Rattle.wenc_base.specs.Prelude.{Ends, EndsListed, Form, Piece, Serves, behind_bytes, behind_is}
use Rattle.wenc_base.specs.Prelude.{byte, entity_type, in_order, list, list_in_order, list_is_list}
use Rattle.wenc_base.specs.Prelude.{list_serves, listed_serves, lists_serve, name as name_form}
use Rattle.wenc_base.specs.Prelude.{nothing, option, order_serves, serves_itself, serves_then}
use Rattle.wenc_base.specs.Prelude.{tagged_serves, two_serve, u32, verbatim, ◌▸◌, ◌⨾◌}
use Rattle.wenc_base.specs.laws.Parents.{extends_for, extends_as}
use Rattle.wenc_parts.specs.Prelude.{ExternName, extern_name, result_list, type_reference}
use Rattle.wenc_parts.specs.Prelude.{value_type}
use Rattle.wenc_base.specs.declared.imports.EntityType.{EntityType}
use Rattle.wenc_base.specs.declared.fault.Fault.{Fault}
use Rattle.wenc_parts.specs.declared.imports.ComponentTypeRef.{ComponentTypeRef}
use Rattle.wenc_parts.specs.declared.types.ComponentValType.{ComponentValType}
use Rattle.wenc_types.specs.Prelude.{Case as PureCase, CaseTree, ComponentDecl, DefType}
use Rattle.wenc_types.specs.Prelude.{InstanceDecl, ModuleDecl, ModuleImport, ModuleOuter, Record}
use Rattle.wenc_types.specs.Prelude.{Tuple, Variant, async_byte, borrowed_case}
use Rattle.wenc_types.specs.Prelude.{borrowed_labelled_type, case, case_view, component_declaration}
use Rattle.wenc_types.specs.Prelude.{component_declaration_view, components_serve, def_type}
use Rattle.wenc_types.specs.Prelude.{def_val_type, function_type, function_view}
use Rattle.wenc_types.specs.Prelude.{instance_declaration, instance_declaration_view}
use Rattle.wenc_types.specs.Prelude.{instances_serve, labelled_type, labelled_type_view}
use Rattle.wenc_types.specs.Prelude.{module_declaration, module_declaration_view, module_type}
use Rattle.wenc_types.specs.Prelude.{type_view, view_component, view_instance}
use Rattle.wenc_types.specs.declared.encoders.defined_type.Case.{Case}
use Rattle.wenc_types.specs.declared.type_tree.TypeTree.TheVariants as types

-- two pieces after a byte
pub pair_serves : (b : ℕ) (p q : Piece) → Serves (b ▸ in_order p q) (b ▸ (p ⨾ q))
pair_serves b p q = tagged_serves b (two_serve p q)

-- ---- an encoder's last call, of which one piece or the other is told

module _ {T : Type 0} (written : T → List ℕ → T) (ended : T → T) (refuses : T → List ℕ → Fault → Type 0) {old new : T} {outcome : Result (Unit {0}) Fault} where
  pub ends_for : {p q : Piece} → Serves p q → Ends written ended refuses old new outcome p → Ends written ended refuses old new outcome q
  ends_for = extends_for old new outcome (λ bytes. ended (written old bytes)) (refuses old)

  pub ends_listed_for : {S B : Type 0} {steps : S → Option B → S → Type 0} {values : S} {one other : List B → Piece}
      → ((vs : List B) → Serves (one vs) (other vs))
      → EndsListed written ended refuses steps values old new outcome one → EndsListed written ended refuses steps values old new outcome other
  ends_listed_for {steps = steps} {values = values} {one = one} {other = other} =
      extends_as steps values old new outcome (λ bytes. ended (written old bytes)) (refuses old) one other

-- ---- core types

pub module_tree_serves : {A : Type 0} (ds : List (ModuleDecl A))
    → Serves (0x50 ▸ list_in_order (λ d. module_declaration (module_declaration_view d)) ds) (module_type (map module_declaration_view ds))
module_tree_serves ds = tagged_serves 0x50 (list_serves (λ d. module_declaration (module_declaration_view d)) module_declaration_view
    module_declaration (λ d. serves_itself) ds)

pub import_serves : (from name : List ℕ) (ty : EntityType)
    → Serves (0x00 ▸ in_order (name_form from) (in_order (name_form name) (entity_type ty))) (module_declaration (ModuleImport from name ty))
import_serves from name ty = tagged_serves 0x00 (order_serves (serves_itself {p = name_form from}) (two_serve (name_form name) (entity_type ty)))

pub outer_serves : (count number : ℕ)
    → Serves (0x02 ▸ in_order (verbatim (0x10 ∷ 0x01 ∷ [])) (in_order (u32 count) (u32 number))) (module_declaration (ModuleOuter count number))
outer_serves count number =
    let sort_and_kind : List ℕ = 0x10 ∷ 0x01 ∷ [] in
    tagged_serves 0x02 (serves_then (order_serves (serves_itself {p = verbatim sort_and_kind}) (two_serve (u32 count) (u32 number)))
    (behind_is sort_and_kind (u32 count ⨾ u32 number)))

-- ---- types of values

-- a case: a name, then a type or none, then a byte
pub case_serves : (name : List ℕ) (ty : Option ComponentValType)
    → Serves (in_order (name_form name) (in_order (option value_type ty) (0x00 ▸ nothing))) (case (record { name = name; ty = ty }))
case_serves name ty = order_serves (serves_itself {p = name_form name}) (order_serves (serves_itself {p = option value_type ty}) byte_serves)
  where
    byte_serves : Serves (0x00 ▸ nothing) (byte 0x00)
    byte_serves = record { text = refl; fits = λ h. h; among = λ fault c. c; free = λ none. none }

-- a field or a parameter: a name, then a type
abbrev pub field_tree : {A : Type 0} → Form (String A × ComponentValType)
field_tree f = in_order (name_form (string_bytes f.0)) (value_type f.1)

abbrev pub borrowed_field : Form (Bor (List ℕ) × ComponentValType)
borrowed_field f = in_order (name_form f.0.now) (value_type f.1)

fields_tree_serve : {A : Type 0} (fields : List (String A × ComponentValType))
    → Serves (list_in_order field_tree fields) (list labelled_type (map labelled_type_view fields))
fields_tree_serve = list_serves field_tree labelled_type_view labelled_type (λ f. two_serve (name_form (string_bytes f.0)) (value_type f.1))

pub record_tree_serves : {A : Type 0} (fields : List (String A × ComponentValType))
    → Serves (0x72 ▸ list_in_order field_tree fields) (def_val_type (Record (map labelled_type_view fields)))
record_tree_serves fields = tagged_serves 0x72 (fields_tree_serve fields)

pub variant_tree_serves : {A : Type 0} (cases : List (CaseTree A)) → Serves (0x71 ▸ list_in_order (λ c. case (case_view c)) cases)
    (def_val_type (Variant (map case_view cases)))
variant_tree_serves cases = tagged_serves 0x71 (list_serves (λ c. case (case_view c)) case_view case (λ c. serves_itself) cases)

pub names_tree_serves : {A : Type 0} (tag : ℕ) (names : List (String A)) → Serves
    (tag ▸ list_in_order (λ s. name_form (string_bytes s)) names) (tag ▸ list name_form (map string_bytes names))
names_tree_serves tag names = tagged_serves tag (list_serves (λ s. name_form (string_bytes s)) string_bytes name_form (λ s. serves_itself) names)

pub tuple_tree_serves : (elements : List ComponentValType) → Serves (0x6f ▸ list_in_order value_type elements) (def_val_type (Tuple elements))
tuple_tree_serves elements = tagged_serves 0x6f (list_is_list value_type elements)

-- fields, cases and names that an iterator gives
pub fields_serve : (lead : List ℕ) (vs : List (Bor (List ℕ) × ComponentValType))
    → Serves (behind_bytes lead (list borrowed_field vs)) (behind_bytes lead (list labelled_type (map borrowed_labelled_type vs)))
fields_serve = listed_serves borrowed_field borrowed_labelled_type labelled_type (λ f. two_serve (name_form f.0.now) (value_type f.1))

pub names_serve : (lead : List ℕ) (vs : List (Bor (List ℕ))) → Serves (behind_bytes lead (list (λ n. name_form n.now) vs))
    (behind_bytes lead (list name_form (map (λ n. n.now) vs)))
names_serve = listed_serves (λ (n : Bor (List ℕ)). name_form n.now) (λ n. n.now) name_form (λ n. serves_itself)

-- the cases of a variant are made of those that an iterator gives
abbrev pub made_case : Bor (List ℕ) × Option ComponentValType → Case
made_case v = record { name = v.0; ty = v.1 }

abbrev pub seen_case : Case → PureCase
seen_case c = record { name = c.name.now; ty = c.ty }

abbrev pub case_of : Form Case
case_of c = case (seen_case c)

pub made_cases_serve : (cs : List Case) → Serves (0x71 ▸ list case_of cs) (def_val_type (Variant (map seen_case cs)))
made_cases_serve cs = tagged_serves 0x71 (lists_serve case_of seen_case case (λ c. serves_itself) cs)

pub cases_serve : (vs : List (Bor (List ℕ) × Option ComponentValType)) → Serves (0x71 ▸ list case_of (map made_case vs))
    (def_val_type (Variant (map borrowed_case vs)))
cases_serve vs = subst (λ (cs : List PureCase). Serves (0x71 ▸ list case_of (map made_case vs)) (def_val_type (Variant cs))) (made vs)
    (made_cases_serve (map made_case vs))
  where
    made : (vs : List (Bor (List ℕ) × Option ComponentValType)) → map seen_case (map made_case vs) ≡ map borrowed_case vs
    made [] = refl
    made (v ∷ vs) = ap (λ (cs : List PureCase). borrowed_case v ∷ cs) (made vs)

-- ---- types of functions

-- parameters, then what the function answers, after the byte that tells whether it is asynchronous
pub function_tree_serves : {A : Type 0} (is_async : Bool) (tag : ℕ) (params : List (String A × ComponentValType))
    (answer : Option ComponentValType) → tag ≡ async_byte is_async
    → Serves (tag ▸ in_order (list_in_order field_tree params) (result_list answer)) (function_type (function_view is_async params answer))
function_tree_serves is_async tag params answer e =
    rw e (tagged_serves (async_byte is_async) (order_serves (fields_tree_serve params) (serves_itself {p = result_list answer})))

-- ---- component types and instance types

-- a name, then a type, after a byte
pub extern_serves : (seen name : ExternName) → seen ≡ name → (tag : ℕ) (ty : ComponentTypeRef)
    → Serves (tag ▸ in_order (extern_name seen) (type_reference ty)) (tag ▸ (extern_name name ⨾ type_reference ty))
extern_serves seen name e tag ty = rw e (pair_serves tag (extern_name name) (type_reference ty))

-- declarations, in their order
pub instance_tree_serves : {A : Type 0} (ds : Vec (InstanceDecl A) A)
    → Serves (0x42 ▸ list_in_order (λ d. instance_declaration (instance_declaration_view d)) ds.items) (def_type (type_view (types.Instance ds)))
instance_tree_serves ds = subst (λ (t : DefType). Serves (0x42 ▸ list_in_order
    (λ d. instance_declaration (instance_declaration_view d)) ds.items) (def_type t)) (sym (view_instance ds))
    (serves_then (tagged_serves 0x42 (list_serves (λ d. instance_declaration (instance_declaration_view d)) instance_declaration_view
    instance_declaration (λ d. serves_itself) ds.items))
    (instances_serve (map instance_declaration_view ds.items)))

pub component_tree_serves : {A : Type 0} (ds : Vec (ComponentDecl A) A)
    → Serves (0x41 ▸ list_in_order (λ d. component_declaration (component_declaration_view d)) ds.items) (def_type (type_view (types.Component ds)))
component_tree_serves ds = subst (λ (t : DefType). Serves (0x41 ▸ list_in_order
    (λ d. component_declaration (component_declaration_view d)) ds.items) (def_type t)) (sym (view_component ds))
    (serves_then (tagged_serves 0x41 (list_serves (λ d. component_declaration (component_declaration_view d)) component_declaration_view
    component_declaration (λ d. serves_itself) ds.items))
    (components_serve (map component_declaration_view ds.items)))
