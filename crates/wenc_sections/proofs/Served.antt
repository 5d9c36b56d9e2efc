-- What is written of an import, an export, a start and a resource type serves as their forms.
use Rattle.std.proofs.Common.{◌≡◌, ℕ, List, Option, subst}
use Rattle.wenc_base.specs.Prelude.{Serves, in_order, list_in_order, list_is_list, option}
use Rattle.wenc_base.specs.Prelude.{order_serves, serves_itself, sized_in_order, tagged_serves}
use Rattle.wenc_base.specs.Prelude.{three_serve, two_serve, u32, val_type, ◌▸◌}
use Rattle.wenc_sections.specs.Prelude.{ascribed, export_item, import_item, imported, start}
use Rattle.wenc_sections.specs.Prelude.{started, triple}
use Rattle.wenc_base.specs.laws.Serves.{sized_serves}
use Rattle.wenc_parts.specs.Prelude.{ExternName, component_export_kind, extern_name, type_reference}
use Rattle.wenc_types.specs.Prelude.{ResourceType, def_type}
use Rattle.wenc_base.specs.declared.types.ValType.{ValType}
use Rattle.wenc_parts.specs.declared.exports.ComponentExportKind.{ComponentExportKind}
use Rattle.wenc_parts.specs.declared.imports.ComponentTypeRef.{ComponentTypeRef}

pub import_serves : (name : ExternName) (what : ComponentTypeRef) → Serves (in_order (extern_name name) (type_reference what))
    (import_item (imported name what))
import_serves name what = two_serve (extern_name name) (type_reference what)

pub export_serves : (name : ExternName) (kind : ComponentExportKind) (index : ℕ) (what : Option ComponentTypeRef)
    → Serves (in_order (extern_name name) (in_order (component_export_kind kind) (in_order (u32 index) (option type_reference what))))
    (export_item (ascribed name kind index what))
export_serves name kind index what =
    order_serves (serves_itself {p = extern_name name}) (three_serve (component_export_kind kind) (u32 index) (option type_reference what))

-- an export of an instance, by another spelling of its name
pub exported_serves : (seen name : ExternName) → seen ≡ name → (kind : ComponentExportKind) (index : ℕ)
    → Serves (in_order (extern_name seen) (in_order (component_export_kind kind) (u32 index)))
    (triple extern_name component_export_kind u32 (name, kind, index))
exported_serves seen name e kind index =
    subst (λ (n : ExternName). Serves (in_order (extern_name seen) (in_order (component_export_kind kind) (u32 index)))
    (triple extern_name component_export_kind u32 (n, kind, index))) e
    (three_serve (extern_name seen) (component_export_kind kind) (u32 index))

pub start_serves : (function : ℕ) (arguments : List ℕ) (results : ℕ)
    → Serves (sized_in_order (in_order (u32 function) (in_order (list_in_order u32 arguments) (u32 results)))) (start (started function arguments results))
start_serves function arguments results = sized_serves
    (order_serves (serves_itself {p = u32 function}) (order_serves (list_is_list u32 arguments) (serves_itself {p = u32 results})))

pub resource_serves : (rep : ValType) (dtor : Option ℕ) → Serves (0x3f ▸ in_order (val_type rep) (option u32 dtor)) (def_type (ResourceType rep dtor))
resource_serves rep dtor = tagged_serves 0x3f (two_serve (val_type rep) (option u32 dtor))
