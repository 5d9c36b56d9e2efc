-- What the code writes of composite types serves as their forms.
use Rattle.std.proofs.Common.{List}
use Rattle.wenc_base.specs.Prelude.{FieldType, Func, Rec, Serves, Struct, SubType, ValType}
use Rattle.wenc_base.specs.Prelude.{composite_type, field_type, in_order, list_in_order}
use Rattle.wenc_base.specs.Prelude.{list_is_list, list_serves, order_serves, rec_type}
use Rattle.wenc_base.specs.Prelude.{serves_itself, sub_type, sub_view, tagged_serves, val_type, ◌▸◌}
use Rattle.std.proofs.Common.{map}

pub function_serves : (params results : List ValType)
    → Serves (0x60 ▸ in_order (list_in_order val_type params) (list_in_order val_type results)) (composite_type (Func params results))
function_serves params results = tagged_serves 0x60 (order_serves (list_is_list val_type params) (list_is_list val_type results))

pub structure_serves : (fields : List FieldType) → Serves (0x5f ▸ list_in_order field_type fields) (composite_type (Struct fields))
structure_serves fields = tagged_serves 0x5f (list_is_list field_type fields)

pub group_serves : {A : Type 0} (types : List (SubType A)) → Serves (0x4e ▸ list_in_order (λ s. sub_type (sub_view s)) types)
    (rec_type (Rec (map sub_view types)))
group_serves types = tagged_serves 0x4e (list_serves (λ s. sub_type (sub_view s)) sub_view sub_type (λ s. serves_itself) types)
