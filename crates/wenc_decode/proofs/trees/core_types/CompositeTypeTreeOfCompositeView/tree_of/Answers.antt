use Rattle.std.proofs.Common.{ap, refl}
use Rattle.wenc_base.specs.Prelude.{Struct, read_field_type, read_val_type}
use Rattle.wenc_view.specs.Prelude.{list_view}
use Rattle.wenc_decode.specs.laws.Copies.{same_are}
use Rattle.wenc_decode.proofs.trees.core_types.CompositeTypeTreeOfCompositeView.tree_of.Goals as goal

pub returns-in_ok-results-in-Func : goal.returns-in_ok-results-in-Func
returns-in_ok-results-in-Func g c = rw (
  c.in-Func.is,
  c.from_lists-ty.ensures.0,
  c.from_lists-ty.ensures.1,
  same_are c.in_ok-params-in-Func.params.items (list_view read_val_type c.in-Func.params) c.in_ok-params-in-Func.ensures,
  same_are c.in_ok-results-in-Func.results.items (list_view read_val_type c.in-Func.results) c.in_ok-results-in-Func.ensures,
) refl

pub returns-in_ok-fields-in-Struct : goal.returns-in_ok-fields-in-Struct
returns-in_ok-fields-in-Struct g c =
    rw c.in-Struct.is (ap Struct
    (same_are c.in_ok-fields-in-Struct.fields.items (list_view read_field_type c.in-Struct.fields) c.in_ok-fields-in-Struct.ensures))
