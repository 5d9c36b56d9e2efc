-- Borrowed core types as pure ones.
use Rattle.std.specs.Prelude.{List, [], ◌∷◌}
use Rattle.wenc_base.specs.Composites.{Composite, Func, Array, Struct, Sub, RecType, Single, Rec}
use Rattle.wenc_base.specs.reading.Composites.{read_field_type, read_sub_type}
use Rattle.wenc_base.specs.reading.Types.{read_val_type}
use Rattle.wenc_types.specs.CoreTypes.{ModuleDeclaration, ModuleImport, ModuleRecType, ModuleOuter}
use Rattle.wenc_types.specs.CoreTypes.{ModuleExport, CoreType, Grouped, Module}
use Rattle.wenc_types.specs.reading.CoreTypes.{read_module_declaration}
use Rattle.wenc_view.specs.Members.{Place, list_view, place_of}
use Rattle.wenc_view.specs.declared.composites.CompositeView.{CompositeView}
use Rattle.wenc_view.specs.declared.composites.CompositeView.TheVariants as composites
use Rattle.wenc_view.specs.declared.composites.SubView.{SubView}
use Rattle.wenc_view.specs.declared.composites.GroupView.{GroupView}
use Rattle.wenc_view.specs.declared.composites.GroupView.TheVariants as groups
use Rattle.wenc_view.specs.declared.core_type_views.ModuleDeclView.{ModuleDeclView}
use Rattle.wenc_view.specs.declared.core_type_views.ModuleDeclView.TheVariants as decls
use Rattle.wenc_view.specs.declared.core_type_views.CoreTypeView.{CoreTypeView}
use Rattle.wenc_view.specs.declared.core_type_views.CoreTypeView.TheVariants as views

abbrev pub composite_seen : CompositeView → Composite
composite_seen (composites.Func params results) =
    Func (list_view read_val_type params) (list_view read_val_type results)
composite_seen (composites.Array element) = Array element
composite_seen (composites.Struct fields) = Struct (list_view read_field_type fields)

abbrev pub sub_seen : SubView → Sub
sub_seen s = record {
  is_final = s.is_final;
  supertype = s.supertype_idx;
  composite = composite_seen s.composite_type;
}

abbrev pub rec_type_seen : GroupView → RecType
rec_type_seen (groups.Sub s) = Single (sub_seen s)
rec_type_seen (groups.Rec types) = Rec (list_view read_sub_type types)

abbrev pub module_declaration_seen : ModuleDeclView → ModuleDeclaration
module_declaration_seen (decls.Import from name ty) = ModuleImport from.now name.now ty
module_declaration_seen (decls.«Type» g) = ModuleRecType (rec_type_seen g)
module_declaration_seen (decls.Alias count index) = ModuleOuter count index
module_declaration_seen (decls.Export name ty) = ModuleExport name.now ty

abbrev pub core_type_seen : CoreTypeView → CoreType
core_type_seen (views.Group g) = Grouped (rec_type_seen g)
core_type_seen (views.Module ds) = Module (list_view read_module_declaration ds)

-- where its lists are
abbrev pub composite_lists : CompositeView → List Place
composite_lists (composites.Func params results) =
    place_of read_val_type params ∷ place_of read_val_type results ∷ []
composite_lists (composites.Array element) = []
composite_lists (composites.Struct fields) = place_of read_field_type fields ∷ []

abbrev pub group_lists : GroupView → List Place
group_lists (groups.Sub s) = composite_lists s.composite_type
group_lists (groups.Rec types) = place_of read_sub_type types ∷ []

abbrev pub module_declaration_lists : ModuleDeclView → List Place
module_declaration_lists (decls.«Type» g) = group_lists g
module_declaration_lists other = []

abbrev pub core_type_lists : CoreTypeView → List Place
core_type_lists (views.Group g) = group_lists g
core_type_lists (views.Module ds) = place_of read_module_declaration ds ∷ []
