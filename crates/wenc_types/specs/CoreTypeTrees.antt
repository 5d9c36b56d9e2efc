-- Core types with all that is in them: the code's trees as pure ones.
use Rattle.std.specs.Prelude.{map}
use Rattle.std.specs.String.{string_bytes}
use Rattle.wenc_base.specs.Composites.{rec_type_view}
use Rattle.wenc_types.specs.CoreTypes.{ModuleDeclaration, ModuleImport, ModuleRecType, ModuleOuter}
use Rattle.wenc_types.specs.CoreTypes.{ModuleExport, CoreType}
use Rattle.wenc_types.specs.CoreTypes.{Grouped, Module}
use Rattle.wenc_types.specs.declared.core_type_tree.ModuleDecl.{ModuleDecl}
use Rattle.wenc_types.specs.declared.core_type_tree.ModuleDecl.TheVariants as decls
use Rattle.wenc_types.specs.declared.core_type_tree.CoreTypeTree.{CoreTypeTree}
use Rattle.wenc_types.specs.declared.core_type_tree.CoreTypeTree.TheVariants as trees

abbrev pub module_declaration_view : {A : Type 0} → ModuleDecl A → ModuleDeclaration
module_declaration_view (decls.Import from name ty) =
    ModuleImport (string_bytes from) (string_bytes name) ty
module_declaration_view (decls.«Type» g) = ModuleRecType (rec_type_view g)
module_declaration_view (decls.Alias count index) = ModuleOuter count index
module_declaration_view (decls.Export name ty) = ModuleExport (string_bytes name) ty

abbrev pub core_type_view : {A : Type 0} → CoreTypeTree A → CoreType
core_type_view (trees.Group g) = Grouped (rec_type_view g)
core_type_view (trees.Module ds) = Module (map module_declaration_view ds.items)
