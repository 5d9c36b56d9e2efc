-- Types that components define, with all that is in them: the code's trees as pure ones.
use Rattle.std.specs.Prelude.{Bool, List, map, Option, String}
use Rattle.std.specs.String.{string_bytes}
use Rattle.wenc_parts.specs.Aliases.{alias_tree_view}
use Rattle.wenc_parts.specs.Imports.{name_tree_view}
use Rattle.wenc_parts.specs.declared.types.ComponentValType.{ComponentValType}
use Rattle.wenc_types.specs.ComponentTypes.{DefType, DefinedType, FunctionType, ComponentType}
use Rattle.wenc_types.specs.ComponentTypes.{InstanceType, ResourceType, InstanceDeclaration}
use Rattle.wenc_types.specs.ComponentTypes.{CoreTyped, Typed, Aliased, Exported}
use Rattle.wenc_types.specs.ComponentTypes.{ComponentDeclaration, Imported, Declared}
use Rattle.wenc_types.specs.ComponentTypes.{InstanceDeclarations, no_instance, and_instance}
use Rattle.wenc_types.specs.ComponentTypes.{ComponentDeclarations, no_component, and_component}
use Rattle.wenc_types.specs.CoreTypeTrees.{core_type_view}
use Rattle.wenc_types.specs.DefinedTypes.{LabelledType, Case, DefValType, Function}
use Rattle.wenc_types.specs.DefinedTypes as pure
use Rattle.wenc_types.specs.declared.defined_tree.CaseTree.{CaseTree}
use Rattle.wenc_types.specs.declared.defined_tree.DefinedTree.{DefinedTree}
use Rattle.wenc_types.specs.declared.defined_tree.DefinedTree.TheVariants as trees
use Rattle.wenc_types.specs.declared.type_tree.TypeTree.{TypeTree, Defined, Func, Component'}
use Rattle.wenc_types.specs.declared.type_tree.TypeTree.{Instance', Resource}
use Rattle.wenc_types.specs.declared.type_tree.TypeTree.{Row_of-InstanceDecl, end_of-InstanceDecl}
use Rattle.wenc_types.specs.declared.type_tree.TypeTree.{more_of-InstanceDecl}
use Rattle.wenc_types.specs.declared.type_tree.TypeTree.{Row_of-ComponentDecl}
use Rattle.wenc_types.specs.declared.type_tree.TypeTree.{end_of-ComponentDecl}
use Rattle.wenc_types.specs.declared.type_tree.TypeTree.{more_of-ComponentDecl}
use Rattle.wenc_types.specs.declared.type_tree.InstanceDecl.{InstanceDecl, CoreType, «Type», Alias}
use Rattle.wenc_types.specs.declared.type_tree.InstanceDecl.{Export}
use Rattle.wenc_types.specs.declared.type_tree.ComponentDecl.{ComponentDecl, Import, Decl}

abbrev pub labelled_type_view : {A : Type 0} → String A × ComponentValType → LabelledType
labelled_type_view f = record { name = string_bytes f.0; ty = f.1 }

abbrev pub case_view : {A : Type 0} → CaseTree A → Case
case_view c = record { name = string_bytes c.name; ty = c.ty }

abbrev pub defined_view : {A : Type 0} → DefinedTree A → DefValType
defined_view (trees.Primitive ty) = pure.Primitive ty
defined_view (trees.Record fields) = pure.Record (map labelled_type_view fields.items)
defined_view (trees.Variant cases) = pure.Variant (map case_view cases.items)
defined_view (trees.List element) = pure.ListOf element
defined_view (trees.Map key value) = pure.MapOf key value
defined_view (trees.FixedLengthList element length) = pure.FixedLengthList element length
defined_view (trees.Tuple elements) = pure.Tuple elements.items
defined_view (trees.Flags names) = pure.Flags (map string_bytes names.items)
defined_view (trees.Enum names) = pure.Enumeration (map string_bytes names.items)
defined_view (trees.Option ty) = pure.OptionOf ty
defined_view (trees.Result ok error) = pure.ResultOf ok error
defined_view (trees.Own number) = pure.Own number
defined_view (trees.Borrow number) = pure.Borrow number
defined_view (trees.Future ty) = pure.Future ty
defined_view (trees.Stream ty) = pure.Stream ty

abbrev pub function_view : {A : Type 0} → Bool → List (String A × ComponentValType)
    → Option ComponentValType → Function
function_view is_async params answer =
    record { is_async = is_async; params = map labelled_type_view params; answer = answer }

abbrev mutual
  pub type_view : {A : Type 0} → TypeTree A → DefType
  type_view (Defined ty) = DefinedType (defined_view ty)
  type_view (Func is_async params answer) =
      FunctionType (function_view is_async params.items answer)
  type_view (Component' shape ds) = ComponentType (component_row_view ds)
  type_view (Instance' shape ds) = InstanceType (instance_row_view ds)
  type_view (Resource rep dtor) = ResourceType rep dtor

  pub instance_declaration_view : {A : Type 0} → InstanceDecl A → InstanceDeclaration
  instance_declaration_view (CoreType ty) = CoreTyped (core_type_view ty)
  instance_declaration_view («Type» ty) = Typed (type_view ty)
  instance_declaration_view (Alias to) = Aliased (alias_tree_view to)
  instance_declaration_view (Export name ty) = Exported (name_tree_view name) ty

  pub component_declaration_view : {A : Type 0} → ComponentDecl A → ComponentDeclaration
  component_declaration_view (Import name ty) = Imported (name_tree_view name) ty
  component_declaration_view (Decl d) = Declared (instance_declaration_view d)

  -- those of a vector
  pub instance_row_view : {A : Type 0} {m : _} → Row_of-InstanceDecl A m → InstanceDeclarations
  instance_row_view end_of-InstanceDecl = no_instance
  instance_row_view (more_of-InstanceDecl d ds) =
      and_instance (instance_declaration_view d) (instance_row_view ds)

  pub component_row_view : {A : Type 0} {m : _} → Row_of-ComponentDecl A m → ComponentDeclarations
  component_row_view end_of-ComponentDecl = no_component
  component_row_view (more_of-ComponentDecl d ds) =
      and_component (component_declaration_view d) (component_row_view ds)
