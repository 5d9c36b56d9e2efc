-- Borrowed types as pure ones.
use Rattle.std.specs.Prelude.{ℕ, ◌+◌, List, [], ◌∷◌}
use Rattle.wenc_parts.specs.Aliases.{alias_view}
use Rattle.wenc_types.specs.ComponentTypes.{DefType, DefinedType, FunctionType, ComponentType}
use Rattle.wenc_types.specs.ComponentTypes.{InstanceType, ResourceType, InstanceDeclaration}
use Rattle.wenc_types.specs.ComponentTypes.{CoreTyped, Typed, Aliased, Exported}
use Rattle.wenc_types.specs.ComponentTypes.{ComponentDeclaration, Imported, Declared}
use Rattle.wenc_types.specs.ComponentTypes.{instances_of, components_of}
use Rattle.wenc_types.specs.reading.ComponentTypes.{read_type, read_component_declaration}
use Rattle.wenc_types.specs.reading.ComponentTypes.{read_instance_declaration}
use Rattle.wenc_types.specs.reading.DefinedTypes.{read_labelled_type, to_function}
use Rattle.wenc_view.specs.CoreTypes.{core_type_lists, core_type_seen}
use Rattle.wenc_view.specs.DefinedTypes.{defined_lists, defined_seen}
use Rattle.wenc_view.specs.Members.{Place, list_view, members_of, place_in, place_of}
use Rattle.wenc_view.specs.ExternNames.{name_seen}
use Rattle.wenc_view.specs.declared.type_views.ComponentDecls.{ComponentDecls}
use Rattle.wenc_view.specs.declared.type_views.InstanceDecls.{InstanceDecls}
use Rattle.wenc_view.specs.declared.type_views.TypeView.{TypeView}
use Rattle.wenc_view.specs.declared.type_views.TypeView.TheVariants as types
use Rattle.wenc_view.specs.declared.type_views.InstanceDeclView.{InstanceDeclView}
use Rattle.wenc_view.specs.declared.type_views.InstanceDeclView.TheVariants as instances
use Rattle.wenc_view.specs.declared.type_views.ComponentDeclView.{ComponentDeclView}
use Rattle.wenc_view.specs.declared.type_views.ComponentDeclView.TheVariants as components

-- the declarations that are left
abbrev pub component_members : ComponentDecls → List ComponentDeclaration
component_members l =
    members_of (read_component_declaration (read_type l.depth_left)) l.left l.bytes.now

abbrev pub instance_members : InstanceDecls → List InstanceDeclaration
instance_members l =
    members_of (read_instance_declaration (read_type l.depth_left)) l.left l.bytes.now

abbrev pub type_seen : TypeView → DefType
type_seen (types.Defined ty) = DefinedType (defined_seen ty)
type_seen (types.Func is_async params answer) =
    FunctionType (to_function is_async (list_view read_labelled_type params) answer)
type_seen (types.Component ds) = ComponentType (components_of (component_members ds))
type_seen (types.Instance ds) = InstanceType (instances_of (instance_members ds))
type_seen (types.Resource rep dtor) = ResourceType rep dtor

abbrev pub instance_declaration_seen : InstanceDeclView → InstanceDeclaration
instance_declaration_seen (instances.CoreType ty) = CoreTyped (core_type_seen ty)
instance_declaration_seen (instances.«Type» ty) = Typed (type_seen ty)
instance_declaration_seen (instances.Alias to) = Aliased (alias_view to)
instance_declaration_seen (instances.Export name ty) = Exported (name_seen name) ty

abbrev pub component_declaration_seen : ComponentDeclView → ComponentDeclaration
component_declaration_seen (components.Import name ty) = Imported (name_seen name) ty
component_declaration_seen (components.Decl d) = Declared (instance_declaration_seen d)

-- how deep types may nest in a type, and in a declaration
abbrev pub type_nests : TypeView → ℕ
type_nests (types.Component ds) = ds.depth_left + 1
type_nests (types.Instance ds) = ds.depth_left + 1
type_nests other = 0

abbrev pub instance_declaration_nests : InstanceDeclView → ℕ
instance_declaration_nests (instances.«Type» ty) = type_nests ty
instance_declaration_nests other = 0

abbrev pub component_declaration_nests : ComponentDeclView → ℕ
component_declaration_nests (components.Decl d) = instance_declaration_nests d
component_declaration_nests other = 0

-- where its lists are
abbrev pub type_lists : TypeView → List Place
type_lists (types.Defined ty) = defined_lists ty
type_lists (types.Func is_async params answer) = place_of read_labelled_type params ∷ []
type_lists (types.Component ds) =
    place_in (read_component_declaration (read_type ds.depth_left)) ds.left ds.bytes.now ∷ []
type_lists (types.Instance ds) =
    place_in (read_instance_declaration (read_type ds.depth_left)) ds.left ds.bytes.now ∷ []
type_lists (types.Resource rep dtor) = []

abbrev pub instance_declaration_lists : InstanceDeclView → List Place
instance_declaration_lists (instances.CoreType ty) = core_type_lists ty
instance_declaration_lists (instances.«Type» ty) = type_lists ty
instance_declaration_lists other = []

abbrev pub component_declaration_lists : ComponentDeclView → List Place
component_declaration_lists (components.Import name ty) = []
component_declaration_lists (components.Decl d) = instance_declaration_lists d
