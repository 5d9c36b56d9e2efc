-- Types that components define (component model, binary format, "Type Definitions").
use Rattle.std.specs.Prelude.{ℕ, suc, max, List, [], ◌∷◌, Option}
use Rattle.wenc_base.specs.Piece.{Piece, nothing, ◌▸◌, ◌⨾◌}
use Rattle.wenc_base.specs.Number.{u32, count}
use Rattle.wenc_base.specs.Forms.{option}
use Rattle.wenc_base.specs.Types.{val_type}
use Rattle.wenc_base.specs.declared.types.ValType.{ValType}
use Rattle.wenc_parts.specs.declared.imports.ComponentTypeRef.{ComponentTypeRef}
use Rattle.wenc_parts.specs.Imports.{ExternName, extern_name, type_reference}
use Rattle.wenc_parts.specs.Aliases.{AliasOf, alias}
use Rattle.wenc_types.specs.CoreTypes.{CoreType, core_type}
use Rattle.wenc_types.specs.DefinedTypes.{DefValType, def_val_type, Function, function_type}

mutual
  -- a type that a component defines
  pub data DefType : Type 0 where
    DefinedType : (ty : DefValType) → DefType
    FunctionType : (ty : Function) → DefType
    ComponentType : (declarations : ComponentDeclarations) → DefType
    InstanceType : (declarations : InstanceDeclarations) → DefType
    -- a resource: its representation, and the index of its destructor
    ResourceType : (rep : ValType) (dtor : Option ℕ) → DefType

  -- what an instance type declares
  pub data InstanceDeclaration : Type 0 where
    CoreTyped : (ty : CoreType) → InstanceDeclaration
    Typed : (ty : DefType) → InstanceDeclaration
    Aliased : (to : AliasOf) → InstanceDeclaration
    Exported : (name : ExternName) (ty : ComponentTypeRef) → InstanceDeclaration

  -- what a component type declares
  pub data ComponentDeclaration : Type 0 where
    Imported : (name : ExternName) (ty : ComponentTypeRef) → ComponentDeclaration
    Declared : (declaration : InstanceDeclaration) → ComponentDeclaration

  -- several of what an instance type declares
  pub data InstanceDeclarations : Type 0 where
    no_instance : InstanceDeclarations
    and_instance : (first : InstanceDeclaration) (others : InstanceDeclarations)
        → InstanceDeclarations

  -- several of what a component type declares
  pub data ComponentDeclarations : Type 0 where
    no_component : ComponentDeclarations
    and_component : (first : ComponentDeclaration) (others : ComponentDeclarations)
        → ComponentDeclarations

-- several of them
abbrev pub instances_of : List InstanceDeclaration → InstanceDeclarations
instances_of [] = no_instance
instances_of (d ∷ ds) = and_instance d (instances_of ds)

abbrev pub components_of : List ComponentDeclaration → ComponentDeclarations
components_of [] = no_component
components_of (d ∷ ds) = and_component d (components_of ds)

-- the number of declarations
abbrev pub instance_count : InstanceDeclarations → ℕ
instance_count no_instance = 0
instance_count (and_instance first others) = suc (instance_count others)

abbrev pub component_count : ComponentDeclarations → ℕ
component_count no_component = 0
component_count (and_component first others) = suc (component_count others)

-- ---- the form

abbrev mutual
  pub def_type : DefType → Piece
  def_type (DefinedType ty) = def_val_type ty
  def_type (FunctionType ty) = function_type ty
  def_type (ComponentType ds) = 0x41 ▸ (count (component_count ds) ⨾ each_component ds)
  def_type (InstanceType ds) = 0x42 ▸ (count (instance_count ds) ⨾ each_instance ds)
  def_type (ResourceType rep dtor) = 0x3f ▸ (val_type rep ⨾ option u32 dtor)

  pub instance_declaration : InstanceDeclaration → Piece
  instance_declaration (CoreTyped ty) = 0x00 ▸ core_type ty
  instance_declaration (Typed ty) = 0x01 ▸ def_type ty
  instance_declaration (Aliased to) = 0x02 ▸ alias to
  instance_declaration (Exported name ty) = 0x04 ▸ (extern_name name ⨾ type_reference ty)

  pub component_declaration : ComponentDeclaration → Piece
  component_declaration (Imported name ty) = 0x03 ▸ (extern_name name ⨾ type_reference ty)
  component_declaration (Declared d) = instance_declaration d

  pub each_instance : InstanceDeclarations → Piece
  each_instance no_instance = nothing
  each_instance (and_instance first others) = instance_declaration first ⨾ each_instance others

  pub each_component : ComponentDeclarations → Piece
  each_component no_component = nothing
  each_component (and_component first others) = component_declaration first ⨾ each_component others

-- ---- how deep component and instance types nest: 1 in a section, and one more in a declaration

abbrev mutual
  pub depth : DefType → ℕ
  depth (ComponentType ds) = suc (component_depth ds)
  depth (InstanceType ds) = suc (instance_depth ds)
  depth other = 0

  pub instance_depth : InstanceDeclarations → ℕ
  instance_depth no_instance = 0
  instance_depth (and_instance first others) = max (declared_depth first) (instance_depth others)

  pub component_depth : ComponentDeclarations → ℕ
  component_depth no_component = 0
  component_depth (and_component (Imported name ty) others) = component_depth others
  component_depth (and_component (Declared d) others) =
      max (declared_depth d) (component_depth others)

  pub declared_depth : InstanceDeclaration → ℕ
  declared_depth (Typed ty) = depth ty
  declared_depth other = 0
