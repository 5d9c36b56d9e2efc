-- Module, component and instance types: their declarations, one by one, and what is counted.
use Rattle.std.specs.Prelude.{◌≡◌, ℕ, ◌+◌, ◌-◌, List, [], ◌∷◌, ◌++◌, Option, Some, None, Result}
use Rattle.std.specs.Prelude.{Ok, Err, OnOk, OnErr, true}
use Rattle.wenc_base.specs.Encode.{Serves}
use Rattle.wenc_base.specs.Holder.{HolderState, no_members, is_finished, Contains, AddsMember}
use Rattle.wenc_base.specs.Piece.{Form}
use Rattle.wenc_base.specs.Openings.{member_begun, member_appended, member_ended, member_given_up}
use Rattle.wenc_base.specs.declared.fault.Fault.{Fault}
use Rattle.wenc_parts.specs.Aliases.{AliasOf, InstanceExport, CoreInstanceExport, Outer}
use Rattle.wenc_parts.specs.Imports.{kind_of}
use Rattle.wenc_parts.specs.declared.aliases.ComponentOuterAliasKind.{ComponentOuterAliasKind}
use Rattle.wenc_parts.specs.declared.aliases.ComponentOuterAliasKind.TheVariants as outers
use Rattle.wenc_parts.specs.declared.exports.ComponentExportKind.{ComponentExportKind}
use Rattle.wenc_parts.specs.declared.exports.ComponentExportKind.TheVariants as kinds
use Rattle.wenc_types.specs.ComponentTypes.{InstanceDeclaration, CoreTyped, Typed, Aliased}
use Rattle.wenc_types.specs.ComponentTypes.{Exported, ComponentDeclaration, Imported, Declared}
use Rattle.wenc_types.specs.ComponentTypes.{instance_declaration, component_declaration}
use Rattle.wenc_types.specs.CoreTypes.{ModuleDeclaration, ModuleImport, ModuleRecType}
use Rattle.wenc_types.specs.CoreTypes.{ModuleOuter as OuterType}
use Rattle.wenc_types.specs.CoreTypes.{ModuleExport, module_declaration}
use Rattle.wenc_types.specs.declared.counts.Counts.{Counts}
use Rattle.wenc_types.specs.declared.counts.IndexSpace.{IndexSpace}
use Rattle.wenc_types.specs.declared.counts.IndexSpace.TheVariants.{CoreType, «Type» as TypeSpace}
use Rattle.wenc_types.specs.declared.counts.IndexSpace.TheVariants.{Instance}

-- ---- what a declaration counts as: a core type, a type, an instance, or nothing

abbrev pub space_of_kind : ComponentExportKind → Option IndexSpace
space_of_kind kinds.Module = None
space_of_kind kinds.Func = None
space_of_kind kinds.Value = None
space_of_kind kinds.«Type» = Some TypeSpace
space_of_kind kinds.Instance = Some Instance
space_of_kind kinds.Component = None

abbrev pub space_of_outer : ComponentOuterAliasKind → Option IndexSpace
space_of_outer outers.CoreModule = None
space_of_outer outers.CoreType = Some CoreType
space_of_outer outers.«Type» = Some TypeSpace
space_of_outer outers.Component = None

abbrev pub space_of_alias : AliasOf → Option IndexSpace
space_of_alias (InstanceExport instance kind name) = space_of_kind kind
space_of_alias (CoreInstanceExport instance kind name) = None
space_of_alias (Outer kind count number) = space_of_outer kind

abbrev pub module_space : ModuleDeclaration → Option IndexSpace
module_space (ModuleImport from name ty) = None
module_space (ModuleRecType g) = Some TypeSpace
module_space (OuterType count number) = Some TypeSpace
module_space (ModuleExport name ty) = None

abbrev pub instance_space : InstanceDeclaration → Option IndexSpace
instance_space (CoreTyped ty) = Some CoreType
instance_space (Typed ty) = Some TypeSpace
instance_space (Aliased to) = space_of_alias to
instance_space (Exported name ty) = space_of_kind (kind_of ty)

abbrev pub component_space : ComponentDeclaration → Option IndexSpace
component_space (Imported name ty) = space_of_kind (kind_of ty)
component_space (Declared d) = instance_space d

abbrev pub no_counts : Counts
no_counts = record { core_types = 0; types = 0; instances = 0 }

-- one more of this space
abbrev pub one_more : Option IndexSpace → Counts → Counts
one_more None n = n
one_more (Some CoreType) n =
    record { core_types = n.core_types + 1; types = n.types; instances = n.instances }
one_more (Some TypeSpace) n =
    record { core_types = n.core_types; types = n.types + 1; instances = n.instances }
one_more (Some Instance) n =
    record { core_types = n.core_types; types = n.types; instances = n.instances + 1 }

-- how many there are of each space
abbrev pub counts_of : {D : Type 0} → (D → Option IndexSpace) → List D → Counts
counts_of space [] = no_counts
counts_of space (d ∷ ds) = one_more (space d) (counts_of space ds)

-- ---- what contracts see of a type with declarations

-- `begun`: what is being written counts as this.
pub record TypeState : Type 0 where
  pub held : HolderState
  pub counts : Counts
  pub begun : Option IndexSpace

abbrev pub no_declarations : TypeState
no_declarations = record { held = no_members; counts = no_counts; begun = None }

-- nothing is being written
pub record NoneBegun (t : TypeState) : Type 0 where
  pub finished : is_finished t.held ≡ true
  pub none_begun : t.begun ≡ None

-- It has just these declarations, each with its text, and counts them.
pub record Declares {D : Type 0} (form : Form D) (space : D → Option IndexSpace) (t : TypeState)
    (ds : List D) : Type 0 where
  pub contained : Contains form t.held ds
  pub counts : t.counts ≡ counts_of space ds

-- the type of a module, of an instance or of a component has just these declarations
abbrev pub ModuleDeclares : TypeState → List ModuleDeclaration → Type 0
ModuleDeclares = Declares module_declaration module_space

abbrev pub InstanceDeclares : TypeState → List InstanceDeclaration → Type 0
InstanceDeclares = Declares instance_declaration instance_space

abbrev pub ComponentDeclares : TypeState → List ComponentDeclaration → Type 0
ComponentDeclares = Declares component_declaration component_space

-- These bytes are the text of a declaration that fits and counts as this.
pub record IsDeclaration {D : Type 0} (form : Form D) (space : D → Option IndexSpace)
    (bytes : List ℕ) (counts_as : Option IndexSpace) : Type 0 where
  pub declaration : D
  pub fits : (form declaration).Fits
  pub text_is : bytes ≡ (form declaration).text
  pub space_is : counts_as ≡ space declaration

-- It has some declarations, each with its text, and counts them.
pub record DeclaresSome {D : Type 0} (form : Form D) (space : D → Option IndexSpace)
    (t : TypeState) : Type 0 where
  pub declarations : List D
  pub declared : Declares form space t declarations

-- A call adds this declaration, or is refused for a cause and changes nothing.
pub record AddsDeclaration {D : Type 0} (form : Form D) (space : D → Option IndexSpace)
    (old new : TypeState) (outcome : Result (Unit {0}) Fault) (d : D) : Type 0 where
  pub added : AddsMember (form d) old.held new.held outcome
  pub counts : OnOk outcome (new.counts ≡ one_more (space d) old.counts)
  pub begun : OnOk outcome (new.begun ≡ old.begun)
  pub declared : OnOk outcome
      ((ds : List D) → Declares form space old ds → Declares form space new (ds ++ d ∷ []))
  pub err : OnErr outcome (new ≡ old)

-- A call adds the declaration of a type that a declaration of an instance type is there.
abbrev pub AddsDeclared : {D : Type 0} → Form D → (D → Option IndexSpace) → TypeState → TypeState
    → Result (Unit {0}) Fault → Option D → Type 0
AddsDeclared form space old new outcome None = ⊥
AddsDeclared form space old new outcome (Some d) = AddsDeclaration form space old new outcome d

-- A declaration of a type is this one of an instance type: it has its text and its space.
abbrev pub DeclaredAs : {D : Type 0} → Form D → (D → Option IndexSpace) → Option D
    → InstanceDeclaration → Type 0
DeclaredAs form space None own = ⊥
DeclaredAs form space (Some d) own =
    Serves (instance_declaration own) (form d) × (instance_space own ≡ space d)

-- a call adds this declaration to the type of a module or of a component
abbrev pub AddsToModule : TypeState → TypeState → Result (Unit {0}) Fault → ModuleDeclaration
    → Type 0
AddsToModule = AddsDeclaration module_declaration module_space

abbrev pub AddsToComponent : TypeState → TypeState → Result (Unit {0}) Fault
    → ComponentDeclaration → Type 0
AddsToComponent = AddsDeclaration component_declaration component_space

-- how a call ended that returns an index if it succeeds
abbrev pub indexed_outcome : Result ℕ Fault → Result (Unit {0}) Fault
indexed_outcome (Ok index) = Ok tt
indexed_outcome (Err fault) = Err fault

-- ---- a type that is written by an encoder

-- its first byte
abbrev pub lead_of : IndexSpace → List ℕ
lead_of CoreType = 0x00 ∷ []
lead_of TypeSpace = 0x01 ∷ []
lead_of Instance = []

-- the type with these declarations
abbrev pub with_held : TypeState → HolderState → TypeState
with_held t held = record { held = held; counts = t.counts; begun = t.begun }

-- one type more, of which there is the first byte
abbrev pub type_begun : IndexSpace → TypeState → TypeState
type_begun space t =
    record {
      held = member_begun t.held (lead_of space);
      counts = one_more (Some space) t.counts;
      begun = Some space;
    }

-- more of that type
abbrev pub type_appended : TypeState → List ℕ → TypeState
type_appended t text = with_held t (member_appended t.held text)

-- the type is whole
abbrev pub type_ended : TypeState → TypeState
type_ended t = record { held = member_ended t.held; counts = t.counts; begun = None }

-- one less of this space
abbrev pub one_less : Option IndexSpace → Counts → Counts
one_less None n = n
one_less (Some CoreType) n =
    record { core_types = n.core_types - 1; types = n.types; instances = n.instances }
one_less (Some TypeSpace) n =
    record { core_types = n.core_types; types = n.types - 1; instances = n.instances }
one_less (Some Instance) n =
    record { core_types = n.core_types; types = n.types; instances = n.instances - 1 }

-- as it was before that type
abbrev pub type_given_up : TypeState → TypeState
type_given_up t =
    record { held = member_given_up t.held; counts = one_less t.begun t.counts; begun = None }
