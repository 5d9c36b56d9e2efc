-- Index spaces: which one an item of a kind has its index in (component model, explainer, "Index
-- Spaces").
use Rattle.std.specs.Prelude.{ℕ, Bool}
use Rattle.wenc_parts.specs.declared.exports.ComponentExportKind.{ComponentExportKind}
use Rattle.wenc_parts.specs.declared.exports.ComponentExportKind.TheVariants.{Module, Func, Value}
use Rattle.wenc_parts.specs.declared.exports.ComponentExportKind.TheVariants.{«Type» as TypeKind}
use Rattle.wenc_parts.specs.declared.exports.ComponentExportKind.TheVariants.{Instance, Component}
use Rattle.wenc_base.specs.declared.exports.ExportKind.{ExportKind}
use Rattle.wenc_base.specs.declared.exports.ExportKind.TheVariants as core_kinds
use Rattle.wenc_parts.specs.declared.aliases.ComponentOuterAliasKind.{ComponentOuterAliasKind}
use Rattle.wenc_parts.specs.declared.aliases.ComponentOuterAliasKind.TheVariants as outer_kinds
use Rattle.wenc_sections.specs.declared.space.Space.{Space}
use Rattle.wenc_sections.specs.declared.space.Space.TheVariants.{CoreModules, CoreFuncs}
use Rattle.wenc_sections.specs.declared.space.Space.TheVariants.{CoreTypes, CoreMemories}
use Rattle.wenc_sections.specs.declared.space.Space.TheVariants.{CoreTables, CoreInstances}
use Rattle.wenc_sections.specs.declared.space.Space.TheVariants.{CoreTags, CoreGlobals}
use Rattle.wenc_sections.specs.declared.space.Space.TheVariants.{Funcs, Instances, Values}
use Rattle.wenc_sections.specs.declared.space.Space.TheVariants.{Components, Types}
use Rattle.wenc_sections.specs.contracts.space.SpacePartialEq.TheImpl as equality
use Rattle.wenc_parts.specs.Aliases.{AliasOf, InstanceExport, CoreInstanceExport, Outer}

-- the thirteen spaces by their numbers, in the order of a builder's counts
abbrev pub space_number : Space → ℕ
space_number CoreModules = 0
space_number CoreFuncs = 1
space_number CoreTypes = 2
space_number CoreMemories = 3
space_number CoreTables = 4
space_number CoreInstances = 5
space_number CoreTags = 6
space_number CoreGlobals = 7
space_number Funcs = 8
space_number Instances = 9
space_number Values = 10
space_number Components = 11
space_number Types = 12

-- whether two spaces are the same: the derived equality of `Space`
abbrev pub space_eq : Space → Space → Bool
space_eq = equality.ghosts.eq

-- the space in which an item of this kind has its index
abbrev pub kind_space : ComponentExportKind → Space
kind_space Module = CoreModules
kind_space Func = Funcs
kind_space Value = Values
kind_space TypeKind = Types
kind_space Instance = Instances
kind_space Component = Components

-- the space in which a core item of this kind has its index
abbrev pub core_kind_space : ExportKind → Space
core_kind_space core_kinds.Func = CoreFuncs
core_kind_space core_kinds.Table = CoreTables
core_kind_space core_kinds.Memory = CoreMemories
core_kind_space core_kinds.Global = CoreGlobals
core_kind_space core_kinds.Tag = CoreTags

-- the space of the item to which an outer alias refers
abbrev pub outer_kind_space : ComponentOuterAliasKind → Space
outer_kind_space outer_kinds.CoreModule = CoreModules
outer_kind_space outer_kinds.CoreType = CoreTypes
outer_kind_space outer_kinds.«Type» = Types
outer_kind_space outer_kinds.Component = Components

-- an alias has its index in the space of the item to which it refers
abbrev pub alias_space : AliasOf → Space
alias_space (InstanceExport instance kind name) = kind_space kind
alias_space (CoreInstanceExport instance kind name) = core_kind_space kind
alias_space (Outer kind count number) = outer_kind_space kind
