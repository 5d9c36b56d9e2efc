-- Readers of aliases.
use Rattle.std.specs.Prelude.{[], ◌∷◌}
use Rattle.wenc_base.specs.Readers.{Reader, ◌>>=◌, give, nowhere, choose}
use Rattle.wenc_base.specs.reading.Numbers.{read_u32}
use Rattle.wenc_base.specs.reading.Forms.{read_name}
use Rattle.wenc_base.specs.declared.exports.ExportKind.{ExportKind}
use Rattle.wenc_base.specs.declared.exports.ExportKind.TheVariants as cores
use Rattle.wenc_parts.specs.declared.exports.ComponentExportKind.{ComponentExportKind}
use Rattle.wenc_parts.specs.declared.exports.ComponentExportKind.TheVariants as kinds
use Rattle.wenc_parts.specs.declared.aliases.ComponentOuterAliasKind.{ComponentOuterAliasKind}
use Rattle.wenc_parts.specs.declared.aliases.ComponentOuterAliasKind.TheVariants as outers
use Rattle.wenc_parts.specs.Aliases.{AliasOf, InstanceExport, CoreInstanceExport, Outer}

-- ---- kinds

abbrev pub read_outer_kind : Reader ComponentOuterAliasKind
read_outer_kind = choose (
    (0x00, choose ((0x11, give outers.CoreModule) ∷ (0x10, give outers.CoreType) ∷ []) nowhere) ∷
    (0x03, give outers.«Type») ∷
    (0x04, give outers.Component) ∷ []) nowhere

-- ---- aliases

-- what follows the byte that says which form it is
abbrev pub read_export : ComponentExportKind → Reader AliasOf
read_export kind =
    read_u32 >>= λ instance. read_name >>= λ name. give (InstanceExport instance kind name)

abbrev pub read_core_exported : ExportKind → Reader AliasOf
read_core_exported kind =
    read_u32 >>= λ instance. read_name >>= λ name. give (CoreInstanceExport instance kind name)

abbrev pub read_core_export : ExportKind → Reader AliasOf
read_core_export kind = choose ((0x01, read_core_exported kind) ∷ []) nowhere

abbrev pub read_outer : ComponentOuterAliasKind → Reader AliasOf
read_outer kind = read_u32 >>= λ count. read_u32 >>= λ number. give (Outer kind count number)

-- if exports and outer items have this sort
abbrev pub read_export_or_outer : ComponentExportKind → ComponentOuterAliasKind → Reader AliasOf
read_export_or_outer kind outer =
    choose ((0x00, read_export kind) ∷ (0x02, read_outer outer) ∷ []) nowhere

-- if only exports have this sort
abbrev pub read_exported_alias : ComponentExportKind → Reader AliasOf
read_exported_alias kind = choose ((0x00, read_export kind) ∷ []) nowhere

-- an alias of a core sort
abbrev pub read_core_alias : Reader AliasOf
read_core_alias = choose (
    (0x00, read_core_export cores.Func) ∷
    (0x01, read_core_export cores.Table) ∷
    (0x02, read_core_export cores.Memory) ∷
    (0x03, read_core_export cores.Global) ∷
    (0x04, read_core_export cores.Tag) ∷
    (0x10, choose ((0x02, read_outer outers.CoreType) ∷ []) nowhere) ∷
    (0x11, read_export_or_outer kinds.Module outers.CoreModule) ∷ []) nowhere

abbrev pub read_alias : Reader AliasOf
read_alias = choose (
    (0x00, read_core_alias) ∷
    (0x01, read_exported_alias kinds.Func) ∷
    (0x02, read_exported_alias kinds.Value) ∷
    (0x03, read_export_or_outer kinds.«Type» outers.«Type») ∷
    (0x04, read_export_or_outer kinds.Component outers.Component) ∷
    (0x05, read_exported_alias kinds.Instance) ∷ []) nowhere
