-- Readers of imports and of exports.
use Rattle.std.specs.Prelude.{ℕ, Option}
use Rattle.wenc_base.specs.Readers.{Reader, ◌>>=◌, give}
use Rattle.wenc_base.specs.reading.Forms.{read_option}
use Rattle.wenc_base.specs.reading.Numbers.{read_u32}
use Rattle.wenc_parts.specs.Imports.{ExternName}
use Rattle.wenc_parts.specs.declared.exports.ComponentExportKind.{ComponentExportKind}
use Rattle.wenc_parts.specs.declared.imports.ComponentTypeRef.{ComponentTypeRef}
use Rattle.wenc_parts.specs.reading.Exports.{read_component_export_kind}
use Rattle.wenc_parts.specs.reading.Imports.{read_type_reference, read_extern_name}
use Rattle.wenc_sections.specs.Exports.{Export}
use Rattle.wenc_sections.specs.Imports.{Import}

abbrev pub imported : ExternName → ComponentTypeRef → Import
imported name ty = record { name = name; ty = ty }

abbrev pub read_import : Reader Import
read_import = read_extern_name >>= λ name. read_type_reference >>= λ ty. give (imported name ty)

abbrev pub ascribed : ExternName → ComponentExportKind → ℕ → Option ComponentTypeRef → Export
ascribed name kind index ty = record { name = name; kind = kind; index = index; ty = ty }

abbrev pub read_inline_export : Reader Export
read_inline_export =
    read_extern_name >>= λ name. read_component_export_kind >>= λ kind. read_u32 >>= λ index.
    read_option read_type_reference >>= λ ty. give (ascribed name kind index ty)
