-- The names that clauses cite, re-exported from the files that define them.
pub use Rattle.proved_parts.specs.Own.{light, light_alike, light_lawful, light_written, read_light}
pub use Rattle.proved_parts.specs.declared.strangers.own.Light.{Light}
pub use Rattle.wenc_base.specs.declared.exports.ExportKind.{ExportKind}
pub use Rattle.wenc_base.specs.declared.types.ValType.{ValType}
pub use Rattle.wenc_canon.specs.declared.canonicals.CanonicalOption.{CanonicalOption}
pub use Rattle.wenc_parts.specs.declared.aliases.ComponentOuterAliasKind.{ComponentOuterAliasKind}
pub use Rattle.wenc_parts.specs.declared.exports.ComponentExportKind.{ComponentExportKind}
pub use Rattle.wenc_parts.specs.declared.imports.ComponentTypeRef.{ComponentTypeRef}
pub use Rattle.wenc_parts.specs.declared.imports.TypeBounds.{TypeBounds}
pub use Rattle.wenc_parts.specs.declared.types.ComponentValType.{ComponentValType}
pub use Rattle.wenc_parts.specs.declared.types.PrimitiveValType.{PrimitiveValType}
