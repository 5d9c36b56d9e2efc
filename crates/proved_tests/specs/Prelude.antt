-- The names that clauses cite, re-exported from the files that define them.
pub use Rattle.proved_tests.specs.Indexed.{IsIndexedAt}
pub use Rattle.wenc_base.specs.declared.fault.Fault.{Fault}
pub use Rattle.wenc_list.specs.declared.fault.ListFault.{ListFault}
pub use Rattle.wenc_parts.specs.declared.types.PrimitiveValType.{PrimitiveValType}
pub use Rattle.wenc_sections.specs.declared.space.Space.{Space}
