-- The names that clauses cite, re-exported from the files that define them.
pub use Rattle.wasm_encoder.specs.Command.{Add, AppendNames, CommandTree, Commands, Nest}
pub use Rattle.wasm_encoder.specs.Command.{command_view, commands_listed, no_more, then}
pub use Rattle.wasm_encoder.specs.ItemCommands.{command_of}
pub use Rattle.wasm_encoder.specs.Cause.{added, cause, first_cause, index_added, led}
pub use Rattle.wasm_encoder.specs.Ran.{HasRun, IsRefusal, IsStopped, Ran, RanFrom, RunsNext}
pub use Rattle.wasm_encoder.specs.Ran.{entries_after}
pub use Rattle.wasm_encoder.specs.AllForms.{FormName, form_of, value_of}
pub use Rattle.wasm_encoder.specs.Nameless.{AddsNameless}
pub use Rattle.wasm_encoder.specs.inside.Steps.{Answers, HasRunSome, StepsBack, StepsLeft, StepsRun}
pub use Rattle.wasm_encoder.specs.inside.Steps.{commands_view, indexed, without_index}
pub use Rattle.wasm_encoder.specs.WrittenTypes.{AreEntered, CoreFunctionsAreEntered}
pub use Rattle.wasm_encoder.specs.WrittenTypes.{FunctionsAreEntered, IsEntered, ListedAreEntered}
pub use Rattle.wasm_encoder.specs.WrittenTypes.{core_function_entry, function_entry}
pub use Rattle.wasm_encoder.specs.declared.command.Command.{Command}
pub use Rattle.wenc_base.specs.declared.fault.Fault.{Fault}
pub use Rattle.wenc_list.specs.declared.fault.ListFault.{ListFault}
pub use Rattle.wenc_parts.specs.declared.component.ComponentSectionId.{ComponentSectionId}
pub use Rattle.wenc_parts.specs.declared.types.PrimitiveValType.{PrimitiveValType}
pub use Rattle.wenc_sections.specs.declared.space.Space.{Space}
pub use Rattle.wenc_types.specs.declared.counts.IndexSpace.{IndexSpace}
