-- The names that clauses cite, re-exported from the files that define them.
pub use Rattle.wenc.specs.Parts.{parted}
pub use Rattle.wenc.specs.Fields.{flag_word, hex, kind, number_word, numbers, reference_word}
pub use Rattle.wenc.specs.Builtins.{builtin_said, one_of, values_said}
pub use Rattle.wenc.specs.Script.{alias_command, append_names_command, command_of, commands_from}
pub use Rattle.wenc.specs.Script.{core_module_command, export_command, has_empty, import_command}
pub use Rattle.wenc.specs.Script.{line_command, script, start_command}
pub use Rattle.wenc.specs.Words.{words_left}
pub use Rattle.wenc.specs.Built.{Builds}
pub use Rattle.wenc.specs.Printed.{answer_line, answer_lines, line_of}
pub use Rattle.wenc.specs.Run.{AppendsFront, EndsRun, PrintsAccepted, Says, fault_report, usage}
pub use Rattle.wenc.specs.Listed.{IsList, counts_line, fault_line, listing_text, place_line}
pub use Rattle.wenc.specs.Listed.{section_line, section_lines, text_bytes, with_space}
pub use Rattle.wenc.specs.Listed.{without_line_end}
pub use Rattle.wenc.specs.ListRun.{EndsListing}
pub use Rattle.wenc.specs.inside.Full.{kind_and_index, unless_word_empty}
pub use Rattle.wenc.specs.inside.Lines.{IsTextInFront, RunsLine}
pub use Rattle.wenc.specs.inside.ListSteps.{ListsText, NotDecoded, ReadsListing, ReadsText}
pub use Rattle.wenc.specs.inside.ListSteps.{ReportsUnlisted}
pub use Rattle.wenc.specs.inside.Steps.{IsStatusOf, IsWholeRun, Reads, ReadsWhole, Reported}
pub use Rattle.wenc.specs.inside.Steps.{Translates, text_of}
pub use Rattle.wenc.specs.declared.failure.Failure.{Failure}
