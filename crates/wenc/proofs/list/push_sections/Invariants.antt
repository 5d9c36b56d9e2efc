use Rattle.std.proofs.Common.{◌≡◌, ◌++◌, drop, string_bytes}
use Rattle.wenc.specs.Listed.{section_lines}
use Rattle.wenc.proofs.list.push_sections.Given as goal

abbrev pub invariant-loop-section : goal.invariant-loop-section
invariant-loop-section g l = string_bytes l.text ++ section_lines (drop l.section-index l.sections) ≡ string_bytes l.fn.text ++ section_lines l.sections
