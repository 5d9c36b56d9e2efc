use Rattle.std.proofs.Common.{◌≡◌, ◌++◌, length, map}
use Rattle.std.specs.List.{flat_map}
use Rattle.std.specs.Vec.Iter.{into_iter_items, into_iter_len}
use Rattle.wasm_encoder.specs.Prelude.{command_of, command_view}
use Rattle.wenc_builder.specs.Prelude.{members}
use Rattle.wenc_list.specs.Prelude.{section_view}
use Rattle.proved_tests.proofs.rebuilt.rebuilt.Given as goal

abbrev pub invariant-loop-section : goal.invariant-loop-section
invariant-loop-section g l =
    (map command_view l.commands.items ≡ map command_of (flat_map members (map section_view l.yielded)))
    × (into_iter_items l.initial.section-iterator ≡ l.yielded ++ into_iter_items l.section-iterator)
    × (into_iter_len l.section-iterator ≡ length (into_iter_items l.section-iterator))
