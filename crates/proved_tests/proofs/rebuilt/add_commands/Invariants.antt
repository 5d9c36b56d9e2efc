use Rattle.std.proofs.Common.{◌≡◌, ◌++◌, length, map}
use Rattle.std.specs.Vec.Iter.{into_iter_items, into_iter_len}
use Rattle.wasm_encoder.specs.Prelude.{command_of, command_view}
use Rattle.wenc_list.specs.Prelude.{item_view}
use Rattle.proved_tests.proofs.rebuilt.add_commands.Given as goal

abbrev pub invariant-loop-item : goal.invariant-loop-item
invariant-loop-item g l =
    (map command_view l.commands.items ≡ map command_view l.initial.commands.items ++ map command_of (map item_view l.yielded))
    × (l.fn.items.items ≡ l.yielded ++ into_iter_items l.item-iterator)
    × (into_iter_len l.item-iterator ≡ length (into_iter_items l.item-iterator))
