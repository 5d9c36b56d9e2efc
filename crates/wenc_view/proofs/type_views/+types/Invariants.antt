use Rattle.std.proofs.Common.{◌≡◌, ◌≤◌, length, ◌-◌, ◌+◌, ◌*◌, List}
use Rattle.wenc_base.specs.Readers.{times}
use Rattle.wenc_types.specs.ComponentTypes.{ComponentDeclaration, InstanceDeclaration}
use Rattle.wenc_types.specs.reading.ComponentTypes.{read_type, read_instance_declaration}
use Rattle.wenc_types.specs.reading.ComponentTypes.{read_component_declaration}
use Rattle.wenc_view.specs.laws.Repeats.{with_front}
use Rattle.wenc_view.proofs.type_views.+types.Given as goal

abbrev pub decreases-type_at : goal.decreases-type_at
decreases-type_at l = 5 * l.depth_left + 1

abbrev pub decreases-component_type : goal.decreases-component_type
decreases-component_type l = 5 * l.depth_left

abbrev pub decreases-instance_type : goal.decreases-instance_type
decreases-instance_type l = 5 * l.depth_left

abbrev pub decreases-instance_decl : goal.decreases-instance_decl
decreases-instance_decl l = 5 * l.depth_left + 2

abbrev pub decreases-component_decl : goal.decreases-component_decl
decreases-component_decl l = 5 * l.depth_left + 3

abbrev pub decreases-instance_decls : goal.decreases-instance_decls
decreases-instance_decls l = 5 * l.depth_left + 4

abbrev pub decreases-component_decls : goal.decreases-component_decls
decreases-component_decls l = 5 * l.depth_left + 4

abbrev pub invariant-instance_decls-loop : goal.invariant-instance_decls-loop
invariant-instance_decls-loop l =
    let read = read_instance_declaration (read_type l.depth_left) in
    (vs : List InstanceDeclaration) × (with_front vs (times read (l.count - l.counter) l.rest) ≡ times read l.count l.bytes) × (length l.rest ≤ length l.bytes)

abbrev pub invariant-component_decls-loop : goal.invariant-component_decls-loop
invariant-component_decls-loop l =
    let read = read_component_declaration (read_type l.depth_left) in
    (vs : List ComponentDeclaration) × (with_front vs (times read (l.count - l.counter) l.rest) ≡ times read l.count l.bytes) × (length l.rest ≤ length l.bytes)
