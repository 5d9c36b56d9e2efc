use Rattle.std.proofs.Common.{◌≡◌, ap}
use Rattle.std.specs.String.{string_bytes}
use Rattle.wenc_base.specs.Prelude.{read_name, read_u32}
use Rattle.wenc_parts.specs.Prelude.{name_tree_view, read_component_export_kind, read_extern_name}
use Rattle.wenc_sections.specs.Prelude.{Exports, Instantiate, named_triple, read_triple}
use Rattle.wenc_view.specs.Prelude.{list_view, name_seen}
use Rattle.wenc_decode.specs.Prelude.{copies_are}
use Rattle.wenc_decode.proofs.trees.instances.InstanceTreeTreeOfInstanceView.tree_of.Goals as goal

pub returns-in_ok-args-in-Instantiate : goal.returns-in_ok-args-in-Instantiate
returns-in_ok-args-in-Instantiate g c =
    rw c.in-Instantiate.is (ap (Instantiate c.in-Instantiate.component)
    (copies_are (λ t v. named_triple string_bytes t ≡ named_triple (λ s. s.now) v) (named_triple (λ s. s.now)) (named_triple string_bytes) (λ t v h. h)
    c.in_ok-args-in-Instantiate.args.items (list_view (read_triple read_name read_component_export_kind read_u32) c.in-Instantiate.args)
    c.in_ok-args-in-Instantiate.ensures))

pub returns-in_ok-exports-in-Exports : goal.returns-in_ok-exports-in-Exports
returns-in_ok-exports-in-Exports g c =
    rw c.in-Exports.is (ap Exports
    (copies_are (λ t v. named_triple name_tree_view t ≡ named_triple name_seen v) (named_triple name_seen) (named_triple name_tree_view) (λ t v h. h)
    c.in_ok-exports-in-Exports.exports.items (list_view (read_triple read_extern_name read_component_export_kind read_u32) c.in-Exports.exports)
    c.in_ok-exports-in-Exports.ensures))
