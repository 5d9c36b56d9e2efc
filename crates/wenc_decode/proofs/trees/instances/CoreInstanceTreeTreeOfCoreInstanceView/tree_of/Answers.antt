use Rattle.std.proofs.Common.{◌≡◌, ap}
use Rattle.std.specs.String.{string_bytes}
use Rattle.wenc_base.specs.Prelude.{read_core_export_kind, read_name, read_u32}
use Rattle.wenc_parts.specs.Prelude.{read_module_argument}
use Rattle.wenc_sections.specs.Prelude.{CoreExports, CoreInstantiate, named_pair, named_triple}
use Rattle.wenc_sections.specs.Prelude.{read_pair, read_triple}
use Rattle.wenc_view.specs.Prelude.{list_view}
use Rattle.wenc_decode.specs.Prelude.{copies_are}
use Rattle.wenc_decode.proofs.trees.instances.CoreInstanceTreeTreeOfCoreInstanceView.tree_of.Goals as goal

pub returns-in_ok-args-in-Instantiate : goal.returns-in_ok-args-in-Instantiate
returns-in_ok-args-in-Instantiate g c =
    rw c.in-Instantiate.is (ap (CoreInstantiate c.in-Instantiate.module)
    (copies_are (λ t v. named_pair string_bytes t ≡ named_pair (λ s. s.now) v) (named_pair (λ s. s.now)) (named_pair string_bytes) (λ t v h. h)
    c.in_ok-args-in-Instantiate.args.items (list_view (read_pair read_name read_module_argument) c.in-Instantiate.args) c.in_ok-args-in-Instantiate.ensures))

pub returns-in_ok-exports-in-Exports : goal.returns-in_ok-exports-in-Exports
returns-in_ok-exports-in-Exports g c =
    rw c.in-Exports.is (ap CoreExports
    (copies_are (λ t v. named_triple string_bytes t ≡ named_triple (λ s. s.now) v) (named_triple (λ s. s.now)) (named_triple string_bytes) (λ t v h. h)
    c.in_ok-exports-in-Exports.exports.items (list_view (read_triple read_name read_core_export_kind read_u32) c.in-Exports.exports)
    c.in_ok-exports-in-Exports.ensures))
