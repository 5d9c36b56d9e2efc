use Rattle.std.proofs.Common.{◌≡◌, ap, sym, ◌∙◌}
use Rattle.std.proofs.lemmas.List.{map-id}
use Rattle.std.specs.String.{string_bytes}
use Rattle.wenc_base.specs.Prelude.{read_name}
use Rattle.wenc_parts.specs.Prelude.{read_value_type}
use Rattle.wenc_types.specs.DefinedTypes as pure
use Rattle.wenc_types.specs.Prelude.{case_view, labelled_type_view, read_case, read_labelled_type}
use Rattle.wenc_view.specs.Prelude.{case_seen, labelled_seen, list_view}
use Rattle.wenc_decode.specs.Prelude.{copies_are}
use Rattle.wenc_decode.proofs.trees.DefinedTreeTreeOfDefinedView.tree_of.Goals as goal

pub returns-in_ok-fields-in-Record : goal.returns-in_ok-fields-in-Record
returns-in_ok-fields-in-Record g c = rw c.in-Record.is (ap pure.Record (copies_are (λ t v. labelled_type_view t ≡ labelled_seen v) labelled_seen
    labelled_type_view (λ t v h. h) c.in_ok-fields-in-Record.fields.items (list_view read_labelled_type c.in-Record.fields) c.in_ok-fields-in-Record.ensures))

pub returns-in_ok-cases-in-Variant : goal.returns-in_ok-cases-in-Variant
returns-in_ok-cases-in-Variant g c = rw c.in-Variant.is (ap pure.Variant (copies_are (λ t v. case_view t ≡ case_seen v) case_seen case_view
    (λ t v h. h) c.in_ok-cases-in-Variant.cases.items (list_view read_case c.in-Variant.cases) c.in_ok-cases-in-Variant.ensures))

pub returns-in_ok-elements-in-Tuple : goal.returns-in_ok-elements-in-Tuple
returns-in_ok-elements-in-Tuple g c = rw c.in-Tuple.is (ap pure.Tuple (sym (map-id c.in_ok-elements-in-Tuple.elements.items)
    ∙ copies_are (λ t v. t ≡ v) (λ v. v) (λ t. t) (λ t v h. h) c.in_ok-elements-in-Tuple.elements.items (list_view read_value_type c.in-Tuple.elements)
    c.in_ok-elements-in-Tuple.ensures))

pub returns-in_ok-names-in-Flags : goal.returns-in_ok-names-in-Flags
returns-in_ok-names-in-Flags g c = rw c.in-Flags.is (ap pure.Flags (copies_are (λ t v. string_bytes t ≡ v.now) (λ v. v.now) string_bytes
    (λ t v h. h) c.in_ok-names-in-Flags.names.items (list_view read_name c.in-Flags.names) c.in_ok-names-in-Flags.ensures))

pub returns-in_ok-names-in-Enum : goal.returns-in_ok-names-in-Enum
returns-in_ok-names-in-Enum g c = rw c.in-Enum.is (ap pure.Enumeration (copies_are (λ t v. string_bytes t ≡ v.now) (λ v. v.now) string_bytes
    (λ t v h. h) c.in_ok-names-in-Enum.names.items (list_view read_name c.in-Enum.names) c.in_ok-names-in-Enum.ensures))
