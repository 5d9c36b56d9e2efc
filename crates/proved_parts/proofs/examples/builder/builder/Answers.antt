use Rattle.std.proofs.Common.{◌≡◌, List, [], subst, codes}
use Rattle.wenc_parts.specs.Prelude.{plain_name}
use Rattle.wenc_builder.specs.Prelude.{Item, whole}
use Rattle.proved_parts.proofs.PassedOn.{same}
use Rattle.proved_parts.proofs.examples.builder.builder.Goals as goal

pub returns : goal.returns
returns g c =
    let P : List Item → Type 0 = λ xs. c.in_ok-bytes.bytes.items ≡ whole xs in
    let first = c.in_ok-index.ensures.held [] c.in_ok-builder.ensures.held in
    let second = c.in_ok-export.ensures.held _ first.0 in
    subst P (same _ (plain_name (codes "f")) _ (plain_name (codes "g")) _ 0 c.into.ensures c.into-2.ensures first.1) (c.in_ok-bytes.ensures.held _ second.0)
