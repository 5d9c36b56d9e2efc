use Rattle.std.proofs.Common.{ℕ, ◌+◌, slice_index, sym, ap, ◌∙◌, arith}
use Rattle.wenc_sections.specs.Space.{space_number}
use Rattle.wenc_builder.specs.Space.{defines}
use Rattle.wenc_list.specs.Items.{item_view}
use Rattle.wenc_list.proofs.Indices.{defined_so, defined_nowhere, own_space}
use Rattle.wenc_list.proofs.counts.add_item.Goals as goal

pub add-requires : goal.add-requires
add-requires g c =
    let k = c.in-Some.space in
    omega (
      arith,
      c.requires k,
      defined_so c.indices.result (defines (item_view c.args.item.now)) c.in-Some.space c.in-Some.number k
          c.indices.ensures c.in-Some.is,
      own_space c.in-Some.space c.in-Some.number,
    )

pub returns-in-Some : goal.returns-in-Some
returns-in-Some g c k = c.add.ensures k ∙ ap (λ (m : ℕ). slice_index c.args.counts.now (space_number k) + m)
    (sym (defined_so c.indices.result (defines (item_view c.args.item.now)) c.in-Some.space c.in-Some.number k c.indices.ensures
    c.in-Some.is))

pub returns-in-None : goal.returns-in-None
returns-in-None g c k = omega (arith, defined_nowhere c.indices.result (defines (item_view c.args.item.now)) k c.indices.ensures c.in-None.is)
