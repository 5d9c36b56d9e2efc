use Rattle.std.proofs.Common.{◌≡◌, ◌+◌, take, take_all, arith}
use Rattle.wenc_list.proofs.Indices.{index_more, index_front}
use Rattle.wenc_list.proofs.counts.count.Goals as goal

pub add_item-requires : goal.add_item-requires
add_item-requires g c k =
    let i = c.loop-item.item-index in
    omega (
      arith,
      c.loop-item.invariant k,
      index_more c.args.items.now i c.item-item.result k c.loop-item-test.true c.item-item.is,
      index_front c.args.items.now (i + 1) k,
      c.requires k,
    )

pub loop-item-preserved : goal.loop-item-preserved
loop-item-preserved g c k = omega (
  arith,
  c.add_item.ensures k,
  c.loop-item.invariant k,
  index_more c.args.items.now c.loop-item.item-index c.item-item.result k c.loop-item-test.true c.item-item.is,
)

pub returns : goal.returns
returns g c k =
    let all : take c.loop-item.item-index c.args.items.now ≡ c.args.items.now = take_all c.loop-item.item-index c.args.items.now c.loop-item-test.false in
    rw all at (c.loop-item.invariant k)
