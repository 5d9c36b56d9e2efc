use Rattle.std.proofs.Common.{arith, length-append}
use Rattle.wenc_base.specs.Number.{groups, turned}
use Rattle.wenc_base.proofs.Groups.{writing_last, writing_room}
use Rattle.wenc_base.proofs.short.Short.signed_groups.Goals as goal

pub push-requires : goal.push-requires
push-requires c = omega (
  arith,
  writing_room 64 c.args.is_negative _ _ _ c.loop-rest.invariant,
  length-append c.args.self.now (turned c.args.is_negative (groups 64 9 c.args.magnitude)),
)

pub push-requires-2 : goal.push-requires-2
push-requires-2 c = omega (
  arith,
  writing_room 64 c.args.is_negative _ _ _ c.loop-rest.invariant,
  length-append c.args.self.now (turned c.args.is_negative (groups 64 9 c.args.magnitude)),
)

pub returns : goal.returns
returns c = rw (c.push-2.ensures, c.turned_byte-2.ensures) (writing_last 64 c.args.is_negative _ _ _ c.loop-rest.invariant (omega arith))
