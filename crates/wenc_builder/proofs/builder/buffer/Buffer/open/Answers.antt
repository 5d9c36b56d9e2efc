use Rattle.std.proofs.Common.{rules}
use Rattle.wenc_builder.specs.inside.Layout.{kind_id}
use Rattle.wenc_builder.proofs.Laid.{neighbour_free, apart_free}
use Rattle.wenc_builder.proofs.builder.buffer.Buffer.open.Goals as goal

pub returns-then-ne-clause-free : goal.returns-then-ne-clause-free
returns-then-ne-clause-free g c = apart_free c.open_apart.result c.args.self.now.settled (kind_id c.args.kind) (search rules)

pub returns-else-ne-clause-free : goal.returns-else-ne-clause-free
returns-else-ne-clause-free g c =
    let b = c.self.inside in
    neighbour_free c.open.result b.holder b.closed_len b.kind b.earlier c.in-Some.open
    (kind_id c.args.kind) c.args.self.now c.self.view_is c.requires c.in-Some.is (search rules) c.open.ensures.opened.free

pub returns-in-None-clause-free : goal.returns-in-None-clause-free
returns-in-None-clause-free g c = apart_free c.open_apart-in-None.result c.args.self.now.settled (kind_id c.args.kind) (search rules)
