use Rattle.std.proofs.Common.{rules, ◌+◌, ◌<◌, ◌^◌, length}
use Rattle.wenc_base.specs.Holder.{content_size}
use Rattle.wenc_base.proofs.Produced.{field_added}
use Rattle.wenc_base.proofs.producers.ProducersSection.add_field.Goals as goal

pub returns-clause-added : goal.returns-clause-added
returns-clause-added g c =
    let small : 10 + content_size c.add_encoded.new.self.count (length c.add_encoded.new.self.body) < 2 ^ 32 = search rules in
    rw (← c.self.view_is) (field_added c.self.inside.fields c.add_encoded.new.self c.args.name.now c.args.field.now
    c.in_ok-add_encoded.ensures.added.ok small (search rules))
