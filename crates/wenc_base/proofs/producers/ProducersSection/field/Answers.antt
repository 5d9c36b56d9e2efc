use Rattle.wenc_base.proofs.Produced.{typed_field}
use Rattle.wenc_base.proofs.producers.ProducersSection.field.Goals as goal

pub returns-clause-added : goal.returns-clause-added
returns-clause-added g c = λ tools holds. typed_field c.args.self.now c.add_field.new.self c.add_field.result c.args.name.now
    c.args.field.now tools holds c.add_field.ensures.added
