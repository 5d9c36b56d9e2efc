use Rattle.wenc_builder.specs.laws.Held.{whole_is_begun}
use Rattle.wenc_builder.proofs.builder.ComponentBuilderParent.end_member.Goals as goal

pub finish_member-requires-clause-unfinished : goal.finish_member-requires-clause-unfinished
finish_member-requires-clause-unfinished g c = whole_is_begun c.args.self.now c.requires
