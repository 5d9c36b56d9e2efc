use Rattle.wenc_types.specs.Prelude.{core_type}
use Rattle.wenc_base.specs.Prelude.{opened_whole, serves_itself}
use Rattle.wenc_sections.proofs.types.Counted+CoreTypes+A.ty.Goals as goal

pub new-requires-clause-whole : goal.new-requires-clause-whole
new-requires-clause-whole g c v = opened_whole core_type c.self.inside.items c.open.new.self c.in_ok-open.ensures.opened.ok v serves_itself
