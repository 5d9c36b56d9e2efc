use Rattle.wenc_types.specs.Prelude.{FunctionType, def_type}
use Rattle.wenc_base.specs.Prelude.{opened_whole, serves_itself}
use Rattle.wenc_sections.proofs.types.Counted+ComponentTypes+A.function.Goals as goal

pub new-requires-clause-whole : goal.new-requires-clause-whole
new-requires-clause-whole g c v = opened_whole def_type c.self.inside.items c.open.new.self c.in_ok-open.ensures.opened.ok (FunctionType v) serves_itself
