use Rattle.wenc_base.specs.laws.Members.{keeps_added}
use Rattle.wenc_parts.specs.Aliases.{alias, alias_view}
use Rattle.wenc_sections.proofs.aliases.Counted+Aliases+A.alias.Goals as goal

pub invariant_of-self : goal.invariant_of-self
invariant_of-self g c = keeps_added alias c.self.inside.items c.add_encoded.new.self c.add_encoded.result
    (alias_view c.args.alias) c.add_encoded.ensures.added c.self.invariant
