use Rattle.wenc_base.specs.Prelude.{adds_listed_as, keeps_listed}
use Rattle.wenc_canon.specs.Prelude.{Lower, canonical, lower_serves}
use Rattle.wenc_canon.proofs.canonicals.CanonicalFunctionSection.lower.Goals as goal

pub returns : goal.returns
returns g c = rw (← c.self.view_is) (adds_listed_as g.I.Iterator.next_gives c.args.options _ _ _ _ _ (lower_serves c.args.func) c.add_listed.ensures.added)

pub invariant_of-self : goal.invariant_of-self
invariant_of-self g c =
    keeps_listed canonical g.I.Iterator.next_gives c.args.options c.self.inside.functions c.add_listed.new.self c.add_listed.result (λ os. Lower c.args.func os)
    (adds_listed_as g.I.Iterator.next_gives c.args.options _ _ _ _ _ (lower_serves c.args.func) c.add_listed.ensures.added) c.self.invariant
