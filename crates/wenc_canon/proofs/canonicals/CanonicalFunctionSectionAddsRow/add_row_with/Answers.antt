use Rattle.wenc_base.specs.Prelude.{adds_listed_as, keeps_listed}
use Rattle.wenc_canon.specs.Prelude.{builtin_with, builtin_with_serves, canonical}
use Rattle.wenc_canon.proofs.canonicals.CanonicalFunctionSectionAddsRow.add_row_with.Goals as goal

pub returns : goal.returns
returns g c =
    rw (← c.self.view_is) (adds_listed_as g.I.Iterator.next_gives c.args.options _ _ _ _ _
    (builtin_with_serves c.args.row.0.now c.args.row.1 g.F.Fields.kinds (g.F.Fields.values c.args.fields.now)
    (g.met.F.Fields.written c.args.fields.now) c.requires.row) c.add_listed.ensures.added)

pub invariant_of-self : goal.invariant_of-self
invariant_of-self g c =
    keeps_listed canonical g.I.Iterator.next_gives c.args.options c.self.inside.functions c.add_listed.new.self c.add_listed.result
    (builtin_with c.args.row.1 g.F.Fields.kinds (g.F.Fields.values c.args.fields.now))
    (adds_listed_as g.I.Iterator.next_gives c.args.options _ _ _ _ _
    (builtin_with_serves c.args.row.0.now c.args.row.1 g.F.Fields.kinds (g.F.Fields.values c.args.fields.now)
    (g.met.F.Fields.written c.args.fields.now) c.requires.row) c.add_listed.ensures.added) c.self.invariant
