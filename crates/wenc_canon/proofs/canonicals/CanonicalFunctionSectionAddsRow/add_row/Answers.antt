use Rattle.wenc_base.specs.Prelude.{adds_as, keeps_added}
use Rattle.wenc_canon.specs.Prelude.{builtin_by, builtin_serves, canonical}
use Rattle.wenc_canon.proofs.canonicals.CanonicalFunctionSectionAddsRow.add_row.Goals as goal

pub returns : goal.returns
returns g c =
    rw (← c.self.view_is) (adds_as _ _ _ (builtin_serves c.args.row.0.now c.args.row.1 g.F.Fields.kinds
    (g.F.Fields.values c.args.fields.now) (g.met.F.Fields.written c.args.fields.now) c.requires.row) c.add_encoded.ensures.added)

pub invariant_of-self : goal.invariant_of-self
invariant_of-self g c =
    keeps_added canonical c.self.inside.functions c.add_encoded.new.self c.add_encoded.result
    (builtin_by c.args.row.1 g.F.Fields.kinds (g.F.Fields.values c.args.fields.now))
    (adds_as _ _ _ (builtin_serves c.args.row.0.now c.args.row.1 g.F.Fields.kinds (g.F.Fields.values c.args.fields.now)
    (g.met.F.Fields.written c.args.fields.now) c.requires.row) c.add_encoded.ensures.added) c.self.invariant
