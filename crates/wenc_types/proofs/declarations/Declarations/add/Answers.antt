use Rattle.std.proofs.Common.{Ok, refl}
use Rattle.wenc_base.specs.laws.Holders.{adds_as}
use Rattle.wenc_base.specs.laws.Members.{was_finished}
use Rattle.wenc_types.specs.laws.Declarations.{declares_next}
use Rattle.wenc_types.specs.laws.TypeState.{declaring_added}
use Rattle.wenc_types.proofs.declarations.Declarations.add.Goals as goal

pub invariant_of-self-2 : goal.invariant_of-self-2
invariant_of-self-2 g c =
    let t = c.self.inside in
    let added = c.in_ok-add_encoded.ensures.added in
    rw (added.ok.state, c.counted-self-inside.ensures)
    (declaring_added g.K.DeclaredKind.form g.K.DeclaredKind.space (record { held = t.held; counts = t.counts; begun = t.begun })
    (g.E.Encode.piece c.args.declaration.now).text c.args.space
    (was_finished t.held _ added.unfinished_first) (c.requires added.ok.fits) c.self.invariant)

pub returns : goal.returns
returns g c = λ d serves e.
    let t = c.self.inside in
    let added = adds_as t.held c.add_encoded.new.self (Ok tt) serves c.in_ok-add_encoded.ensures.added in
    rw (← c.self.view_is, c.counted-self-inside.ensures, e) (record {
      added = added;
      counts = refl;
      begun = refl;
      declared = λ ds h. declares_next g.K.DeclaredKind.form g.K.DeclaredKind.space
          (record { held = t.held; counts = t.counts; begun = t.begun }) c.add_encoded.new.self d ds added.ok.state added.ok.fits h;
      err = tt;
    })
