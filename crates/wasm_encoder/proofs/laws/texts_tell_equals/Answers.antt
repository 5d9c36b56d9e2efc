use Rattle.wasm_encoder.proofs.laws.texts_tell_equals.Goals as goal

pub returns : goal.returns
returns g c = λ fits fits' r s same.
    let told = c.texts_tell_values.ensures fits fits' r s same in
    (g.met.T.DelimitedEq.alike g.met.T.Eq.laws c.args.a.now c.args.b.now told.0, told.1)
