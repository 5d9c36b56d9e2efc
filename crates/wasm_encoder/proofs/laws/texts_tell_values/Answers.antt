use Rattle.wenc_base.specs.laws.Delimited.{told}
use Rattle.wasm_encoder.proofs.laws.texts_tell_values.Goals as goal

pub returns : goal.returns
returns g c = λ fits fits' r s same. told g.T.Encode.piece g.T.Delimited.reads_back.seen g.T.Delimited.reads_back.form g.T.Delimited.reads_back.readable
    g.met.T.Delimited.written c.args.a.now c.args.b.now r s fits fits' same
