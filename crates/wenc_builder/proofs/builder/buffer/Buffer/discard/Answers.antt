use Rattle.wenc_builder.proofs.Laid.{back_fits}
use Rattle.wenc_builder.proofs.builder.buffer.Buffer.discard.Goals as goal

pub go_back-requires-clause-fits : goal.go_back-requires-clause-fits
go_back-requires-clause-fits g c =
    rw c.kept-kept.ensures (back_fits c.self.inside.holder c.self.inside.closed_len c.self.inside.kind c.self.inside.earlier
    c.in-Some.earlier c.self.invariant c.in-Some.is)
