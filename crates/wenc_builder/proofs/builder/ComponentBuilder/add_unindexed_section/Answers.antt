use Rattle.std.proofs.Common.{sym}
use Rattle.wenc_builder.specs.Prelude.{spaced, with_bytes}
use Rattle.wenc_builder.proofs.Standing.{without_index_outcome}
use Rattle.wenc_builder.proofs.builder.ComponentBuilder.add_unindexed_section.Goals as goal

pub invariant_of-self : goal.invariant_of-self
invariant_of-self g c = (
  without_index_outcome c.self.inside.buffer (spaced c.self.inside.spaces c.self.inside.undo) c.self.invariant.0
      (sym c.if-not-is_finished.ensures) c.add_section.new.self c.add_section.result
      (with_bytes (g.E.Encode.piece c.args.lead.now) c.args.bytes.now) c.requires c.add_section.ensures.stood.fits
      c.add_section.ensures.stood.ok c.add_section.ensures.stood.err,
  c.self.invariant.1,
)
