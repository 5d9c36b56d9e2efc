use Rattle.std.proofs.Common.{ℕ, List, ◌-◌, length, refl}
use Rattle.wenc_base.proofs.Bytes.{bytes_below}
use Rattle.wenc_base.specs.laws.Serves.{either_free}
use Rattle.wenc_builder.proofs.Bytes.{both_below, first_below}
use Rattle.wenc_builder.proofs.Laid.{stood}
use Rattle.wenc_builder.proofs.builder.buffer.Buffer.write_section.Goals as goal

pub returns-clause-stood : goal.returns-clause-stood
returns-clause-stood g c =
    let b = c.self.inside in
    let first : List ℕ = c.args.first.now in
    let head : List ℕ = c.args.head.now in
    let more : List ℕ = c.args.more.now in
    let lead = c.in_ok-items_end.ensures in
    let text = (g.E.Encode.piece c.args.lead.now).text in
    let kept = rw (
      lead.ok,
      c.kept_len-kept.ensures,
      c.as_slice-own_head.ensures.same,
      c.open_head-own_head.ensures,
      c.len-count.ensures.count,
      c.as_slice.ensures,
    ) at c.in_default.ensures.ok in
    record {
      ok = stood b.holder c.keep_bytes.new.self c.fill_kept.new.self text first more head c.args.gap
          (c.kept_len.result - length more) b.closed_len c.kept_len-self-inside.result b.kind b.earlier c.args.self.now c.self.invariant
          c.self.view_is c.requires.settled
          kept c.requires.gap_is_in (rw c.kept_len.ensures refl) c.fill_kept.ensures c.kept_len-self-inside.ensures;
      fits = (
        lead.fits,
        both_below _ _ (first_below (length first - c.args.gap) first (bytes_below first (λ i lt. (c.type_inv.first i).fits)))
            (both_below head more (bytes_below head (λ i lt. (c.type_inv.head i).fits)) (bytes_below more (λ i lt. (c.type_inv.more i).fits))),
      );
      free = either_free lead.free (λ fault never. never);
      err = tt;
      warranted = tt;
    }
