use Rattle.std.proofs.Common.{rules}
use Rattle.wenc_base.proofs.Kept.{all_kept}
use Rattle.wenc_base.proofs.holder.Holder.keep_bytes.Goals as goal

pub invariant_of-self-2 : goal.invariant_of-self-2
invariant_of-self-2 g c =
    let fits = all_kept c.extend_in_room-2.new.sink.items c.len-self-inside.result (search rules) in
    (fits.0, fits.1, c.self.invariant.2)
