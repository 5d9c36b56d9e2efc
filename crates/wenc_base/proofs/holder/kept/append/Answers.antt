use Rattle.wenc_base.proofs.Bytes.{bytes_below, text_below}
use Rattle.wenc_base.proofs.holder.kept.append.Goals as goal

pub returns-clause-bytes : goal.returns-clause-bytes
returns-clause-bytes g c =
    text_below c.args.sink.now.items (g.E.Encode.piece c.args.value.now).text c.encode.new.sink.items c.encode.result c.encode.ensures.appended.ok
    (bytes_below c.encode.new.sink.items (λ i lt. c.type_inv.sink i 0 lt))
