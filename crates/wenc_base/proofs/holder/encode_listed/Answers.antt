use Rattle.wenc_base.proofs.Runs.{lead_refused, values_refused, tail_warranted, tail_written}
use Rattle.wenc_base.proofs.holder.encode_listed.Goals as goal

pub returns-in-Err-clause-warranted : goal.returns-in-Err-clause-warranted
returns-in-Err-clause-warranted g c =
    lead_refused g.I.Iterator.next_gives (g.E.Encode.piece c.args.lead.now) g.T.Encode.piece
    (g.F.Encode.piece c.args.tail.now) c.args.values c.in-Err.fault c.in-Err.ensures.appended.warranted

pub returns-in-Err-encode_list-clause-warranted : goal.returns-in-Err-encode_list-clause-warranted
returns-in-Err-encode_list-clause-warranted g c =
    values_refused g.I.Iterator.next_gives (g.E.Encode.piece c.args.lead.now) g.T.Encode.piece
    (g.F.Encode.piece c.args.tail.now) c.args.values c.in-Err-encode_list.fault c.in-Err-encode_list.ensures.warranted

pub returns-in-Ok-clause-warranted : goal.returns-in-Ok-clause-warranted
returns-in-Ok-clause-warranted g c =
    tail_warranted g.I.Iterator.next_gives (g.E.Encode.piece c.args.lead.now) g.T.Encode.piece (g.F.Encode.piece c.args.tail.now) c.args.values
    c.encode.new.sink.items c.encode_list.new.sink.items c.encode-in-Ok.result c.in-Ok.ensures.ok c.encode-in-Ok.ensures.appended.warranted

pub returns-in-Ok-clause-ok : goal.returns-in-Ok-clause-ok
returns-in-Ok-clause-ok g c =
    tail_written g.I.Iterator.next_gives (g.E.Encode.piece c.args.lead.now) g.T.Encode.piece (g.F.Encode.piece c.args.tail.now) c.args.values
    c.encode.new.sink.items c.encode_list.new.sink.items c.args.sink.now.items c.encode-in-Ok.new.sink.items c.encode-in-Ok.result
    (record {
      items = c.in_default.ensures.appended.ok;
      fits = c.in_default.ensures.fits;
      no_cause =
          λ fault h. c.in_default.ensures.appended.encodable fault h;
    })
    c.in-Ok.ensures.ok
    c.encode-in-Ok.ensures.appended.ok c.encode-in-Ok.ensures.fits (λ fault h. c.encode-in-Ok.ensures.appended.encodable fault h)
