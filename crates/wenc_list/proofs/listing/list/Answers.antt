use Rattle.wenc_list.proofs.listing.list.Goals as goal

pub returns-in-Err-clause-or_deep : goal.returns-in-Err-clause-or_deep
returns-in-Err-clause-or_deep g c ss r = rw c.fault.ensures (c.in-Err.ensures.or_deep ss r)
