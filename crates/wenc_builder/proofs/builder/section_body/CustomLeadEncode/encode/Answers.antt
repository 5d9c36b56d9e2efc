use Rattle.std.proofs.Common.{◌≡◌, length, rules}
use Rattle.wenc_builder.proofs.Texts.{lead_fits}
use Rattle.wenc_builder.proofs.builder.section_body.CustomLeadEncode.encode.Goals as goal

pub returns-clause-fits : goal.returns-clause-fits
returns-clause-fits g c =
    let section = c.args.self.now.0.now in
    let len : c.in-Ok.name_len ≡ length section.name.now = search rules in
    lead_fits section.name.now section.data.now c.in-Ok.name_len c.in_ok-size.size c.encode.result len
    (rw c.from.ensures at c.in_ok-size.ensures.ok) c.encode.ensures.fits
