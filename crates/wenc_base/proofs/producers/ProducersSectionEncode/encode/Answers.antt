use Rattle.std.proofs.Common.{rules, ◌≡◌, ◌+◌, length}
use Rattle.wenc_base.specs.Prelude.{appends_as, appends_finished, content_size, fits_as}
use Rattle.wenc_base.proofs.Produced.{section_serves}
use Rattle.wenc_base.proofs.producers.ProducersSectionEncode.encode.Goals as goal

pub returns-clause-appended : goal.returns-clause-appended
returns-clause-appended g c =
    let fields = c.self.inside.fields in
    let size : c.in_ok-size.size ≡ 10 + content_size fields.count (length fields.body) = search rules in
    rw (← c.self.view_is) (appends_finished _ _ _ _ _ (λ u. (let finished = c.if-not-is_finished.false in search rules))
    (appends_as _ _ _ _ (section_serves fields c.in_ok-size.size size (search rules)) c.encode.ensures.appended))

pub returns-clause-fits : goal.returns-clause-fits
returns-clause-fits g c =
    let fields = c.self.inside.fields in
    let size : c.in_ok-size.size ≡ 10 + content_size fields.count (length fields.body) = search rules in
    rw (← c.self.view_is) (fits_as _ (section_serves fields c.in_ok-size.size size (search rules)) c.encode.ensures.fits)
