use Rattle.wenc_base.specs.laws.Serves.{appends_as}
use Rattle.wenc_sections.proofs.Appended.{section_serves}
use Rattle.wenc_sections.proofs.names.ComponentNameSectionEncode.encode.Goals as goal

pub returns-clause-appended : goal.returns-clause-appended
returns-clause-appended g c =
    appends_as _ _ _ _ (section_serves c.args.self.now c.as_custom.ensures.fits)
    (rw (c.as_custom.ensures.name, c.as_custom.ensures.bytes) at c.encode.ensures.appended)

pub returns-clause-fits : goal.returns-clause-fits
returns-clause-fits g c = rw (c.as_custom.ensures.name, c.as_custom.ensures.bytes) at c.encode.ensures.fits
