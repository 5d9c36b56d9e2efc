use Rattle.wenc_base.specs.laws.Serves.{appends_as, fits_as}
use Rattle.wenc_sections.proofs.Served.{exported_serves}
use Rattle.wenc_sections.proofs.instance_trees.encode_export.Goals as goal

pub returns-clause-appended : goal.returns-clause-appended
returns-clause-appended g c = appends_as _ _ _ _ (exported_serves _ _ c.as_name.ensures c.args.export.now.1 c.args.export.now.2) c.encode.ensures.appended

pub returns-clause-fits : goal.returns-clause-fits
returns-clause-fits g c = fits_as _ (exported_serves _ _ c.as_name.ensures c.args.export.now.1 c.args.export.now.2) c.encode.ensures.fits
