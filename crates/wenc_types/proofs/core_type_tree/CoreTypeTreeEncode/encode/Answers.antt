use Rattle.wenc_base.specs.laws.Serves.{appends_as, fits_as}
use Rattle.wenc_types.proofs.Serving.{module_tree_serves}
use Rattle.wenc_types.proofs.core_type_tree.CoreTypeTreeEncode.encode.Goals as goal

pub returns-in-Module-clause-appended : goal.returns-in-Module-clause-appended
returns-in-Module-clause-appended g c = rw c.in-Module.is
    (appends_as _ _ _ _ (module_tree_serves c.in-Module.decls.items) (rw c.as_slice.ensures.value at c.encode-in-Module.ensures.appended))

pub returns-in-Module-clause-fits : goal.returns-in-Module-clause-fits
returns-in-Module-clause-fits g c = rw c.in-Module.is
    (fits_as _ (module_tree_serves c.in-Module.decls.items) (rw c.as_slice.ensures.value at c.encode-in-Module.ensures.fits))
