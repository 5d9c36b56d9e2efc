use Rattle.std.specs.Prelude.{String}
use Rattle.std.specs.String.{string_bytes}
use Rattle.wenc_base.specs.Prelude.{Form, appends_as, fits_as, name, serves_itself}
use Rattle.wenc_sections.specs.laws.Instances.{core_instantiate_serves, core_exports_serve}
use Rattle.wenc_sections.proofs.instance_trees.CoreInstanceTreeEncode.encode.Goals as goal

abbrev text : {A : Type 0} → Form (String A)
text s = name (string_bytes s)

pub returns-in-Instantiate-clause-appended : goal.returns-in-Instantiate-clause-appended
returns-in-Instantiate-clause-appended g c =
    rw c.in-Instantiate.is (appends_as _ _ _ _ (core_instantiate_serves text string_bytes
    (λ s. serves_itself) c.in-Instantiate.module c.in-Instantiate.args.items) (rw c.as_slice.ensures.value at c.encode.ensures.appended))

pub returns-in-Instantiate-clause-fits : goal.returns-in-Instantiate-clause-fits
returns-in-Instantiate-clause-fits g c =
    rw c.in-Instantiate.is (fits_as _ (core_instantiate_serves text string_bytes
    (λ s. serves_itself) c.in-Instantiate.module c.in-Instantiate.args.items) (rw c.as_slice.ensures.value at c.encode.ensures.fits))

pub returns-in-Exports-clause-appended : goal.returns-in-Exports-clause-appended
returns-in-Exports-clause-appended g c =
    rw c.in-Exports.is (appends_as _ _ _ _ (core_exports_serve text string_bytes (λ s. serves_itself) c.in-Exports.exports.items)
    (rw c.as_slice-in-Exports.ensures.value at c.encode-in-Exports.ensures.appended))

pub returns-in-Exports-clause-fits : goal.returns-in-Exports-clause-fits
returns-in-Exports-clause-fits g c =
    rw c.in-Exports.is (fits_as _ (core_exports_serve text string_bytes (λ s. serves_itself) c.in-Exports.exports.items)
    (rw c.as_slice-in-Exports.ensures.value at c.encode-in-Exports.ensures.fits))
