use Rattle.std.specs.String.{string_bytes}
use Rattle.wenc_base.specs.Prelude.{appends_as, entity_type, name}
use Rattle.wenc_types.proofs.Serving.{pair_serves, import_serves, outer_serves}
use Rattle.wenc_types.proofs.core_type_tree.ModuleDeclEncode.encode.Goals as goal

pub returns-in-Import-clause-appended : goal.returns-in-Import-clause-appended
returns-in-Import-clause-appended g c = rw c.in-Import.is
    (appends_as _ _ _ _ (import_serves (string_bytes c.in-Import.module) (string_bytes c.in-Import.name) c.in-Import.ty)
    (rw (c.as_str.ensures.value, c.as_str-in-Import.ensures.value) at c.encode.ensures.appended))

pub returns-in-Alias-clause-appended : goal.returns-in-Alias-clause-appended
returns-in-Alias-clause-appended g c = rw c.in-Alias.is (appends_as _ _ _ _ (outer_serves c.in-Alias.count c.in-Alias.index) c.encode-in-Alias.ensures.appended)

pub returns-in-Export-clause-appended : goal.returns-in-Export-clause-appended
returns-in-Export-clause-appended g c = rw c.in-Export.is
    (appends_as _ _ _ _ (pair_serves 0x03 (name (string_bytes c.in-Export.name)) (entity_type c.in-Export.ty))
    (rw c.as_str-in-Export.ensures.value at c.encode-in-Export.ensures.appended))
