use Rattle.wenc_base.specs.laws.Serves.{appends_as, fits_as}
use Rattle.wenc_types.proofs.Serving.{component_tree_serves, instance_tree_serves}
use Rattle.wenc_types.proofs.type_tree.+encode.Goals as goal

pub TypeTreeEncode::encode-returns-in-Component-clause-appended : goal.TypeTreeEncode::encode-returns-in-Component-clause-appended
TypeTreeEncode::encode-returns-in-Component-clause-appended g t c =
    rw c.in-Component.is (appends_as _ _ _ _ (component_tree_serves c.in-Component.decls) c.encode_members.ensures.appended)

pub TypeTreeEncode::encode-returns-in-Component-clause-fits : goal.TypeTreeEncode::encode-returns-in-Component-clause-fits
TypeTreeEncode::encode-returns-in-Component-clause-fits g t c =
    rw c.in-Component.is (fits_as _ (component_tree_serves c.in-Component.decls) c.encode_members.ensures.fits)

pub TypeTreeEncode::encode-returns-in-Instance-clause-appended : goal.TypeTreeEncode::encode-returns-in-Instance-clause-appended
TypeTreeEncode::encode-returns-in-Instance-clause-appended g t c =
    rw c.in-Instance.is (appends_as _ _ _ _ (instance_tree_serves c.in-Instance.decls) c.encode_members-in-Instance.ensures.appended)

pub TypeTreeEncode::encode-returns-in-Instance-clause-fits : goal.TypeTreeEncode::encode-returns-in-Instance-clause-fits
TypeTreeEncode::encode-returns-in-Instance-clause-fits g t c =
    rw c.in-Instance.is (fits_as _ (instance_tree_serves c.in-Instance.decls) c.encode_members-in-Instance.ensures.fits)
