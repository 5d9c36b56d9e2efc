use Rattle.std.proofs.Common.{◌≡◌, true, subst, sym}
use Rattle.wenc_read.specs.Expected.{is_in}
use Rattle.proved_lists.proofs.expected.beginnings_of_types.Goals as goal

pub returns-clause-others : goal.returns-clause-others
returns-clause-others c levels b rest x e = subst (λ ranges. is_in ranges b ≡ true)
    (sym c.ranges-2.ensures) ((c.expected_bytes_begin.ensures.ty levels).others_fail b rest x e)

pub returns-clause-each : goal.returns-clause-each
returns-clause-each c levels b small is = (c.expected_bytes_begin.ensures.ty levels).each_begins b small
    (subst (λ ranges. is_in ranges b ≡ true) c.ranges-2.ensures is)
