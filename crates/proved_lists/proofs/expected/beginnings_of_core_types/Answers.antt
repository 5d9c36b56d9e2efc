use Rattle.std.proofs.Common.{◌≡◌, true, subst, sym}
use Rattle.wenc_read.specs.Expected.{is_in}
use Rattle.proved_lists.proofs.expected.beginnings_of_core_types.Goals as goal

pub returns-clause-others : goal.returns-clause-others
returns-clause-others c b rest x e = subst (λ ranges. is_in ranges b ≡ true)
    (sym c.ranges-2.ensures) (c.expected_core_bytes_begin.ensures.sub_type.others_fail b rest x e)

pub returns-clause-each : goal.returns-clause-each
returns-clause-each c b small is = c.expected_core_bytes_begin.ensures.sub_type.each_begins b small
    (subst (λ ranges. is_in ranges b ≡ true) c.ranges-2.ensures is)
