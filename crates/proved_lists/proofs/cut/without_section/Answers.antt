use Rattle.std.proofs.Common.{length, refl, arith}
use Rattle.std.proofs.lemmas.Option.{slice_get_read}
use Rattle.proved_lists.proofs.cut.without_section.Goals as goal

pub split_at-requires : goal.split_at-requires
split_at-requires g c =
    let sections = c.args.sections.now in
    let s = c.index-sections-index in
    let inside = c.own_bytes.ensures.inside c.args.bytes.now sections c.args.index s.result c.requires.listed
    (slice_get_read sections (length sections) c.args.index s.result refl c.requires.one_of_them s.is) in
    omega (arith, inside.0, inside.1)

pub split_at-requires-2 : goal.split_at-requires-2
split_at-requires-2 g c =
    let sections = c.args.sections.now in
    let s = c.index-sections-index in
    let inside = c.own_bytes.ensures.inside c.args.bytes.now sections c.args.index s.result c.requires.listed
    (slice_get_read sections (length sections) c.args.index s.result refl c.requires.one_of_them s.is) in
    inside.1

pub returns : goal.returns
returns g c =
    let sections = c.args.sections.now in
    let s = c.index-sections-index in
    let others = c.own_bytes.ensures.others c.args.bytes.now sections c.args.index s.result c.requires.listed
    (slice_get_read sections (length sections) c.args.index s.result refl c.requires.one_of_them s.is) in
    rw (c.in_ok-extend_from_slice.ensures.items, c.in_ok-left.ensures.items, c.split_at.ensures.front, c.split_at-2.ensures.back) others
