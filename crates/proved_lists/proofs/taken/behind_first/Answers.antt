use Rattle.std.proofs.Common.{◌≡◌, ◌∙◌, length}
use Rattle.proved_lists.proofs.Left.{one_more}
use Rattle.proved_lists.proofs.taken.behind_first.Goals as goal

pub returns : goal.returns
returns c =
    let law = c.where_it_stands.ensures in
    let bytes = c.args.component.now in
    let all = c.in_ok-sections.sections in
    let left = c.next.new.self in
    let next = c.in_ok-next.ensures in
    let ends : left.ends ≡ length bytes = next.same_end ∙ c.in_ok-sections.ensures.ends in
    let header = law.header bytes all.rest.now c.in_ok-sections.ensures.begins in
    rw ends (law.place bytes left.rest.now (one_more law.section bytes all left c.in_ok-next.field-0 header next.taken next.unchanged))
