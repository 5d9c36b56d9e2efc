use Rattle.std.proofs.Common.{◌≡◌, ◌-◌, ◌+◌, ◌++◌, ◌∷◌, [], length, map, arith, length-append, ◌∙◌}
use Rattle.std.proofs.lemmas.List.{map_push}
use Rattle.std.proofs.lemmas.Result.{err_from_is_err_and}
use Rattle.wenc_base.specs.Prelude.{ends_on}
use Rattle.wenc_list.specs.Prelude.{fault_of_list, section_view}
use Rattle.wenc_list.proofs.Listed.{section_shorter, from_few, from_more, from_each, within_more, stops_here, listed_read, listed_within}
use Rattle.wenc_list.proofs.Listed.{listed_begins, some_opens}
use Rattle.wenc_list.proofs.Indices.{count_more, are_few}
use Rattle.wenc_list.proofs.Stops.{sections_leave, next_stops, section_stops}
use Rattle.wenc_list.proofs.Taken.{taken_fault}
use Rattle.wenc_list.proofs.listing.sections.Goals as goal

pub returns-in_err-items-clause-fault : goal.returns-in_err-items-clause-fault
returns-in_err-items-clause-fault g c =
    let p = err_from_is_err_and c.from_residual.result c.from_residual.ensures.1 in
    let all = c.args.from.ends in
    let left = c.loop-sections.left.rest.now in
    let i = c.loop-sections.invariant in
    rw (p.1, p.2) (stops_here all (c.loop-sections.left.ends - length left) (map section_view c.loop-sections.sections.items)
    c.args.from.rest.now left (fault_of_list c.in_err-items.field-0.0) (from_each all c.loop-sections.sections.items c.args.from.rest.now left i.read)
    i.within (omega (arith, i.shorter, i.same_end)) c.in_err-items.ensures.some c.in_err-items.ensures.fault)

pub returns-in_err-section-clause-fault : goal.returns-in_err-section-clause-fault
returns-in_err-section-clause-fault g c =
    let p = err_from_is_err_and c.from_residual-in_err-section.result c.from_residual-in_err-section.ensures.1 in
    let all = c.args.from.ends in
    let left = c.loop-sections.left.rest.now in
    let i = c.loop-sections.invariant in
    let o = rw c.in-Some.is at c.in_ok-items.ensures.taken in
    let f = c.in_err-section.ensures.fault in
    let some = some_opens c.loop-sections.left.ends left c.next_section.new.left.rest.now c.in-Some.items o in
    let here = taken_fault c.loop-sections.left.ends left c.next_section.new.left.rest.now c.in-Some.items f.xs f.left
    (fault_of_list c.in_err-section.field-0.0) o f.taken f.cause in
    rw (p.1, p.2) (stops_here all c.in-Some.items.place (map section_view c.loop-sections.sections.items) c.args.from.rest.now left
    (fault_of_list c.in_err-section.field-0.0) (from_each all c.loop-sections.sections.items c.args.from.rest.now left i.read) i.within
    (omega (arith, i.shorter, i.same_end, o.is_place)) some here)

pub returns-in_err-items-clause-stopped : goal.returns-in_err-items-clause-stopped
returns-in_err-items-clause-stopped g c bytes is_end ends =
    let p = err_from_is_err_and c.from_residual.result c.from_residual.ensures.1 in
    let i = c.loop-sections.invariant in
    let before = from_each c.args.from.ends c.loop-sections.sections.items c.args.from.rest.now c.loop-sections.left.rest.now i.read in
    let left = sections_leave (map section_view c.loop-sections.sections.items) c.args.from.rest.now c.loop-sections.left.rest.now before in
    rw (p.1, p.2) (next_stops bytes c.loop-sections.left c.in_err-items.field-0.0 (i.same_end ∙ is_end)
    (ends_on bytes c.args.from.rest.now c.loop-sections.left.rest.now ends left) c.in_err-items.ensures.stopped)

pub returns-in_err-section-clause-stopped : goal.returns-in_err-section-clause-stopped
returns-in_err-section-clause-stopped g c bytes is_end ends =
    let p = err_from_is_err_and c.from_residual-in_err-section.result c.from_residual-in_err-section.ensures.1 in
    let i = c.loop-sections.invariant in
    let before = from_each c.args.from.ends c.loop-sections.sections.items c.args.from.rest.now c.loop-sections.left.rest.now i.read in
    let left = sections_leave (map section_view c.loop-sections.sections.items) c.args.from.rest.now c.loop-sections.left.rest.now before in
    let o = rw c.in-Some.is at c.in_ok-items.ensures.taken in
    rw (p.1, p.2) (section_stops bytes c.loop-sections.left.rest.now c.next_section.new.left.rest.now c.loop-sections.left.ends c.in-Some.items
    c.in_err-section.field-0.0 (i.same_end ∙ is_end) (ends_on bytes c.args.from.rest.now c.loop-sections.left.rest.now ends left) o
    c.in_err-section.ensures.stopped)

pub returns-in_err-push-clause-stopped : goal.returns-in_err-push-clause-stopped
returns-in_err-push-clause-stopped g c bytes is_end ends =
    let p = err_from_is_err_and c.from_residual-in_err-push.result c.from_residual-in_err-push.ensures.1 in
    rw (p.1, p.2) tt

pub count-requires : goal.count-requires
count-requires g c k =
    let left = c.loop-sections.left in
    let before = c.loop-sections.sections.items in
    let s = c.in_ok-section.section in
    let o = rw c.in-Some.is at c.in_ok-items.ensures.taken in
    let read = listed_read left.ends left.rest.now c.next_section.new.left.rest.now c.in-Some.items s o c.in_ok-section.ensures.taken c.in_ok-section.ensures.id in
    let few = are_few s left.rest.now c.next_section.new.left.rest.now read k in
    let some = from_few c.args.from.ends before c.args.from.rest.now left.rest.now c.loop-sections.invariant.read in
    let room = c.ranges.from in
    rw c.deref.ensures.value (omega (arith, few, some, c.loop-sections.invariant.few k, c.requires))

pub loop-sections-smaller : goal.loop-sections-smaller
loop-sections-smaller g c =
    let left = c.loop-sections.left in
    let s = c.in_ok-section.section in
    let o = rw c.in-Some.is at c.in_ok-items.ensures.taken in
    section_shorter (section_view s) left.rest.now c.next_section.new.left.rest.now
    (listed_read left.ends left.rest.now c.next_section.new.left.rest.now c.in-Some.items s o c.in_ok-section.ensures.taken
    c.in_ok-section.ensures.id)

pub loop-sections-preserved : goal.loop-sections-preserved
loop-sections-preserved g c =
    let left = c.loop-sections.left in
    let i = c.loop-sections.invariant in
    let before = c.loop-sections.sections.items in
    let s = c.in_ok-section.section in
    let after = c.next_section.new.left.rest.now in
    let o = rw c.in-Some.is at c.in_ok-items.ensures.taken in
    let taken = c.in_ok-section.ensures.taken in
    let id = c.in_ok-section.ensures.id in
    let read = listed_read left.ends left.rest.now after c.in-Some.items s o taken id in
    let less = section_shorter (section_view s) left.rest.now after read in
    let views : map section_view c.push.new.self.items ≡ map section_view before ++ section_view s ∷ [] =
    rw c.in_ok-push.ensures.items (map_push section_view before s) in
    let longer : length c.push.new.self.items ≡ length before + 1 = rw c.in_ok-push.ensures.items (length-append before (s ∷ [])) in
    record {
      read = rw c.in_ok-push.ensures.items (from_more c.args.from.ends before s c.args.from.rest.now left.rest.now after i.read read
          (omega (arith, c.in_ok-section.ensures.placed, o.is_place, i.shorter, i.same_end))
          (omega (arith, c.in_ok-section.ensures.ended, o.is_end, less, i.shorter, i.same_end))
          (listed_begins left.ends left.rest.now after c.in-Some.items s o id));
      within = rw views (within_more (map section_view before) (section_view s) i.within (listed_within c.in-Some.items s taken));
      shorter = omega (arith, less, i.shorter);
      same_end = c.in_ok-items.ensures.same_end ∙ i.same_end;
      counted = λ k. rw c.in_ok-push.ensures.items (omega (arith, rw c.deref.ensures.value at (c.count.ensures k), i.counted k, count_more before s k));
      few = λ k.
          (let few = are_few s left.rest.now after read k in
          omega (arith, rw c.deref.ensures.value at (c.count.ensures k), i.few k, few, longer));
    }
