use Rattle.std.proofs.Common.{refl, inl, arith}
use Rattle.wenc_list.proofs.Listed.{never_framed, no_frame}
use Rattle.wenc_list.proofs.SectionLaws.{is_framed}
use Rattle.wenc_list.proofs.Taken.{section_leaves, count_holds, no_count, collects_other, uncounted, uncounted_fault}
use Rattle.wenc_list.proofs.cursor.Sections.next_or_refusal.Goals as goal

pub returns-in-Ok-counted-clause-taken : goal.returns-in-Ok-counted-clause-taken
returns-in-Ok-counted-clause-taken c =
    let id = c.in-Ok.id in
    let content = c.in-Ok.content.now in
    let framed = is_framed c.args.self.now.rest.now id content c.in-Ok.rest.now c.in-Ok.ensures.found in
    let holds = count_holds id content c.in-Ok-counted.left c.in-Ok-counted.items.now c.in-Ok-counted.ensures.found in
    record {
      content = content;
      framed = framed;
      holds = holds;
      leaves = section_leaves c.args.self.now.rest.now id content c.in-Ok.rest.now c.in-Ok-counted.left c.in-Ok-counted.items.now framed holds;
      is_place = c.place-place.ensures;
      is_end = c.place.ensures;
    }

pub returns-in-Err-counted-clause-fault : goal.returns-in-Err-counted-clause-fault
returns-in-Err-counted-clause-fault c =
    let id = c.in-Ok.id in
    let content = c.in-Ok.content.now in
    let bad = c.in-Err-counted.ensures.found in
    let framed = is_framed c.args.self.now.rest.now id content c.in-Ok.rest.now c.in-Ok.ensures.found in
    let f = uncounted_fault 0 c.args.self.now.rest.now id content c.in-Ok.rest.now framed (collects_other id (no_count id content bad)) bad in
    (refl, f.1, f.2)

pub returns-in-Err-counted-clause-unopened : goal.returns-in-Err-counted-clause-unopened
returns-in-Err-counted-clause-unopened c =
    let id = c.in-Ok.id in
    let content = c.in-Ok.content.now in
    let bad = c.in-Err-counted.ensures.found in
    let collecting = no_count id content bad in (
      record {
        rest = c.in-Ok.rest.now;
        framed = is_framed c.args.self.now.rest.now id content c.in-Ok.rest.now c.in-Ok.ensures.found;
        collecting = collecting;
        never = λ n items r. uncounted id content bad n items (inl (collecting, r));
        none_left = omega arith;
        is_place = c.place-place.ensures;
        is_end = c.saturating_sub.ensures;
      },
      c.in-Err-counted.ensures.refused,
    )

pub returns-in-Err-clause-unopened : goal.returns-in-Err-clause-unopened
returns-in-Err-clause-unopened c = (λ id content rest. never_framed c.args.self.now.rest.now id content rest c.in-Err.ensures.found, c.in-Err.ensures.refused)

pub returns-in-Err-clause-fault : goal.returns-in-Err-clause-fault
returns-in-Err-clause-fault c =
    let f = no_frame 0 c.args.self.now.rest.now c.in-Err.ensures.found in
    (refl, f.1, f.2)
