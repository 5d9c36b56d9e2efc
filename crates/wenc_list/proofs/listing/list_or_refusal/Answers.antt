use Rattle.std.proofs.Common.{map}
use Rattle.std.proofs.lemmas.Result.{err_from_is_err_and}
use Rattle.wenc_base.specs.Prelude.{Wide}
use Rattle.wenc_builder.specs.Prelude.{once}
use Rattle.wenc_list.specs.Prelude.{fault_of_list, section_view}
use Rattle.wenc_list.proofs.Faults.{only_deep, fault_behind}
use Rattle.wenc_list.proofs.Listed.{from_all, only_memory, same_sections, same_behind}
use Rattle.wenc_list.proofs.OwnBytes.{header_leaves}
use Rattle.wenc_list.proofs.listing.list_or_refusal.Goals as goal

pub returns-in-Err-clause-listed : goal.returns-in-Err-clause-listed
returns-in-Err-clause-listed g c ss r w = absurd (c.in-Err.ensures.fault.1 r.0 r.1)

pub returns-in_err-sections-in-Ok-clause-listed : goal.returns-in_err-sections-in-Ok-clause-listed
returns-in_err-sections-in-Ok-clause-listed g c ss r w =
    let p = err_from_is_err_and c.from_residual.result c.from_residual.ensures.1 in
    let same = same_behind c.args.bytes.now r.0 c.in-Ok.all.rest.now r.1 c.in-Ok.ensures.begins in
    rw (p.1, p.2) (only_memory c.in-Ok.all.ends c.in-Ok.all.rest.now (fault_of_list c.in_err-sections-in-Ok.field-0.0) c.in_err-sections-in-Ok.ensures.fault ss (rw same at r.2) w)

pub returns-in_err-sections-in-Ok-clause-no_header : goal.returns-in_err-sections-in-Ok-clause-no_header
returns-in_err-sections-in-Ok-clause-no_header g c h = absurd (h c.in-Ok.all.rest.now c.in-Ok.ensures.begins)

pub returns-in_ok-sections-in-Ok-clause-reading : goal.returns-in_ok-sections-in-Ok-clause-reading
returns-in_ok-sections-in-Ok-clause-reading g c = (
  c.in-Ok.all.rest.now,
  c.in-Ok.ensures.begins,
  from_all c.in-Ok.all.ends c.in_ok-sections-in-Ok.sections.items c.in-Ok.all.rest.now c.in_ok-sections-in-Ok.ensures.listed,
)

pub returns-in_ok-sections-in-Ok-clause-listed : goal.returns-in_ok-sections-in-Ok-clause-listed
returns-in_ok-sections-in-Ok-clause-listed g c ss r w =
    let same = same_behind c.args.bytes.now r.0 c.in-Ok.all.rest.now r.1 c.in-Ok.ensures.begins in
    same_sections (map section_view c.in_ok-sections-in-Ok.sections.items) ss c.in-Ok.all.rest.now
    (from_all c.in-Ok.all.ends c.in_ok-sections-in-Ok.sections.items c.in-Ok.all.rest.now c.in_ok-sections-in-Ok.ensures.listed)
    (rw same at r.2) c.in_ok-sections-in-Ok.ensures.within w

pub returns-in_ok-sections-in-Ok-clause-no_header : goal.returns-in_ok-sections-in-Ok-clause-no_header
returns-in_ok-sections-in-Ok-clause-no_header g c h = absurd (h c.in-Ok.all.rest.now c.in-Ok.ensures.begins)

pub returns-in-Err-clause-or_deep : goal.returns-in-Err-clause-or_deep
returns-in-Err-clause-or_deep g c ss r = absurd (c.in-Err.ensures.fault.1 r.0 r.1)

pub returns-in_err-sections-in-Ok-clause-or_deep : goal.returns-in_err-sections-in-Ok-clause-or_deep
returns-in_err-sections-in-Ok-clause-or_deep g c ss r =
    let p = err_from_is_err_and c.from_residual.result c.from_residual.ensures.1 in
    let same = same_behind c.args.bytes.now r.0 c.in-Ok.all.rest.now r.1 c.in-Ok.ensures.begins in
    rw (p.1, p.2) (only_deep c.in-Ok.all.ends c.in-Ok.all.rest.now (fault_of_list c.in_err-sections-in-Ok.field-0.0) c.in_err-sections-in-Ok.ensures.fault ss (rw same at r.2))

pub returns-in_ok-sections-in-Ok-clause-or_deep : goal.returns-in_ok-sections-in-Ok-clause-or_deep
returns-in_ok-sections-in-Ok-clause-or_deep g c ss r =
    once Wide Wide c.args.bytes.now (map section_view c.in_ok-sections-in-Ok.sections.items) ss (
      c.in-Ok.all.rest.now,
      c.in-Ok.ensures.begins,
      from_all c.in-Ok.all.ends c.in_ok-sections-in-Ok.sections.items
          c.in-Ok.all.rest.now c.in_ok-sections-in-Ok.ensures.listed,
    ) r

pub returns-in_err-sections-in-Ok-clause-stopped : goal.returns-in_err-sections-in-Ok-clause-stopped
returns-in_err-sections-in-Ok-clause-stopped g c =
    let p = err_from_is_err_and c.from_residual.result c.from_residual.ensures.1 in
    rw (p.1, p.2) (c.in_err-sections-in-Ok.ensures.stopped c.args.bytes.now c.in-Ok.ensures.ends
    (header_leaves c.args.bytes.now c.in-Ok.all.rest.now c.in-Ok.ensures.begins))

pub returns-in_err-sections-in-Ok-clause-fault : goal.returns-in_err-sections-in-Ok-clause-fault
returns-in_err-sections-in-Ok-clause-fault g c =
    let p = err_from_is_err_and c.from_residual.result c.from_residual.ensures.1 in
    rw (p.1, p.2) (fault_behind c.args.bytes.now c.in-Ok.all.rest.now (fault_of_list c.in_err-sections-in-Ok.field-0.0) c.in-Ok.ensures.begins
    (rw c.in-Ok.ensures.ends at c.in_err-sections-in-Ok.ensures.fault))
