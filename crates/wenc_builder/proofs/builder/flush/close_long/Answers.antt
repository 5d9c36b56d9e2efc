use Rattle.std.proofs.Common.{ap, ◌∙◌, List, ℕ}
use Rattle.wenc_base.specs.Holder.{with_kept}
use Rattle.wenc_builder.specs.inside.Layout.{kind_id}
use Rattle.wenc_builder.proofs.Gap.{closed_items}
use Rattle.wenc_builder.proofs.builder.flush.close_long.Goals as goal

pub returns-clause-holder : goal.returns-clause-holder
returns-clause-holder g c =
    let e = c.args.earlier.now in
    let same = closed_items c.args.holder.now.kept e.closed_len e.items_end (kind_id c.args.kind) e.count
    (rw c.requires.kind at c.requires.section) c.requires.within in
    c.fill_kept.ensures ∙ rw (c.as_slice-head.ensures.same, c.section_head-head.ensures, c.requires.kind)
    (ap (λ (kept : List ℕ). with_kept c.args.holder.now kept) same)
