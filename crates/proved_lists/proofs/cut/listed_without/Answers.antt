use Rattle.std.proofs.Common.{◌∙◌, ℕ, zero, suc, List, [], ◌∷◌, length, map, ap, arith}
use Rattle.std.proofs.lemmas.List.{length-map}
use Rattle.std.proofs.lemmas.Result.{err_from_is_err_and}
use Rattle.std.specs.Prelude.{remove}
use Rattle.wenc_base.specs.Prelude.{Wide}
use Rattle.wenc_builder.specs.Prelude.{Reading, Section}
use Rattle.wenc_list.specs.Prelude.{AreWithin, section_view}
use Rattle.proved_lists.proofs.cut.listed_without.Goals as goal

others_within : (ss : List Section) (i : ℕ) → AreWithin 100 ss → AreWithin 100 (remove ss i)
others_within [] zero w = tt
others_within [] (suc i) w = tt
others_within (s ∷ ss) zero w = w.1
others_within (s ∷ ss) (suc i) w = (w.0, others_within ss i w.1)

pub returns-then-index-sections-clause-others : goal.returns-then-index-sections-clause-others
returns-then-index-sections-clause-others g c ss r =
    let items = c.in_ok-listing.listing.sections.items in
    omega (
      arith,
      ap length (c.in_ok-listing.ensures.or_deep ss r),
      length-map items section_view,
      ap length c.as_slice-sections.ensures.value,
      c.if-index-sections.true,
    )

pub returns-in_err-list-clause-fault : goal.returns-in_err-list-clause-fault
returns-in_err-list-clause-fault g c =
    let p = err_from_is_err_and c.from_residual-in_err-list.result c.from_residual-in_err-list.ensures.1 in
    let ss = map section_view c.in_ok-listing.listing.sections.items in
    let read : Reading Wide c.as_slice.result.now (remove ss c.args.index) =
    rw c.as_slice.ensures.value (rw c.as_slice-sections.ensures.value at c.in_ok-left.ensures) in
    rw (p.1, p.2, c.in_err-list.ensures.listed (remove ss c.args.index) read (others_within ss c.args.index c.in_ok-listing.ensures.within)) tt

pub returns-clause-others : goal.returns-clause-others
returns-clause-others g c ss r =
    let all = map section_view c.in_ok-listing.listing.sections.items in
    let read : Reading Wide c.as_slice.result.now (remove all c.args.index) =
    rw c.as_slice.ensures.value (rw c.as_slice-sections.ensures.value at c.in_ok-left.ensures) in
    c.in_ok-list.ensures.or_deep (remove all c.args.index) read ∙ ap (λ (t : List Section). remove t c.args.index) (c.in_ok-listing.ensures.or_deep ss r)
