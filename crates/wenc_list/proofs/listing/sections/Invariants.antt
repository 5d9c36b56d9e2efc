use Rattle.std.proofs.Common.{◌≡◌, ◌≤◌, ◌*◌, ◌^◌, length, map, get_or}
use Rattle.wenc_sections.specs.Prelude.{space_number}
use Rattle.wenc_sections.specs.declared.space.Space.{Space}
use Rattle.wenc_list.specs.Prelude.{AreFrom, AreWithin, count_of_sections, section_view}
use Rattle.wenc_list.proofs.listing.sections.Given as goal

abbrev pub decreases-loop-sections : goal.decreases-loop-sections
decreases-loop-sections g l = length l.left.rest.now

abbrev pub invariant-loop-sections : goal.invariant-loop-sections
invariant-loop-sections g l = record {
  read : AreFrom l.from.ends l.sections.items l.from.rest.now l.left.rest.now;
  within : AreWithin 100 (map section_view l.sections.items);
  shorter : length l.left.rest.now ≤ l.from.ends;
  same_end : l.left.ends ≡ l.from.ends;
  counted : (k : Space) → get_or l.counts (space_number k) 0 ≡ count_of_sections k (map section_view l.sections.items);
  few : (k : Space) → get_or l.counts (space_number k) 0 ≤ length l.sections.items * 2 ^ 64;
}
