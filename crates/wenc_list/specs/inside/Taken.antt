-- What a loop over a section's items finds.
use Rattle.std.specs.Prelude.{◌≡◌, ◌-◌, List, length}
use Rattle.wenc_builder.specs.Item.{Item}
use Rattle.wenc_list.specs.Cursor.{HasTaken, IsSpent, IsFaultIn, IsRefusedIn, IsPlacedIn}
use Rattle.wenc_list.specs.Cursor.{IsUnopened}
use Rattle.wenc_list.specs.declared.cursor.SectionItems.{SectionItems}
use Rattle.wenc_list.specs.declared.cursor.Sections.{Sections}
use Rattle.wenc_list.specs.declared.fault.ListFault.{ListFault}
use Rattle.wenc_list.specs.declared.refusal.ListRefusal.{ListRefusal}
use Rattle.wenc_list.specs.declared.refusal.ListRefusal.TheVariants as refusals

-- these are all items that were left
pub record TakesAll (first : SectionItems) (xs : List Item) : Type 0 where
  pub left : SectionItems
  pub taken : HasTaken first xs left
  pub spent : IsSpent left

-- some items were taken, and the fault has its cause in what is left then
pub record FaultsIn (first : SectionItems) (fault : ListFault) : Type 0 where
  pub xs : List Item
  pub left : SectionItems
  pub taken : HasTaken first xs left
  pub cause : IsFaultIn left fault

-- some items were taken, and the next one isn't read
abbrev pub StopsIn : SectionItems → ListRefusal → Type 0
StopsIn first refusals.Memory = Unit {0}
StopsIn first (refusals.Item count left refusal) =
    (count ≡ first.left) × ((xs : List Item) × HasTaken first xs left) × IsRefusedIn left refusal
StopsIn first other = ⊥

-- the next section isn't read
abbrev pub IsNextSectionOf : Sections → ListRefusal → Type 0
IsNextSectionOf left (refusals.Section place refusal) =
    (place ≡ left.ends - length left.rest.now) × IsPlacedIn left.rest.now refusal ×
    IsUnopened left.ends left.rest.now refusal
IsNextSectionOf left other = ⊥
