-- The law of the ids of sections.
use Rattle.std.proofs.Common.{refl}
use Rattle.wenc_base.specs.Prelude.{Lawful, row_byte}
use Rattle.wenc_parts.specs.declared.component.ComponentSectionId.{ComponentSectionId}
use Rattle.wenc_parts.specs.declared.component.ComponentSectionId.TheVariants.{CoreCustom}
use Rattle.wenc_parts.specs.declared.component.ComponentSectionId.TheVariants.{CoreModule}
use Rattle.wenc_parts.specs.declared.component.ComponentSectionId.TheVariants.{CoreInstance}
use Rattle.wenc_parts.specs.declared.component.ComponentSectionId.TheVariants.{CoreType, Component}
use Rattle.wenc_parts.specs.declared.component.ComponentSectionId.TheVariants.{Instance, Alias}
use Rattle.wenc_parts.specs.declared.component.ComponentSectionId.TheVariants.{«Type» as TypeSection}
use Rattle.wenc_parts.specs.declared.component.ComponentSectionId.TheVariants.{CanonicalFunction}
use Rattle.wenc_parts.specs.declared.component.ComponentSectionId.TheVariants.{Start, Import}
use Rattle.wenc_parts.specs.declared.component.ComponentSectionId.TheVariants.{Export}
use Rattle.wenc_parts.specs.SectionIds.{section_id}
use Rattle.wenc_parts.specs.reading.SectionIds.{read_section}

pub section_lawful : (id : ComponentSectionId) → Lawful (section_id id) (λ fuel. read_section) id
section_lawful CoreCustom = row_byte _ _ 0 (λ fuel rest. refl)
section_lawful CoreModule = row_byte _ _ 1 (λ fuel rest. refl)
section_lawful CoreInstance = row_byte _ _ 2 (λ fuel rest. refl)
section_lawful CoreType = row_byte _ _ 3 (λ fuel rest. refl)
section_lawful Component = row_byte _ _ 4 (λ fuel rest. refl)
section_lawful Instance = row_byte _ _ 5 (λ fuel rest. refl)
section_lawful Alias = row_byte _ _ 6 (λ fuel rest. refl)
section_lawful TypeSection = row_byte _ _ 7 (λ fuel rest. refl)
section_lawful CanonicalFunction = row_byte _ _ 8 (λ fuel rest. refl)
section_lawful Start = row_byte _ _ 9 (λ fuel rest. refl)
section_lawful Import = row_byte _ _ 10 (λ fuel rest. refl)
section_lawful Export = row_byte _ _ 11 (λ fuel rest. refl)
