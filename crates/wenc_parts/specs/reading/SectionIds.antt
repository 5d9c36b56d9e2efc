-- The reader of the ids of sections.
use Rattle.std.specs.Prelude.{[], ◌∷◌}
use Rattle.wenc_base.specs.Readers.{Reader, give, nowhere, choose}
use Rattle.wenc_parts.specs.declared.component.ComponentSectionId.{ComponentSectionId}
use Rattle.wenc_parts.specs.declared.component.ComponentSectionId.TheVariants.{CoreCustom}
use Rattle.wenc_parts.specs.declared.component.ComponentSectionId.TheVariants.{CoreModule}
use Rattle.wenc_parts.specs.declared.component.ComponentSectionId.TheVariants.{CoreInstance}
use Rattle.wenc_parts.specs.declared.component.ComponentSectionId.TheVariants.{CoreType, Component}
use Rattle.wenc_parts.specs.declared.component.ComponentSectionId.TheVariants.{Instance, Alias}
use Rattle.wenc_parts.specs.declared.component.ComponentSectionId.TheVariants.{«Type» as TypeSection}
use Rattle.wenc_parts.specs.declared.component.ComponentSectionId.TheVariants.{CanonicalFunction}
use Rattle.wenc_parts.specs.declared.component.ComponentSectionId.TheVariants.{Start, Import}
use Rattle.wenc_parts.specs.declared.component.ComponentSectionId.TheVariants.{Export}

abbrev pub read_section : Reader ComponentSectionId
read_section = choose (
    (0, give CoreCustom) ∷
    (1, give CoreModule) ∷
    (2, give CoreInstance) ∷
    (3, give CoreType) ∷
    (4, give Component) ∷
    (5, give Instance) ∷
    (6, give Alias) ∷
    (7, give TypeSection) ∷
    (8, give CanonicalFunction) ∷
    (9, give Start) ∷
    (10, give Import) ∷
    (11, give Export) ∷ []) nowhere
