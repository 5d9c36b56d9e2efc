-- The ids of sections (component model, binary format, "Component Definitions").
use Rattle.std.specs.Prelude.{ℕ}
use Rattle.wenc_base.specs.Piece.{Form, byte}
use Rattle.wenc_parts.specs.declared.component.ComponentSectionId.{ComponentSectionId}
use Rattle.wenc_parts.specs.declared.component.ComponentSectionId.TheVariants.{CoreCustom}
use Rattle.wenc_parts.specs.declared.component.ComponentSectionId.TheVariants.{CoreModule}
use Rattle.wenc_parts.specs.declared.component.ComponentSectionId.TheVariants.{CoreInstance}
use Rattle.wenc_parts.specs.declared.component.ComponentSectionId.TheVariants.{CoreType, Component}
use Rattle.wenc_parts.specs.declared.component.ComponentSectionId.TheVariants.{Instance, Alias}
use Rattle.wenc_parts.specs.declared.component.ComponentSectionId.TheVariants.{«Type» as TypeSection}
use Rattle.wenc_parts.specs.declared.component.ComponentSectionId.TheVariants.{CanonicalFunction}
use Rattle.wenc_parts.specs.declared.component.ComponentSectionId.TheVariants.{Start, Import}
use Rattle.wenc_parts.specs.declared.component.ComponentSectionId.TheVariants.{Export}

abbrev pub section_number : ComponentSectionId → ℕ
section_number CoreCustom = 0
section_number CoreModule = 1
section_number CoreInstance = 2
section_number CoreType = 3
section_number Component = 4
section_number Instance = 5
section_number Alias = 6
section_number TypeSection = 7
section_number CanonicalFunction = 8
section_number Start = 9
section_number Import = 10
section_number Export = 11

abbrev pub section_id : Form ComponentSectionId
section_id id = byte (section_number id)
