-- The laws of the section of names.
use Rattle.std.proofs.Common.{◌≡◌, ℕ, List, [], ◌∷◌, refl}
use Rattle.wenc_base.specs.Prelude.{Contains, HolderState, Lawful, NameAssociation, Reader}
use Rattle.wenc_base.specs.Prelude.{bytes_lawful, choose, give, held_names, name_association}
use Rattle.wenc_base.specs.Prelude.{name_lawful, nowhere, refused_lawful, row_byte, row_lawful}
use Rattle.wenc_base.specs.Prelude.{sized_lawful, then_whole}
use Rattle.wenc_sections.specs.declared.space.Space.{Space}
use Rattle.wenc_sections.specs.declared.space.Space.TheVariants.{CoreModules, CoreFuncs, CoreTypes}
use Rattle.wenc_sections.specs.declared.space.Space.TheVariants.{CoreMemories, CoreTables}
use Rattle.wenc_sections.specs.declared.space.Space.TheVariants.{CoreInstances, CoreTags}
use Rattle.wenc_sections.specs.declared.space.Space.TheVariants.{CoreGlobals, Funcs, Instances}
use Rattle.wenc_sections.specs.declared.space.Space.TheVariants.{Values, Components, Types}
use Rattle.wenc_sections.specs.Names.{item_sort, ItemNames, subsection, held_subsection, names_label, names_section}
use Rattle.wenc_sections.specs.reading.Names.{read_names_section}

-- ---- sorts

abbrev read_core_sort : Reader Space
read_core_sort = choose (
    (0x00, give CoreFuncs) ∷
    (0x01, give CoreTables) ∷
    (0x02, give CoreMemories) ∷
    (0x03, give CoreGlobals) ∷
    (0x04, give CoreTags) ∷
    (0x10, give CoreTypes) ∷
    (0x11, give CoreModules) ∷
    (0x12, give CoreInstances) ∷ []) nowhere

abbrev pub read_sort : Reader Space
read_sort = choose (
    (0x00, read_core_sort) ∷
    (0x01, give Funcs) ∷
    (0x02, give Values) ∷
    (0x03, give Types) ∷
    (0x04, give Components) ∷
    (0x05, give Instances) ∷ []) nowhere

pub sort_lawful : (space : Space) → Lawful (item_sort space) (λ fuel. read_sort) space
sort_lawful CoreFuncs = row_lawful _ _ 0x00 (row_byte _ _ 0x00 (λ fuel rest. refl))
sort_lawful CoreTables = row_lawful _ _ 0x00 (row_byte _ _ 0x01 (λ fuel rest. refl))
sort_lawful CoreMemories = row_lawful _ _ 0x00 (row_byte _ _ 0x02 (λ fuel rest. refl))
sort_lawful CoreGlobals = row_lawful _ _ 0x00 (row_byte _ _ 0x03 (λ fuel rest. refl))
sort_lawful CoreTags = row_lawful _ _ 0x00 (row_byte _ _ 0x04 (λ fuel rest. refl))
sort_lawful CoreTypes = row_lawful _ _ 0x00 (row_byte _ _ 0x10 (λ fuel rest. refl))
sort_lawful CoreModules = row_lawful _ _ 0x00 (row_byte _ _ 0x11 (λ fuel rest. refl))
sort_lawful CoreInstances = row_lawful _ _ 0x00 (row_byte _ _ 0x12 (λ fuel rest. refl))
sort_lawful Funcs = row_byte _ _ 0x01 (λ fuel rest. refl)
sort_lawful Values = row_byte _ _ 0x02 (λ fuel rest. refl)
sort_lawful Types = row_byte _ _ 0x03 (λ fuel rest. refl)
sort_lawful Components = row_byte _ _ 0x04 (λ fuel rest. refl)
sort_lawful Instances = row_byte _ _ 0x05 (λ fuel rest. refl)

-- ---- subsections

-- the names that are held are a subsection
pub held_subsection_is : (space : Space) (held : HolderState) (names : List NameAssociation)
    → Contains name_association held names → (held_subsection space held).text
    ≡ (subsection (ItemNames space names)).text
held_subsection_is space held names holds = rw (held_names held names holds) refl

-- ---- the section

pub names_section_lawful : (bytes : List ℕ) → Lawful (names_section bytes) (λ fuel. read_names_section) bytes
names_section_lawful bytes = refused_lawful (λ fault. ⊥)
    (sized_lawful (then_whole _ (name_lawful names_label) (bytes_lawful (λ bytes. bytes) bytes)))
    (λ h fault c. c) (λ c. c)
