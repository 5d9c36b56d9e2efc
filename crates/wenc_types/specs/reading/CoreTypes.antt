-- Readers of core types in components.
use Rattle.std.specs.Prelude.{ℕ, false, List, [], ◌∷◌, ◌++◌}
use Rattle.wenc_base.specs.Composites.{Sub, RecType, Single}
use Rattle.wenc_base.specs.reading.Composites.{read_extension, sub_of, final_rows, read_types, read_group}
use Rattle.wenc_base.specs.reading.Entities.{read_entity_type}
use Rattle.wenc_base.specs.reading.Forms.{read_list, read_name}
use Rattle.wenc_base.specs.Readers.{Reader, ◌>>=◌, give, nowhere, choose}
use Rattle.wenc_base.specs.reading.Numbers.{read_u32}
use Rattle.wenc_types.specs.CoreTypes.{ModuleDeclaration, ModuleImport, ModuleRecType, ModuleOuter}
use Rattle.wenc_types.specs.CoreTypes.{ModuleExport, CoreType, Grouped, Module}

-- ---- module types

abbrev pub read_module_import : {A : Type 0} → (ModuleDeclaration → A) → Reader A
read_module_import make =
    read_name >>= λ from. read_name >>= λ name. read_entity_type >>= λ ty.
    give (make (ModuleImport from name ty))

abbrev pub read_outer_number : {A : Type 0} → (ModuleDeclaration → A) → Reader A
read_outer_number make =
    read_u32 >>= λ count. read_u32 >>= λ number. give (make (ModuleOuter count number))

-- a type of an enclosing component
abbrev pub read_outer_type : {A : Type 0} → (ModuleDeclaration → A) → Reader A
read_outer_type make =
    choose ((0x10, choose ((0x01, read_outer_number make) ∷ []) nowhere) ∷ []) nowhere

abbrev pub declaration_rows : {A : Type 0} → (ModuleDeclaration → A) → List (ℕ × Reader A)
declaration_rows make =
    (0x00, read_module_import make) ∷
    (0x01, read_group >>= λ g. give (make (ModuleRecType g))) ∷
    (0x02, read_outer_type make) ∷
    (0x03, read_name >>= λ name. read_entity_type >>= λ ty. give (make (ModuleExport name ty))) ∷ []

abbrev pub read_module_declaration : Reader ModuleDeclaration
read_module_declaration = choose (declaration_rows (λ d. d)) nowhere

abbrev pub read_declarations : {A : Type 0} → (List ModuleDeclaration → A) → Reader A
read_declarations make = read_list read_module_declaration >>= λ ds. give (make ds)

-- ---- core types

-- what is read where a type has a guard
abbrev pub read_open : {A : Type 0} → (Sub → A) → Reader A
read_open make =
    choose ((0x50, read_extension (λ supertype c. make (sub_of false supertype c))) ∷ []) nowhere

abbrev pub standing_rows : {A : Type 0} → (RecType → A) → List (ℕ × Reader A)
standing_rows make =
    final_rows (λ s. make (Single s)) ++
    ((0x4e, read_types make) ∷ (0x00, read_open (λ s. make (Single s))) ∷ [])

abbrev pub core_type_rows : {A : Type 0} → (CoreType → A) → List (ℕ × Reader A)
core_type_rows make =
    standing_rows (λ g. make (Grouped g)) ++
    ((0x50, read_declarations (λ ds. make (Module ds))) ∷ [])

abbrev pub read_core_type : Reader CoreType
read_core_type = choose (core_type_rows (λ t. t)) nowhere
