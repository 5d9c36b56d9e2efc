-- Readers of types that components define, by the depth to which component types and instance types
-- may nest.
use Rattle.std.specs.Prelude.{ℕ, zero, suc, List, [], ◌∷◌, ◌++◌}
use Rattle.wenc_base.specs.Readers.{Reader, ◌>>=◌, give, nowhere, too_deep, times, choose}
use Rattle.wenc_base.specs.reading.Forms.{read_option}
use Rattle.wenc_base.specs.reading.Numbers.{read_u32}
use Rattle.wenc_base.specs.reading.Types.{read_val_type}
use Rattle.wenc_parts.specs.reading.Aliases.{read_alias}
use Rattle.wenc_parts.specs.reading.Imports.{read_extern_name, read_type_reference}
use Rattle.wenc_types.specs.ComponentTypes.{DefType, DefinedType, FunctionType, ComponentType}
use Rattle.wenc_types.specs.ComponentTypes.{InstanceType, ResourceType, InstanceDeclaration}
use Rattle.wenc_types.specs.ComponentTypes.{CoreTyped, Typed, Aliased, Exported}
use Rattle.wenc_types.specs.ComponentTypes.{ComponentDeclaration, Imported, Declared}
use Rattle.wenc_types.specs.ComponentTypes.{instances_of, components_of}
use Rattle.wenc_types.specs.reading.CoreTypes.{read_core_type}
use Rattle.wenc_types.specs.reading.DefinedTypes.{read_defined, function_rows}

-- ---- declarations, by the reader of a type

abbrev pub read_exported : Reader InstanceDeclaration
read_exported =
    read_extern_name >>= λ name. read_type_reference >>= λ ty. give (Exported name ty)

abbrev pub instance_rows : Reader DefType → List (ℕ × Reader InstanceDeclaration)
instance_rows read =
    (0x00, read_core_type >>= λ ty. give (CoreTyped ty)) ∷
    (0x01, read >>= λ ty. give (Typed ty)) ∷
    (0x02, read_alias >>= λ to. give (Aliased to)) ∷
    (0x04, read_exported) ∷ []

abbrev pub read_instance_declaration : Reader DefType → Reader InstanceDeclaration
read_instance_declaration read = choose (instance_rows read) nowhere

abbrev pub read_imported : Reader ComponentDeclaration
read_imported = read_extern_name >>= λ name. read_type_reference >>= λ ty. give (Imported name ty)

abbrev pub read_declared : Reader DefType → Reader ComponentDeclaration
read_declared read = read_instance_declaration read >>= λ d. give (Declared d)

abbrev pub read_component_declaration : Reader DefType → Reader ComponentDeclaration
read_component_declaration read = choose ((0x03, read_imported) ∷ []) (read_declared read)

-- ---- types

-- declarations, after the first byte of the type that has them
abbrev pub read_components : Reader DefType → Reader DefType
read_components read =
    read_u32 >>= λ n. times (read_component_declaration read) n >>= λ ds.
    give (ComponentType (components_of ds))

abbrev pub read_instances : Reader DefType → Reader DefType
read_instances read =
    read_u32 >>= λ n. times (read_instance_declaration read) n >>= λ ds.
    give (InstanceType (instances_of ds))

-- the representation of a resource, and its destructor
abbrev pub read_resource_type : Reader DefType
read_resource_type =
    read_val_type >>= λ rep. read_option read_u32 >>= λ dtor. give (ResourceType rep dtor)

-- a type of values
abbrev pub read_shallow : Reader DefType
read_shallow = read_defined >>= λ ty. give (DefinedType ty)

abbrev pub type_rows : Reader DefType → Reader DefType → List (ℕ × Reader DefType)
type_rows components instances =
    function_rows FunctionType ++
    ((0x3f, read_resource_type) ∷ (0x41, components) ∷ (0x42, instances) ∷ [])

-- a type in which component types and instance types nest at most this deep
unfoldable pub read_type : ℕ → Reader DefType
read_type zero = choose (type_rows too_deep too_deep) read_shallow
read_type (suc depth) =
    choose (type_rows (read_components (read_type depth)) (read_instances (read_type depth)))
    read_shallow

-- the declarations of a component type, or of an instance type, where this many may still open
abbrev pub read_component_type : ℕ → Reader DefType
read_component_type zero = too_deep
read_component_type (suc depth) = read_components (read_type depth)

abbrev pub read_instance_type : ℕ → Reader DefType
read_instance_type zero = too_deep
read_instance_type (suc depth) = read_instances (read_type depth)
