-- Readers of type references and of names.
use Rattle.std.specs.Prelude.{ℕ, suc, Bool, true, false, List, [], ◌∷◌, Some, Ok, Err, nat_lt}
use Rattle.std.specs.Prelude.{if◌then◌else◌}
use Rattle.wenc_base.specs.Readers.{Bad, Reader, ◌>>=◌, give, nowhere, choose}
use Rattle.wenc_base.specs.reading.Numbers.{read_u32}
use Rattle.wenc_base.specs.reading.Forms.{read_name, read_list}
use Rattle.wenc_parts.specs.declared.imports.TypeBounds.{TypeBounds}
use Rattle.wenc_parts.specs.declared.imports.TypeBounds.TheVariants.{Eq, SubResource}
use Rattle.wenc_parts.specs.declared.imports.ComponentTypeRef.{ComponentTypeRef}
use Rattle.wenc_parts.specs.declared.imports.ComponentTypeRef.TheVariants.{Module, Func, Value}
use Rattle.wenc_parts.specs.declared.imports.ComponentTypeRef.TheVariants.{«Type» as TypeRef}
use Rattle.wenc_parts.specs.declared.imports.ComponentTypeRef.TheVariants.{Instance, Component}
use Rattle.wenc_parts.specs.Imports.{ExternName, plain_name, NameOption, Implements, VersionSuffix, ExternalId}
use Rattle.wenc_parts.specs.reading.Types.{read_value_type}

-- ---- type references

abbrev pub read_type_bounds : Reader TypeBounds
read_type_bounds =
    choose ((0x00, read_u32 >>= λ n. give (Eq n)) ∷ (0x01, give SubResource) ∷ []) nowhere

abbrev pub read_type_reference : Reader ComponentTypeRef
read_type_reference = choose (
    (0x00, choose ((0x11, read_u32 >>= λ n. give (Module n)) ∷ []) nowhere) ∷
    (0x01, read_u32 >>= λ n. give (Func n)) ∷
    (0x02, read_value_type >>= λ t. give (Value t)) ∷
    (0x03, read_type_bounds >>= λ b. give (TypeRef b)) ∷
    (0x05, read_u32 >>= λ n. give (Instance n)) ∷
    (0x04, read_u32 >>= λ n. give (Component n)) ∷ []) nowhere

-- ---- names

abbrev pub read_name_option : Reader NameOption
read_name_option = choose (
    (0x00, read_name >>= λ text. give (Implements text)) ∷
    (0x01, read_name >>= λ text. give (VersionSuffix text)) ∷
    (0x02, read_name >>= λ text. give (ExternalId text)) ∷ []) nowhere

-- the name with this option
abbrev pub with_option : NameOption → ExternName → ExternName
with_option (Implements text) n = record {
  name = n.name;
  implements = Some text;
  version_suffix = n.version_suffix;
  external_id = n.external_id;
}
with_option (VersionSuffix text) n = record {
  name = n.name;
  implements = n.implements;
  version_suffix = Some text;
  external_id = n.external_id;
}
with_option (ExternalId text) n = record {
  name = n.name;
  implements = n.implements;
  version_suffix = n.version_suffix;
  external_id = Some text;
}

-- the name with these options
abbrev pub with_options : List ℕ → List NameOption → ExternName
with_options text [] = plain_name text
with_options text (o ∷ os) = with_option o (with_options text os)

-- the first byte of an option
abbrev pub option_number : NameOption → ℕ
option_number (Implements text) = 0
option_number (VersionSuffix text) = 1
option_number (ExternalId text) = 2

-- options in ascending order of these numbers, from this one on
abbrev pub ascend_from : ℕ → List NameOption → Bool
ascend_from least [] = true
ascend_from least (o ∷ os) =
    if nat_lt (option_number o) least then false else ascend_from (suc (option_number o)) os

-- some options, in ascending order
abbrev pub are_options : List NameOption → Bool
are_options [] = false
are_options (o ∷ os) = ascend_from 0 (o ∷ os)

-- the name with the options that were found
abbrev pub given_options : List ℕ → List NameOption → Reader ExternName
given_options text options bytes =
    if are_options options then Ok (with_options text options, bytes) else Err Bad

abbrev pub read_extern_name : Reader ExternName
read_extern_name = choose (
    (0x00, read_name >>= λ text. give (plain_name text)) ∷
    (0x01, read_name >>= λ text. give (plain_name text)) ∷
    (0x02, read_name >>= λ text. read_list read_name_option >>= given_options text) ∷ []) nowhere
