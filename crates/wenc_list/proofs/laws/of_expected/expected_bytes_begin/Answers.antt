use Rattle.std.proofs.Common.{◌≡◌, ℕ, zero, suc, List, [], ◌∷◌, true, refl}
use Rattle.std.proofs.lemmas.Str.{is_utf8-from_IsUtf8, IsUtf8-nil}
use Rattle.std.specs.Str.{is_utf8}
use Rattle.wenc_base.specs.Readers.{choose}
use Rattle.wenc_base.specs.reading.Forms.{text_at}
use Rattle.wenc_base.specs.reading.Numbers.{read_groups}
use Rattle.wenc_base.specs.Prelude.{table_of}
use Rattle.wenc_base.specs.reading.Entities.{read_unshared}
use Rattle.wenc_parts.specs.Prelude.{read_core_alias, read_export_or_outer, read_value_type}
use Rattle.wenc_types.specs.Prelude.{read_core_type, read_instance_declaration}
use Rattle.wenc_types.specs.reading.ComponentTypes.{read_type}
use Rattle.wenc_canon.specs.Prelude.{read_canonical}
use Rattle.wenc_list.specs.Prelude.{read_core_sort}
use Rattle.wenc_read.specs.Prelude.{BeginsWith, OthersFail, begins, choose_fails, index_fails}
use Rattle.wenc_read.specs.Prelude.{nowhere_fails, ranges_of, then_fails}
use Rattle.wenc_base.specs.declared.types.RefType.{RefType}
use Rattle.wenc_parts.specs.declared.exports.ComponentExportKind.{ComponentExportKind}
use Rattle.wenc_parts.specs.declared.aliases.ComponentOuterAliasKind.{ComponentOuterAliasKind}
use Rattle.wenc_read.specs.declared.expected.Expected.TheVariants.{CoreType, ComponentValType}
use Rattle.wenc_read.specs.declared.expected.Expected.TheVariants.{«Type», InstanceDecl, Opcode}
use Rattle.wenc_read.specs.declared.expected.Expected.TheVariants.{TableLimits, CoreSort}
use Rattle.wenc_read.specs.declared.expected.Expected.TheVariants.{CoreSpace, ExportOrOuter}
use Rattle.wenc_list.proofs.laws.of_expected.expected_bytes_begin.Goals as goal

-- a text of no byte
no_text : is_utf8 [] ≡ true
no_text = is_utf8-from_IsUtf8 [] IsUtf8-nil

limits_fail : (element : RefType)
    → OthersFail (read_unshared (table_of element)) (ranges_of TableLimits)
limits_fail element = choose_fails _ _ refl nowhere_fails

pub returns-clause-limits : goal.returns-clause-limits
unfolding choose read_groups
returns-clause-limits c element = begins TableLimits [] (limits_fail element) refl

core_type_fails : OthersFail read_core_type (ranges_of CoreType)
core_type_fails = choose_fails _ _ refl nowhere_fails

pub returns-clause-core_type : goal.returns-clause-core_type
unfolding choose read_groups
returns-clause-core_type c = begins CoreType
    ((0x00, 0x50 ∷ 0 ∷ 0x5f ∷ 0 ∷ []) ∷ (0x4f, 1 ∷ 0 ∷ 0x5f ∷ 0 ∷ []) ∷ (0x5e, 0x7f ∷ 0 ∷ []) ∷ [])
    core_type_fails refl

val_type_fails : OthersFail read_value_type (ranges_of ComponentValType)
val_type_fails = choose_fails _ _ refl (then_fails _ (index_fails refl))

pub returns-clause-val_type : goal.returns-clause-val_type
unfolding choose read_groups
returns-clause-val_type c = begins ComponentValType [] val_type_fails refl

type_fails : (levels : ℕ) → OthersFail (read_type (suc levels)) (ranges_of «Type»)
unfolding read_type
type_fails levels = choose_fails _ _ refl (then_fails _ (choose_fails _ _ refl nowhere_fails))

pub returns-clause-ty : goal.returns-clause-ty
unfolding choose read_groups read_type
returns-clause-ty c levels = begins «Type» ((0x3f, 0x7f ∷ 0 ∷ []) ∷ []) (type_fails levels) refl

declaration_fails : (levels : ℕ)
    → OthersFail (read_instance_declaration (read_type levels)) (ranges_of InstanceDecl)
declaration_fails levels = choose_fails _ _ refl nowhere_fails

abbrev pub after_declaration : List (ℕ × List ℕ)
after_declaration =
    (0x00, 0x60 ∷ 0 ∷ 0 ∷ []) ∷ (0x01, 0x7f ∷ []) ∷ (0x02, 1 ∷ 0 ∷ 0 ∷ 0 ∷ []) ∷
    (0x04, 0 ∷ 0 ∷ 1 ∷ 0 ∷ []) ∷ []

declaration_begins : (levels : ℕ)
    → BeginsWith (read_instance_declaration (read_type levels)) InstanceDecl
unfolding choose read_groups read_type text_at
declaration_begins zero =
    begins InstanceDecl after_declaration (declaration_fails zero) (rw no_text refl)
declaration_begins (suc levels) =
    begins InstanceDecl after_declaration (declaration_fails (suc levels)) (rw no_text refl)

pub returns-clause-declaration : goal.returns-clause-declaration
returns-clause-declaration c levels = declaration_begins levels

canonical_fails : OthersFail read_canonical (ranges_of Opcode)
canonical_fails = choose_fails _ _ refl nowhere_fails

pub returns-clause-canonical : goal.returns-clause-canonical
unfolding choose read_groups
returns-clause-canonical c = begins Opcode ((0x0a, 0x7f ∷ 0 ∷ []) ∷ (0x0b, 0x7f ∷ 0 ∷ []) ∷ [])
    canonical_fails refl

core_sort_fails : OthersFail read_core_alias (ranges_of CoreSort)
core_sort_fails = choose_fails _ _ refl nowhere_fails

pub returns-clause-core_sort : goal.returns-clause-core_sort
unfolding choose read_groups text_at
returns-clause-core_sort c = begins CoreSort
    ((0x10, 2 ∷ 0 ∷ 0 ∷ []) ∷ (0x11, 2 ∷ 0 ∷ 0 ∷ []) ∷
    (0x00, 1 ∷ 0 ∷ 0 ∷ []) ∷ (0x01, 1 ∷ 0 ∷ 0 ∷ []) ∷ (0x02, 1 ∷ 0 ∷ 0 ∷ []) ∷
    (0x03, 1 ∷ 0 ∷ 0 ∷ []) ∷ (0x04, 1 ∷ 0 ∷ 0 ∷ []) ∷ [])
    core_sort_fails (rw no_text refl)

core_space_fails : OthersFail read_core_sort (ranges_of CoreSpace)
core_space_fails = choose_fails _ _ refl nowhere_fails

pub returns-clause-core_space : goal.returns-clause-core_space
unfolding choose
returns-clause-core_space c = begins CoreSpace [] core_space_fails refl

alias_fails : (kind : ComponentExportKind) (outer : ComponentOuterAliasKind)
    → OthersFail (read_export_or_outer kind outer) (ranges_of ExportOrOuter)
alias_fails kind outer = choose_fails _ _ refl nowhere_fails

pub returns-clause-alias : goal.returns-clause-alias
unfolding choose read_groups text_at
returns-clause-alias c kind outer =
    begins ExportOrOuter [] (alias_fails kind outer) (rw no_text refl)
