-- The laws of aliases.
use Rattle.std.proofs.Common.{ℕ, List, [], ◌∷◌, refl}
use Rattle.wenc_base.specs.Prelude.{Form, Lawful, Piece, Sound, Wide, byte, choose, choose_tells}
use Rattle.wenc_base.specs.Prelude.{export_kind_byte, first_of_two, last, last_tells}
use Rattle.wenc_base.specs.Prelude.{name as name_form, name_lawful, name_sound, nowhere}
use Rattle.wenc_base.specs.Prelude.{nowhere_tells, row_byte, row_lawful, sound_behind, then}
use Rattle.wenc_base.specs.Prelude.{then_tells, u32, u32_lawful, u32_sound, ◌▸◌, ◌⨾◌}
use Rattle.wenc_base.specs.declared.exports.ExportKind.{ExportKind}
use Rattle.wenc_base.specs.laws.Lawful.{first_byte}
use Rattle.wenc_base.specs.declared.exports.ExportKind.TheVariants as cores
use Rattle.wenc_parts.specs.declared.exports.ComponentExportKind.{ComponentExportKind}
use Rattle.wenc_parts.specs.declared.exports.ComponentExportKind.TheVariants as kinds
use Rattle.wenc_parts.specs.declared.aliases.ComponentOuterAliasKind.{ComponentOuterAliasKind}
use Rattle.wenc_parts.specs.declared.aliases.ComponentOuterAliasKind.TheVariants as outers
use Rattle.wenc_parts.specs.Exports.{component_export_kind}
use Rattle.wenc_parts.specs.Aliases.{AliasOf, InstanceExport, CoreInstanceExport, Outer, outer_kind, alias}
use Rattle.wenc_parts.specs.reading.Aliases.{read_alias, read_core_export, read_export_or_outer}
use Rattle.wenc_parts.specs.reading.Aliases.{read_export, read_outer, read_outer_kind}

-- ---- kinds

pub outer_kind_lawful : (kind : ComponentOuterAliasKind) → Lawful (outer_kind kind) (λ fuel. read_outer_kind) kind
outer_kind_lawful outers.CoreModule = row_lawful _ _ 0x00 (row_byte _ _ 0x11 (λ fuel rest. refl))
outer_kind_lawful outers.CoreType = row_lawful _ _ 0x00 (row_byte _ _ 0x10 (λ fuel rest. refl))
outer_kind_lawful outers.«Type» = row_byte _ _ 0x03 (λ fuel rest. refl)
outer_kind_lawful outers.Component = row_byte _ _ 0x04 (λ fuel rest. refl)

-- ---- aliases

export_lawful : (kind : ComponentExportKind) (instance : ℕ) (name : List ℕ)
    → Lawful (u32 instance ⨾ name_form name) (λ fuel. read_export kind)
    (InstanceExport instance kind name)
export_lawful kind instance name = then _ (u32_lawful instance) (last (InstanceExport instance kind) (name_lawful name))

core_export_lawful : (kind : ExportKind) (instance : ℕ) (name : List ℕ)
    → Lawful (0x01 ▸ u32 instance ⨾ name_form name) (λ fuel. read_core_export kind)
    (CoreInstanceExport instance kind name)
core_export_lawful kind instance name = row_lawful _ _ 0x01
    (then _ (u32_lawful instance) (last (CoreInstanceExport instance kind) (name_lawful name)))

outer_lawful : (kind : ComponentOuterAliasKind) (count number : ℕ)
    → Lawful (u32 count ⨾ u32 number) (λ fuel. read_outer kind) (Outer kind count number)
outer_lawful kind count number = then _ (u32_lawful count) (last (Outer kind count) (u32_lawful number))

pub alias_lawful : (a : AliasOf) → Lawful (alias a) (λ fuel. read_alias) a
alias_lawful (InstanceExport i kinds.Module n) = first_of_two (byte 0x11)
    (0x00 ▸ u32 i ⨾ name_form n) _ _ 0x00
    (first_byte _ _ 0x11 (row_lawful _ _ 0x00 (export_lawful kinds.Module i n)))
alias_lawful (InstanceExport i kinds.Func n) = first_byte _ _ 0x01 (row_lawful _ _ 0x00 (export_lawful kinds.Func i n))
alias_lawful (InstanceExport i kinds.Value n) =
    first_byte _ _ 0x02 (row_lawful _ _ 0x00 (export_lawful kinds.Value i n))
alias_lawful (InstanceExport i kinds.«Type» n) =
    first_byte _ _ 0x03 (row_lawful _ _ 0x00 (export_lawful kinds.«Type» i n))
alias_lawful (InstanceExport i kinds.Instance n) =
    first_byte _ _ 0x05 (row_lawful _ _ 0x00 (export_lawful kinds.Instance i n))
alias_lawful (InstanceExport i kinds.Component n) =
    first_byte _ _ 0x04 (row_lawful _ _ 0x00 (export_lawful kinds.Component i n))
alias_lawful (CoreInstanceExport i cores.Func n) =
    row_lawful _ _ 0x00 (first_byte _ _ 0x00 (core_export_lawful cores.Func i n))
alias_lawful (CoreInstanceExport i cores.Table n) =
    row_lawful _ _ 0x00 (first_byte _ _ 0x01 (core_export_lawful cores.Table i n))
alias_lawful (CoreInstanceExport i cores.Memory n) =
    row_lawful _ _ 0x00 (first_byte _ _ 0x02 (core_export_lawful cores.Memory i n))
alias_lawful (CoreInstanceExport i cores.Global n) =
    row_lawful _ _ 0x00 (first_byte _ _ 0x03 (core_export_lawful cores.Global i n))
alias_lawful (CoreInstanceExport i cores.Tag n) =
    row_lawful _ _ 0x00 (first_byte _ _ 0x04 (core_export_lawful cores.Tag i n))
alias_lawful (Outer outers.CoreModule c n) = first_of_two (byte 0x11)
    (0x02 ▸ u32 c ⨾ u32 n) _ _ 0x00 (first_byte _ _ 0x11
    (row_lawful _ _ 0x02 (outer_lawful outers.CoreModule c n)))
alias_lawful (Outer outers.CoreType c n) = first_of_two (byte 0x10) (0x02 ▸ u32 c ⨾ u32 n) _ _ 0x00
    (first_byte _ _ 0x10 (row_lawful _ _ 0x02 (outer_lawful outers.CoreType c n)))
alias_lawful (Outer outers.«Type» c n) = first_byte _ _ 0x03 (row_lawful _ _ 0x02 (outer_lawful outers.«Type» c n))
alias_lawful (Outer outers.Component c n) =
    first_byte _ _ 0x04 (row_lawful _ _ 0x02 (outer_lawful outers.Component c n))

-- ---- what is found is read

-- what is read of this piece is an alias
abbrev IsAlias : Piece → Form AliasOf → AliasOf → Type 0
IsAlias p form a = (bytes rest : List ℕ) → p.Reads Wide bytes rest → (form a).Reads Wide bytes rest

export_sound : {form : Form AliasOf} (kind : ComponentExportKind)
    → ((i : ℕ) (n : List ℕ) → IsAlias (u32 i ⨾ name_form n) form (InstanceExport i kind n))
    → Sound form (read_export kind)
export_sound kind k = then_tells _ u32_sound
    (λ i. last_tells (InstanceExport i kind) name_sound
    (λ n middle rest r bytes p. k i n bytes rest (middle, p, r)))

outer_sound : {form : Form AliasOf} (kind : ComponentOuterAliasKind)
    → ((c n : ℕ) → IsAlias (u32 c ⨾ u32 n) form (Outer kind c n)) → Sound form (read_outer kind)
outer_sound kind k = then_tells _ u32_sound
    (λ c. last_tells (Outer kind c) u32_sound
    (λ n middle rest r bytes p. k c n bytes rest (middle, p, r)))

core_sound : {form : Form AliasOf} (kind : ExportKind)
    → ((i : ℕ) (n : List ℕ) → IsAlias (u32 i ⨾ name_form n) (sound_behind 0x01 form)
    (CoreInstanceExport i kind n)) → Sound form (read_core_export kind)
core_sound kind k = choose_tells _ _ (
  then_tells _ u32_sound (λ i. last_tells (CoreInstanceExport i kind) name_sound
      (λ n middle rest r bytes p. k i n bytes rest (middle, p, r))),
  tt,
) nowhere_tells

-- of the core kind with this byte
core_row : (kind : ExportKind) → Sound
    (sound_behind (export_kind_byte kind) (sound_behind 0x00 alias)) (read_core_export kind)
core_row kind = core_sound kind (λ i n bytes rest r. (_, refl, (_, refl, (_, refl, r))))

-- of a sort that is one byte
only_row : (kind : ComponentExportKind) (b : ℕ)
    → ((rest : List ℕ) → (component_export_kind kind).Reads Wide (b ∷ rest) rest)
    → Sound (sound_behind b alias) (choose ((0x00, read_export kind) ∷ []) nowhere)
only_row kind b k = choose_tells _ _ (export_sound kind (λ i n bytes rest r. (_, k _, (_, refl, r))), tt) nowhere_tells

either_sound : {form : Form AliasOf} (kind : ComponentExportKind) (outer : ComponentOuterAliasKind)
    → ((i : ℕ) (n : List ℕ) → IsAlias (0x00 ▸ u32 i ⨾ name_form n) form (InstanceExport i kind n))
    → ((c n : ℕ) → IsAlias (0x02 ▸ u32 c ⨾ u32 n) form (Outer outer c n)) → Sound form (read_export_or_outer kind outer)
either_sound kind outer k l = choose_tells _ _ (
  export_sound kind (λ i n bytes rest r. k i n _ rest (bytes, refl, r)),
  (outer_sound outer (λ c n bytes rest r. l c n _ rest (bytes, refl, r)), tt),
) nowhere_tells

core_rows_sound : Sound (sound_behind 0x00 alias) (choose (
    (0x00, read_core_export cores.Func) ∷
    (0x01, read_core_export cores.Table) ∷
    (0x02, read_core_export cores.Memory) ∷
    (0x03, read_core_export cores.Global) ∷
    (0x04, read_core_export cores.Tag) ∷
    (0x10, choose ((0x02, read_outer outers.CoreType) ∷ []) nowhere) ∷
    (0x11, read_export_or_outer kinds.Module outers.CoreModule) ∷ []) nowhere)
core_rows_sound = choose_tells _ _ (
  core_row cores.Func,
  (
    core_row cores.Table,
    (
      core_row cores.Memory,
      (
        core_row cores.Global,
        (
          core_row cores.Tag,
          (
            choose_tells _ _ (
              outer_sound outers.CoreType
                  (λ c n bytes rest r. (_, (_, refl, refl), (_, refl, r))),
              tt,
            ) nowhere_tells,
            (
              either_sound kinds.Module outers.CoreModule
                  (λ i n bytes rest r. (_, (_, refl, refl), r))
                  (λ c n bytes rest r. (_, (_, refl, refl), r)),
              tt,
            ),
          ),
        ),
      ),
    ),
  ),
) nowhere_tells

pub alias_sound : Sound alias read_alias
alias_sound = choose_tells _ _ (
  core_rows_sound,
  (
    only_row kinds.Func 0x01 (λ rest. refl),
    (
      only_row kinds.Value 0x02 (λ rest. refl),
      (
        either_sound kinds.«Type» outers.«Type» (λ i n bytes rest r. (_, refl, r)) (λ c n bytes rest r. (_, refl, r)),
        (
          either_sound kinds.Component outers.Component (λ i n bytes rest r. (_, refl, r))
              (λ c n bytes rest r. (_, refl, r)),
          (only_row kinds.Instance 0x05 (λ rest. refl), tt),
        ),
      ),
    ),
  ),
) nowhere_tells
