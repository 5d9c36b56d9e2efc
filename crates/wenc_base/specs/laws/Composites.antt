-- The laws of types that core modules define.
use Rattle.std.specs.Cmp.Lexicographic.{pointwise}
use Rattle.std.proofs.Common.{Vec, ◌&&◌, ℕ, Bool, true, false, List, [], ◌∷◌, ◌++◌, Option, Some, None, refl, ap, ◌≡◌}
use Rattle.wenc_base.specs.Delimited.{AlikeIsEqual}
use Rattle.wenc_base.specs.Forms.{list, option}
use Rattle.wenc_base.specs.Number.{u32}
use Rattle.wenc_base.specs.Piece.{Form, Wide, ◌▸◌, ◌⨾◌}
use Rattle.wenc_base.specs.laws.Delimited.{list_equal}
use Rattle.wenc_base.specs.Readers.{Lawful, Reader, choose}
use Rattle.wenc_base.specs.laws.Lawful.{row_lawful, row_byte, first_of_two, then, last}
use Rattle.wenc_base.specs.laws.Sound.{Sound, sound_behind, RowsAreSound, both_tables, give_tells}
use Rattle.wenc_base.specs.laws.Sound.{last_tells, then_tells, nowhere_tells, choose_tells}
use Rattle.wenc_base.specs.laws.Numbers.{u32_lawful, u32_sound}
use Rattle.wenc_base.specs.laws.Forms.{flag_lawful, flag_sound, list_lawful, list_sound, option_lawful, option_sound}
use Rattle.wenc_base.specs.laws.Types.{val_type_row, val_type_rows_sound, val_type_lawful, val_type_sound}
use Rattle.wenc_base.specs.reading.Types.{val_type_rows}
use Rattle.wenc_base.specs.declared.types.ValType.{ValType}
use Rattle.wenc_base.specs.declared.types.composite.FuncType.{FuncType}
use Rattle.wenc_base.specs.declared.types.composite.ArrayType.{ArrayType}
use Rattle.wenc_base.specs.declared.types.composite.StructType.{StructType}
use Rattle.wenc_base.specs.declared.types.composite.CompositeType.{CompositeType}
use Rattle.wenc_base.specs.declared.types.composite.CompositeType.TheVariants as composites
use Rattle.wenc_base.specs.declared.types.sub.SubType.{SubType}
use Rattle.wenc_base.specs.declared.types.groups.GroupTree.{GroupTree}
use Rattle.wenc_base.specs.declared.types.groups.GroupTree.TheVariants as groups
use Rattle.wenc_base.specs.declared.types.storage.StorageType.{StorageType}
use Rattle.wenc_base.specs.declared.types.storage.StorageType.TheVariants.{I8, I16, Val}
use Rattle.wenc_base.specs.declared.types.storage.FieldType.{FieldType}
use Rattle.wenc_base.specs.Composites.{storage_type, field_type, Composite, Func, Array, Struct}
use Rattle.wenc_base.specs.Composites.{composite_type, Sub, sub_type_of, sub_type, final, RecType}
use Rattle.wenc_base.specs.Composites.{Single, Rec, rec_type, params_of, results_of, func_type_view}
use Rattle.wenc_base.specs.Composites.{array_view, structure_view, composite_view, sub_view}
use Rattle.wenc_base.specs.Composites.{rec_type_view}
use Rattle.wenc_base.specs.reading.Composites.{composite_rows, field_of, final_rows, group_rows}
use Rattle.wenc_base.specs.reading.Composites.{read_closed, read_composite, read_extension}
use Rattle.wenc_base.specs.reading.Composites.{read_field_type, read_group, read_storage_type}
use Rattle.wenc_base.specs.reading.Composites.{read_sub_type, read_types, small_rows, sub_of}
use Rattle.wenc_base.specs.reading.Composites.{sub_rows}

-- ---- fields

pub storage_type_lawful : (t : StorageType) → Lawful (storage_type t) (λ fuel. read_storage_type) t
storage_type_lawful I8 = row_byte _ _ 0x78 (λ fuel rest. refl)
storage_type_lawful I16 = row_byte _ _ 0x77 (λ fuel rest. refl)
storage_type_lawful (Val t) = val_type_row Val (λ fuel. small_rows) _ t

pub storage_type_sound : Sound storage_type read_storage_type
storage_type_sound = choose_tells _ _
    (both_tables storage_type (val_type_rows Val) small_rows
    (val_type_rows_sound storage_type Val (λ t bytes rest r. r))
    (give_tells I8 (λ bytes. refl), (give_tells I16 (λ bytes. refl), tt))) nowhere_tells

pub field_type_lawful : (f : FieldType) → Lawful (field_type f) (λ fuel. read_field_type) f
field_type_lawful f = then _ (storage_type_lawful f.element_type)
    (last (field_of f.element_type) (flag_lawful f.mutable))

pub field_type_sound : Sound field_type read_field_type
field_type_sound = then_tells _ storage_type_sound
    (λ t. last_tells (field_of t) flag_sound (λ mutable middle rest r bytes p. (middle, p, r)))

-- ---- composite types

-- a composite type, where other rows may follow in the table
pub composite_row : {A : Type 0} (make : Composite → A) (rows : ℕ → List (ℕ × Reader A))
    (other : ℕ → Reader A) (c : Composite)
    → Lawful (composite_type c) (λ fuel. choose (composite_rows make ++ rows fuel) (other fuel)) (make c)
composite_row make rows other (Func params results) =
    row_lawful _ _ 0x60 (then _ (list_lawful val_type_lawful params)
    (last (λ types. make (Func params types)) (list_lawful val_type_lawful results)))
composite_row make rows other (Array f) = row_lawful _ _ 0x5e (last (λ g. make (Array g)) (field_type_lawful f))
composite_row make rows other (Struct fields) =
    row_lawful _ _ 0x5f (last (λ fs. make (Struct fs)) (list_lawful field_type_lawful fields))

-- each row of a table of composite types
pub composite_rows_sound : {A : Type 0} (form : Form A) (make : Composite → A)
    → ((c : Composite) (bytes rest : List ℕ) → (composite_type c).Reads Wide bytes rest
    → (form (make c)).Reads Wide bytes rest) → RowsAreSound form (composite_rows make)
composite_rows_sound form make k = (
  then_tells _ (list_sound val_type_sound)
      (λ params. last_tells (λ results. make (Func params results)) (list_sound val_type_sound)
      (λ results middle rest r bytes p. k (Func params results) _ rest
      (bytes, refl, (middle, p, r)))),
  (
    last_tells (λ f. make (Array f)) field_type_sound (λ f bytes rest r. k (Array f) _ rest (bytes, refl, r)),
    (
      last_tells (λ fields. make (Struct fields)) (list_sound field_type_sound)
          (λ fields bytes rest r. k (Struct fields) _ rest (bytes, refl, r)),
      tt,
    ),
  ),
)

pub composite_type_lawful : (c : Composite) → Lawful (composite_type c) (λ fuel. read_composite) c
composite_type_lawful c = composite_row (λ d. d) (λ fuel. []) _ c

pub composite_type_sound : Sound composite_type read_composite
composite_type_sound = choose_tells _ _ (composite_rows_sound composite_type (λ c. c)
    (λ c bytes rest r. r)) nowhere_tells

-- ---- sub types

pub extension_lawful : {A : Type 0} (make : Option ℕ → Composite → A) (supertype : Option ℕ) (c : Composite)
    → Lawful (option u32 supertype ⨾ composite_type c) (λ fuel. read_extension make) (make supertype c)
extension_lawful make supertype c =
    then _ (option_lawful u32_lawful supertype) (last (make supertype) (composite_type_lawful c))

-- each of what is extended, after the byte that says how
pub extension_sound : {A : Type 0} (form : Form A) (b : ℕ) (make : Option ℕ → Composite → A)
    → ((supertype : Option ℕ) (c : Composite) (bytes rest : List ℕ)
    → (b ▸ (option u32 supertype ⨾ composite_type c)).Reads Wide bytes rest
    → (form (make supertype c)).Reads Wide bytes rest) → Sound (sound_behind b form)
    (read_extension make)
extension_sound form b make k = then_tells _ (option_sound u32_sound)
    (λ supertype. last_tells (make supertype) composite_type_sound
    (λ c middle rest r bytes p. k supertype c _ rest (bytes, refl, (middle, p, r))))

closed_lawful : {A : Type 0} (make : ℕ → Composite → A) (n : ℕ) (c : Composite)
    → Lawful (option u32 (Some n) ⨾ composite_type c) (λ fuel. read_closed make) (make n c)
closed_lawful make n c = first_of_two (u32 n) (composite_type c) _ _ 0x01
    (then _ (u32_lawful n) (last (make n) (composite_type_lawful c)))

-- a type that can't be extended, where other rows may follow in the table
pub final_row : {A : Type 0} (make : Sub → A) (rows : ℕ → List (ℕ × Reader A))
    (other : ℕ → Reader A) (supertype : Option ℕ) (c : Composite)
    → Lawful (sub_type_of true supertype c)
    (λ fuel. choose (final_rows make ++ rows fuel) (other fuel)) (make (sub_of true supertype c))
final_row make rows other None c = composite_row (λ d. make (final d))
    (λ fuel. (0x4f, read_closed (λ n d. make (sub_of true (Some n) d))) ∷ rows fuel) other c
final_row make rows other (Some n) c = row_lawful _ _ 0x4f (closed_lawful (λ m d. make (sub_of true (Some m) d)) n c)

-- each row of a table of types that can't be extended
pub final_rows_sound : {A : Type 0} (form : Form A) (make : Sub → A)
    → ((supertype : Option ℕ) (c : Composite) (bytes rest : List ℕ)
    → (sub_type_of true supertype c).Reads Wide bytes rest
    → (form (make (sub_of true supertype c))).Reads Wide bytes rest)
    → RowsAreSound form (final_rows make)
final_rows_sound form make k = both_tables form (composite_rows (λ c. make (final c)))
    ((0x4f, read_closed (λ n c. make (sub_of true (Some n) c))) ∷ [])
    (composite_rows_sound form (λ c. make (final c)) (λ c. k None c)) (
      choose_tells _ _ (
        then_tells _ u32_sound (λ n. last_tells (λ c. make (sub_of true (Some n) c))
            composite_type_sound (λ c middle rest r bytes p. k (Some n) c _ rest
            (_, refl, (middle, (bytes, refl, p), r)))),
        tt,
      ) nowhere_tells,
      tt,
    )

-- a sub type, where other rows may follow in the table
pub sub_row : {A : Type 0} (make : Sub → A) (rows : ℕ → List (ℕ × Reader A)) (other : ℕ → Reader A) (s : Sub)
    → Lawful (sub_type s) (λ fuel. choose (sub_rows make ++ rows fuel) (other fuel)) (make s)
sub_row {A} make rows other s = of s.is_final s.supertype s.composite
  where
    of : (is_final : Bool) (supertype : Option ℕ) (c : Composite)
        → Lawful (sub_type_of is_final supertype c)
        (λ fuel. choose (sub_rows make ++ rows fuel) (other fuel))
        (make (sub_of is_final supertype c))
    of true supertype c = final_row make
        (λ fuel. (0x50, read_extension (λ t d. make (sub_of false t d))) ∷ rows fuel)
        other supertype c
    of false supertype c = row_lawful _ _ 0x50 (extension_lawful (λ t d. make (sub_of false t d)) supertype c)

-- each row of a table of sub types
pub sub_rows_sound : {A : Type 0} (form : Form A) (make : Sub → A)
    → ((s : Sub) (bytes rest : List ℕ) → (sub_type s).Reads Wide bytes rest
    → (form (make s)).Reads Wide bytes rest) → RowsAreSound form (sub_rows make)
sub_rows_sound form make k = both_tables form (final_rows make)
    ((0x50, read_extension (λ supertype c. make (sub_of false supertype c))) ∷ [])
    (final_rows_sound form make (λ supertype c. k (sub_of true supertype c))) (
      extension_sound form 0x50 (λ supertype c. make (sub_of false supertype c))
          (λ supertype c. k (sub_of false supertype c)),
      tt,
    )

pub sub_type_lawful : (s : Sub) → Lawful (sub_type s) (λ fuel. read_sub_type) s
sub_type_lawful s = sub_row (λ t. t) (λ fuel. []) _ s

pub sub_type_sound : Sound sub_type read_sub_type
sub_type_sound = choose_tells _ _ (sub_rows_sound sub_type (λ s. s) (λ s bytes rest r. r)) nowhere_tells

-- ---- groups

pub types_lawful : {A : Type 0} (make : RecType → A) (types : List Sub)
    → Lawful (list sub_type types) (λ fuel. read_types make) (make (Rec types))
types_lawful make types = last (λ ts. make (Rec ts)) (list_lawful sub_type_lawful types)

-- a group, where other rows may follow in the table
pub group_row : {A : Type 0} (make : RecType → A) (rows : ℕ → List (ℕ × Reader A)) (other : ℕ → Reader A) (g : RecType)
    → Lawful (rec_type g) (λ fuel. choose (group_rows make ++ rows fuel) (other fuel)) (make g)
group_row make rows other (Single s) =
    sub_row (λ t. make (Single t)) (λ fuel. (0x4e, read_types make) ∷ rows fuel) other s
group_row make rows other (Rec types) = row_lawful _ _ 0x4e (types_lawful make types)

pub types_sound : {A : Type 0} (form : Form A) (b : ℕ) (make : RecType → A)
    → ((types : List Sub) (bytes rest : List ℕ) → (b ▸ list sub_type types).Reads Wide bytes rest
    → (form (make (Rec types))).Reads Wide bytes rest) → Sound (sound_behind b form)
    (read_types make)
types_sound form b make k = last_tells (λ types. make (Rec types)) (list_sound sub_type_sound)
    (λ types bytes rest r. k types _ rest (bytes, refl, r))

-- each row of a table of groups
pub group_rows_sound : {A : Type 0} (form : Form A) (make : RecType → A)
    → ((g : RecType) (bytes rest : List ℕ) → (rec_type g).Reads Wide bytes rest
    → (form (make g)).Reads Wide bytes rest) → RowsAreSound form (group_rows make)
group_rows_sound form make k = both_tables form (sub_rows (λ s. make (Single s)))
    ((0x4e, read_types make) ∷ []) (sub_rows_sound form (λ s. make (Single s)) (λ s. k (Single s)))
    (types_sound form 0x4e make (λ types. k (Rec types)), tt)

pub group_lawful : (g : RecType) → Lawful (rec_type g) (λ fuel. read_group) g
group_lawful g = group_row (λ h. h) (λ fuel. []) _ g

pub group_sound : Sound rec_type read_group
group_sound = choose_tells _ _ (group_rows_sound rec_type (λ g. g) (λ g bytes rest r. r)) nowhere_tells

-- ---- equal types

abbrev params : Composite → List ValType
params (Func ps rs) = ps
params (Array f) = []
params (Struct fields) = []

abbrev results : Composite → List ValType
results (Func ps rs) = rs
results (Array f) = []
results (Struct fields) = []

abbrev fields_of : Composite → List FieldType
fields_of (Func ps rs) = []
fields_of (Array f) = f ∷ []
fields_of (Struct fields) = fields

-- types that are seen alike have the same lists
pub same_params : {A : Type 0} (f g : FuncType A) → func_type_view f ≡ func_type_view g → params_of f ≡ params_of g
same_params f g e = ap params e

pub same_results : {A : Type 0} (f g : FuncType A) → func_type_view f ≡ func_type_view g → results_of f ≡ results_of g
same_results f g e = ap results e

pub same_fields : {A : Type 0} (s t : StructType A) → structure_view s ≡ structure_view t
    → s.fields.items ≡ t.fields.items
same_fields s t e = ap fields_of e

pub same_element : (a b : ArrayType) → array_view a ≡ array_view b → a.0 ≡ b.0
same_element a b e =
    let elements : a.0 ∷ [] ≡ b.0 ∷ [] = ap fields_of e in
    cc

-- two composite types that are seen alike are of one kind
pub by_kind : {A : Type 0} (eq : CompositeType A → CompositeType A → Bool)
    → ((f g : FuncType A) → func_type_view f ≡ func_type_view g → eq (composites.Func f) (composites.Func g) ≡ true)
    → ((a b : ArrayType) → array_view a ≡ array_view b → eq (composites.Array a) (composites.Array b) ≡ true)
    → ((s t : StructType A) → structure_view s ≡ structure_view t
    → eq (composites.Struct s) (composites.Struct t) ≡ true)
    → AlikeIsEqual eq composite_view
by_kind eq f a s (composites.Func x) (composites.Func y) e = f x y e
by_kind eq f a s (composites.Array x) (composites.Array y) e = a x y e
by_kind eq f a s (composites.Struct x) (composites.Struct y) e = s x y e
by_kind eq f a s c d e = absurd cc

-- a final type without supertype
abbrev pub plain : {A : Type 0} → CompositeType A → SubType A
plain c = record { is_final = true; supertype_idx = None; composite_type = c }

-- two sub types that are seen alike have composite types that are
pub by_parts : {A : Type 0} (eq : SubType A → SubType A → Bool)
    → AlikeIsEqual (λ c d. eq (plain c) (plain d)) composite_view
    → ((s t : SubType A) → s.is_final ≡ t.is_final → s.supertype_idx ≡ t.supertype_idx
    → eq (plain s.composite_type) (plain t.composite_type) ≡ true → eq s t ≡ true)
    → AlikeIsEqual eq sub_view
by_parts eq composites parts s t e =
    parts s t (ap (λ (u : Sub). u.is_final) e) (ap (λ (u : Sub). u.supertype) e)
    (composites s.composite_type t.composite_type (ap (λ (u : Sub). u.composite) e))

pub last_of_three : (p q r s : Bool) → p && (q && r) ≡ true → s ≡ true → p && (q && s) ≡ true
last_of_three true true r s h k = k
last_of_three true false r s h k = h
last_of_three false q r s h k = h

abbrev types_of : RecType → List Sub
types_of (Single s) = s ∷ []
types_of (Rec types) = types

-- two groups that are seen alike are of one kind
pub by_group : {A : Type 0} (eq : GroupTree A → GroupTree A → Bool)
    → AlikeIsEqual (λ s t. eq (groups.Sub s) (groups.Sub t)) sub_view
    → ((v w : Vec (SubType A) A) → pointwise (λ s t. eq (groups.Sub s) (groups.Sub t)) v.items
    w.items ≡ true → eq (groups.Rec v) (groups.Rec w) ≡ true)
    → AlikeIsEqual eq rec_type_view
by_group eq alike lists (groups.Sub s) (groups.Sub t) e =
    let alone : sub_view s ∷ [] ≡ sub_view t ∷ [] = ap types_of e in
    alike s t cc
by_group eq alike lists (groups.Sub s) (groups.Rec w) e = absurd cc
by_group eq alike lists (groups.Rec v) (groups.Sub t) e = absurd cc
by_group eq alike lists (groups.Rec v) (groups.Rec w) e =
    lists v w (list_equal _ sub_view alike v.items w.items (ap types_of e))
