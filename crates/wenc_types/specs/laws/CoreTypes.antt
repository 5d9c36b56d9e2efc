-- The laws of core types in components.
use Rattle.std.proofs.Common.{String, ◌≡◌, ℕ, Bool, true, false, List, [], ◌∷◌, ◌++◌, Option, Vec}
use Rattle.std.proofs.Common.{map, refl, sym, ap, subst, ◌∙◌}
use Rattle.std.specs.Cmp.{IsEquivalence}
use Rattle.std.specs.Cmp.Lexicographic.{pointwise}
use Rattle.std.specs.String.{string_bytes}
use Rattle.wenc_base.specs.Prelude.{AlikeIsEqual, Composite, Form, Lawful, Reader, Rec, RecType}
use Rattle.wenc_base.specs.Prelude.{RowsAreSound, Single, Sound, Sub, Wide, both_tables, choose}
use Rattle.wenc_base.specs.Prelude.{choose_tells, composite_view, entity_type_lawful}
use Rattle.wenc_base.specs.Prelude.{entity_type_sound, final_rows, group_lawful, group_sound, last}
use Rattle.wenc_base.specs.Prelude.{last_tells, list, list_lawful, list_sound, name_lawful}
use Rattle.wenc_base.specs.Prelude.{name_sound, nowhere, nowhere_tells, params_of, read_types}
use Rattle.wenc_base.specs.Prelude.{rec_type_view, results_of, row_lawful, same_element}
use Rattle.wenc_base.specs.Prelude.{same_fields, same_params, same_results, sound_behind, standing}
use Rattle.wenc_base.specs.Prelude.{sub_of, sub_type_of, sub_view, then, then_tells, u32_lawful}
use Rattle.wenc_base.specs.Prelude.{u32_sound}
use Rattle.wenc_base.specs.declared.types.composite.CompositeType.{CompositeType}
use Rattle.wenc_base.specs.declared.imports.EntityType.{EntityType}
use Rattle.wenc_base.specs.declared.types.storage.FieldType.{FieldType}
use Rattle.wenc_base.specs.declared.types.composite.FuncType.{FuncType}
use Rattle.wenc_base.specs.declared.types.groups.GroupTree.{GroupTree}
use Rattle.wenc_base.specs.declared.types.composite.StructType.{StructType}
use Rattle.wenc_base.specs.declared.types.sub.SubType.{SubType}
use Rattle.wenc_base.specs.declared.types.composite.CompositeType.TheVariants as composites
use Rattle.wenc_base.specs.declared.types.groups.GroupTree.TheVariants as groups
use Rattle.wenc_base.specs.Composites.{guard_before}
use Rattle.wenc_base.specs.laws.Composites.{extension_lawful, extension_sound, final_row}
use Rattle.wenc_base.specs.laws.Composites.{final_rows_sound, types_lawful, types_sound}
use Rattle.wenc_types.specs.CoreTypes.{ModuleDeclaration, ModuleImport, ModuleRecType, ModuleOuter}
use Rattle.wenc_types.specs.CoreTypes.{ModuleExport, module_declaration, module_type, CoreType}
use Rattle.wenc_types.specs.CoreTypes.{Grouped, Module, core_type}
use Rattle.wenc_types.specs.CoreTypeTrees.{module_declaration_view, core_type_view}
use Rattle.wenc_types.specs.declared.core_type_tree.ModuleDecl.{ModuleDecl}
use Rattle.wenc_types.specs.declared.core_type_tree.ModuleDecl.TheVariants as decls
use Rattle.wenc_types.specs.declared.core_type_tree.CoreTypeTree.{CoreTypeTree}
use Rattle.wenc_types.specs.declared.core_type_tree.CoreTypeTree.TheVariants as trees
use Rattle.wenc_types.specs.reading.CoreTypes.{core_type_rows, declaration_rows, read_core_type}
use Rattle.wenc_types.specs.reading.CoreTypes.{read_declarations, read_module_declaration}
use Rattle.wenc_types.specs.reading.CoreTypes.{read_open, standing_rows}

-- ---- module types

-- a declaration, where other rows may follow in the table
pub declaration_row : {A : Type 0} (make : ModuleDeclaration → A) (rows : ℕ → List (ℕ × Reader A))
    (other : ℕ → Reader A) (d : ModuleDeclaration)
    → Lawful (module_declaration d) (λ fuel. choose (declaration_rows make ++ rows fuel) (other fuel)) (make d)
declaration_row make rows other (ModuleImport from name ty) =
    row_lawful _ _ 0x00 (then _ (name_lawful from)
    (then _ (name_lawful name) (last (λ t. make (ModuleImport from name t))
    (entity_type_lawful ty))))
declaration_row make rows other (ModuleRecType g) =
    row_lawful _ _ 0x01 (last (λ h. make (ModuleRecType h)) (group_lawful g))
declaration_row make rows other (ModuleOuter count number) =
    row_lawful _ _ 0x02 (row_lawful _ _ 0x10
    (row_lawful _ _ 0x01 (then _ (u32_lawful count) (last
    (λ n. make (ModuleOuter count n)) (u32_lawful number)))))
declaration_row make rows other (ModuleExport name ty) =
    row_lawful _ _ 0x03 (then _ (name_lawful name)
    (last (λ t. make (ModuleExport name t)) (entity_type_lawful ty)))

pub module_declaration_rows_sound : RowsAreSound module_declaration (declaration_rows (λ d. d))
module_declaration_rows_sound = (
  then_tells _ name_sound (λ from. then_tells _ name_sound
      (λ name. last_tells (ModuleImport from name) entity_type_sound
      (λ ty b rest r a q bytes p. (bytes, refl, (a, p, (b, q, r)))))),
  (
    last_tells ModuleRecType group_sound (λ g bytes rest r. (bytes, refl, r)),
    (
      choose_tells _ _ (
        choose_tells _ _ (
          then_tells _ u32_sound
              (λ count. last_tells (ModuleOuter count) u32_sound
              (λ n middle rest r bytes p. (_, refl, (_, refl, (bytes, refl, (middle, p, r)))))),
          tt,
        )
            nowhere_tells,
        tt,
      ) nowhere_tells,
      (
        then_tells _ name_sound (λ name. last_tells (ModuleExport name) entity_type_sound
            (λ ty middle rest r bytes p. (bytes, refl, (middle, p, r)))),
        tt,
      ),
    ),
  ),
)

pub module_declaration_lawful : (d : ModuleDeclaration) → Lawful (module_declaration d)
    (λ fuel. read_module_declaration) d
module_declaration_lawful d = declaration_row (λ e. e) (λ fuel. []) _ d

pub module_declaration_sound : Sound module_declaration read_module_declaration
module_declaration_sound = choose_tells _ _ module_declaration_rows_sound nowhere_tells

pub declarations_lawful : {A : Type 0} (make : List ModuleDeclaration → A) (ds : List ModuleDeclaration)
    → Lawful (list module_declaration ds) (λ fuel. read_declarations make) (make ds)
declarations_lawful make ds = last make (list_lawful module_declaration_lawful ds)

abbrev pub read_module_type : Reader (List ModuleDeclaration)
read_module_type = choose ((0x50, read_declarations (λ ds. ds)) ∷ []) nowhere

pub module_type_lawful : (ds : List ModuleDeclaration) → Lawful (module_type ds) (λ fuel. read_module_type) ds
module_type_lawful ds = row_lawful _ _ 0x50 (declarations_lawful (λ es. es) ds)

-- ---- core types

-- a group with guards, where other rows may follow in the table
pub standing_row : {A : Type 0} (make : RecType → A) (rows : ℕ → List (ℕ × Reader A))
    (other : ℕ → Reader A) (g : RecType)
    → Lawful (standing true g) (λ fuel. choose (standing_rows make ++ rows fuel) (other fuel)) (make g)
standing_row {A} make rows other (Single s) = of s.is_final s.supertype s.composite
  where
    of : (is_final : Bool) (supertype : Option ℕ) (c : Composite)
        → Lawful (guard_before is_final (sub_type_of is_final supertype c))
        (λ fuel. choose (standing_rows make ++ rows fuel) (other fuel))
        (make (Single (sub_of is_final supertype c)))
    of true supertype c = final_row (λ t. make (Single t))
        (λ fuel. (0x4e, read_types make) ∷ (0x00, read_open (λ t. make (Single t))) ∷ rows fuel)
        other supertype c
    of false supertype c = row_lawful _ _ 0x00
        (row_lawful _ _ 0x50 (extension_lawful (λ t d. make (Single (sub_of false t d))) supertype c))
standing_row make rows other (Rec types) = row_lawful _ _ 0x4e (types_lawful make types)

-- a core type, where other rows may follow in the table
pub core_type_row : {A : Type 0} (make : CoreType → A) (rows : ℕ → List (ℕ × Reader A))
    (other : ℕ → Reader A) (t : CoreType)
    → Lawful (core_type t) (λ fuel. choose (core_type_rows make ++ rows fuel) (other fuel)) (make t)
core_type_row make rows other (Grouped g) = standing_row (λ h. make (Grouped h))
    (λ fuel. (0x50, read_declarations (λ ds. make (Module ds))) ∷ rows fuel) other g
core_type_row make rows other (Module ds) = row_lawful _ _ 0x50 (declarations_lawful (λ es. make (Module es)) ds)

pub core_type_lawful : (t : CoreType) → Lawful (core_type t) (λ fuel. read_core_type) t
core_type_lawful t = core_type_row (λ u. u) (λ fuel. []) _ t

-- ---- what is found is read

open_sound : {A : Type 0} (form : Form A) (make : Sub → A)
    → ((supertype : Option ℕ) (c : Composite) (bytes rest : List ℕ)
    → (sub_type_of false supertype c).Reads Wide bytes rest
    → (form (make (sub_of false supertype c))).Reads Wide (0x00 ∷ bytes) rest)
    → Sound (sound_behind 0x00 form) (read_open make)
open_sound form make k = choose_tells _ _ (
  extension_sound (sound_behind 0x00 form) 0x50 (λ supertype c. make (sub_of false supertype c))
      k,
  tt,
) nowhere_tells

pub core_type_sound : Sound core_type read_core_type
core_type_sound = choose_tells _ _ (both_tables core_type (standing_rows Grouped)
    ((0x50, read_declarations (λ ds. Module ds)) ∷ [])
    (both_tables core_type (final_rows (λ s. Grouped (Single s)))
    ((0x4e, read_types Grouped) ∷ (0x00, read_open (λ s. Grouped (Single s))) ∷ [])
    (final_rows_sound core_type (λ s. Grouped (Single s)) (λ supertype c bytes rest r. r)) (
      types_sound core_type 0x4e Grouped (λ types bytes rest r. r),
      (open_sound core_type (λ s. Grouped (Single s)) (λ supertype c bytes rest r. (bytes, refl, r)), tt),
    )) (
      last_tells Module (list_sound module_declaration_sound)
          (λ ds bytes rest r. (bytes, refl, r)),
      tt,
    )) nowhere_tells

-- ---- equal values

-- A value compares with one that is seen alike as it does with itself.
abbrev pub SeesAlike : {A S : Type 0} → (A → A → Bool) → (A → S) → Type 0
SeesAlike {A} eq seen = (a b : A) → seen a ≡ seen b → eq a a ≡ eq a b

-- so that values which are seen alike are equal
pub alike_by : {A S : Type 0} (eq : A → A → Bool) (seen : A → S) → SeesAlike eq seen
    → IsEquivalence eq → AlikeIsEqual eq seen
alike_by eq seen sees laws a b e = sym (sees a b e) ∙ laws.refl a

pub each_sees : {A S : Type 0} (eq : A → A → Bool) (seen : A → S) → SeesAlike eq seen
    → SeesAlike (pointwise eq) (map seen)
each_sees eq seen sees [] [] e = refl
each_sees eq seen sees [] (w ∷ ws) e = absurd cc
each_sees eq seen sees (v ∷ vs) [] e = absurd cc
each_sees eq seen sees (v ∷ vs) (w ∷ ws) e =
    let one : eq v v ≡ eq v w = sees v w cc in
    let others : pointwise eq vs vs ≡ pointwise eq vs ws = each_sees eq seen sees vs ws cc in
    rw (one, others) refl

-- types, by what their kinds have
pub composite_sees : {A : Type 0} (eq : CompositeType A → CompositeType A → Bool)
    → ((f g : FuncType A) → params_of f ≡ params_of g → results_of f ≡ results_of g
    → eq (composites.Func f) (composites.Func f) ≡ eq (composites.Func f) (composites.Func g))
    → ((s t : StructType A) → s.fields.items ≡ t.fields.items
    → eq (composites.Struct s) (composites.Struct s) ≡ eq (composites.Struct s)
    (composites.Struct t))
    → SeesAlike eq composite_view
composite_sees eq f s (composites.Func x) (composites.Func y) e = f x y (same_params x y e) (same_results x y e)
composite_sees eq f s (composites.Array x) (composites.Array y) e =
    subst (λ (t : FieldType). eq (composites.Array x) (composites.Array x)
    ≡ eq (composites.Array x) (composites.Array (record { 0 = t }))) (same_element x y e) refl
composite_sees eq f s (composites.Struct x) (composites.Struct y) e = s x y (same_fields x y e)
composite_sees eq f s c d e = absurd cc

abbrev sub_with : {A : Type 0} → Bool → Option ℕ → CompositeType A → SubType A
sub_with is_final supertype c = record { is_final = is_final; supertype_idx = supertype; composite_type = c }

abbrev ByComposites : {A : Type 0} → (SubType A → SubType A → Bool) → Type 0
ByComposites eq = (is_final : Bool) (supertype : Option ℕ)
    → SeesAlike (λ c d. eq (sub_with is_final supertype c) (sub_with is_final supertype d))
    composite_view

-- sub types, by their composite types
pub sub_sees : {A : Type 0} (eq : SubType A → SubType A → Bool) → ByComposites eq → SeesAlike eq sub_view
sub_sees eq sees s t e =
    let finals : s.is_final ≡ t.is_final = ap (λ (v : Sub). v.is_final) e in
    let supertypes : s.supertype_idx ≡ t.supertype_idx = ap (λ (v : Sub). v.supertype) e in
    subst (λ (b : Bool). eq s s ≡ eq s (sub_with b t.supertype_idx t.composite_type)) finals
    (subst (λ (o : Option ℕ). eq s s ≡ eq s (sub_with s.is_final o t.composite_type)) supertypes
    (sees s.is_final s.supertype_idx s.composite_type t.composite_type (ap (λ (v : Sub). v.composite) e)))

-- groups, by those of their sub types
pub group_sees : {A : Type 0} (eq : GroupTree A → GroupTree A → Bool)
    (of : SubType A → SubType A → Bool) → ByComposites of
    → ((s t : SubType A) → of s t ≡ eq (groups.Sub s) (groups.Sub t))
    → ((ts us : Vec (SubType A) A) → pointwise of ts.items us.items ≡ eq (groups.Rec ts) (groups.Rec us))
    → SeesAlike eq rec_type_view
group_sees eq of sees s r (groups.Sub x) (groups.Sub y) e = rw (← s x x, ← s x y) (sub_sees of sees x y cc)
group_sees eq of sees s r (groups.Sub x) (groups.Rec us) e = absurd cc
group_sees eq of sees s r (groups.Rec ts) (groups.Sub y) e = absurd cc
group_sees eq of sees s r (groups.Rec ts) (groups.Rec us) e =
    rw (← r ts ts, ← r ts us) (each_sees of sub_view (sub_sees of sees) ts.items us.items cc)

-- declarations, by what their kinds have
pub declaration_sees : {A : Type 0} (eq : ModuleDecl A → ModuleDecl A → Bool)
    → ((m n k l : String A) (t : EntityType) → string_bytes m ≡ string_bytes k
    → string_bytes n ≡ string_bytes l → eq (decls.Import m n t) (decls.Import m n t)
    ≡ eq (decls.Import m n t) (decls.Import k l t))
    → SeesAlike (λ g h. eq (decls.«Type» g) (decls.«Type» h)) rec_type_view
    → ((n l : String A) (t : EntityType) → string_bytes n ≡ string_bytes l
    → eq (decls.Export n t) (decls.Export n t) ≡ eq (decls.Export n t) (decls.Export l t))
    → SeesAlike eq module_declaration_view
declaration_sees eq i g x (decls.Import m n t) (decls.Import k l u) e =
    let types : t ≡ u = cc in
    subst (λ (v : EntityType). eq (decls.Import m n t) (decls.Import m n t)
    ≡ eq (decls.Import m n t) (decls.Import k l v)) types (i m n k l t (cc) (cc))
declaration_sees eq i g x (decls.«Type» y) (decls.«Type» z) e = g y z cc
declaration_sees eq i g x (decls.Alias c n) (decls.Alias d k) e =
    let counts : c ≡ d = cc in
    let numbers : n ≡ k = cc in
    rw (counts, numbers) refl
declaration_sees eq i g x (decls.Export n t) (decls.Export l u) e =
    let types : t ≡ u = cc in
    subst (λ (v : EntityType). eq (decls.Export n t) (decls.Export n t)
    ≡ eq (decls.Export n t) (decls.Export l v)) types (x n l t cc)
declaration_sees eq i g x c d e = absurd cc

-- core types, by their declarations
pub core_type_sees : {A : Type 0} (eq : CoreTypeTree A → CoreTypeTree A → Bool)
    (of : ModuleDecl A → ModuleDecl A → Bool) → SeesAlike of module_declaration_view
    → ((g h : GroupTree A) → of (decls.«Type» g) (decls.«Type» h) ≡ eq (trees.Group g) (trees.Group h))
    → ((ds es : Vec (ModuleDecl A) A) → pointwise of ds.items es.items ≡ eq (trees.Module ds) (trees.Module es))
    → SeesAlike eq core_type_view
core_type_sees eq of sees g m (trees.Group x) (trees.Group y) e =
    let same : rec_type_view x ≡ rec_type_view y = cc in
    rw (← g x x, ← g x y) (sees (decls.«Type» x) (decls.«Type» y) (ap ModuleRecType same))
core_type_sees eq of sees g m (trees.Group x) (trees.Module es) e = absurd cc
core_type_sees eq of sees g m (trees.Module ds) (trees.Group y) e = absurd cc
core_type_sees eq of sees g m (trees.Module ds) (trees.Module es) e =
    rw (← m ds ds, ← m ds es) (each_sees of module_declaration_view sees ds.items es.items cc)
