-- The reader of types that nest is exact: what it finds is read and no deeper, what is read is
-- found, and where it says that a type is too deep, the bytes go so deep.
use Rattle.std.proofs.Common.{ℕ, zero, suc, ◌<◌, ◌≤◌, Bool, true, false, List, [], ◌∷◌, Option}
use Rattle.std.proofs.Common.{refl, ◌∙◌, inl, inr, arith}
use Rattle.std.specs.List.{AllByRecursion}
use Rattle.wenc_base.specs.Prelude.{Fewer, Finds, Form, Reader, Several, Sound, Tells, Told, Wide}
use Rattle.wenc_base.specs.Prelude.{both_tables, choose, choose_tells, count_lawful, deep_where}
use Rattle.wenc_base.specs.Prelude.{each, give, last, last_finds, last_tells, lawful_finds}
use Rattle.wenc_base.specs.Prelude.{list_lawful, list_sound, nowhere_tells, only_where}
use Rattle.wenc_base.specs.Prelude.{option_lawful, option_sound, or_deeper, read_u32, sound_behind}
use Rattle.wenc_base.specs.Prelude.{sound_tells, then, then_tells, times, times_told, told_on}
use Rattle.wenc_base.specs.Prelude.{too_deep, u32, u32_lawful, u32_sound, val_type_lawful}
use Rattle.wenc_base.specs.Prelude.{val_type_sound, ◌>>=◌}
use Rattle.wenc_base.specs.laws.Sound.{too_deep_tells}
use Rattle.wenc_base.specs.laws.Sound.{RowsTell}
use Rattle.wenc_base.specs.laws.Sound.{each_plain}
use Rattle.wenc_base.specs.laws.Sound.{nothing_finds, then_finds}
use Rattle.wenc_base.specs.laws.Sound.{too_deep_finds, row_finds, other_finds}
use Rattle.wenc_parts.specs.Prelude.{alias_lawful, alias_sound, extern_name_lawful}
use Rattle.wenc_parts.specs.Prelude.{extern_name_sound, primitive_rows, read_alias}
use Rattle.wenc_parts.specs.Prelude.{result_list_lawful, result_list_sound, type_reference_lawful}
use Rattle.wenc_parts.specs.Prelude.{type_reference_sound}
use Rattle.wenc_parts.specs.laws.Types.{primitive_rows_sound}
use Rattle.wenc_types.specs.Prelude.{Aliased, ComponentDeclaration, ComponentDeclarations}
use Rattle.wenc_types.specs.Prelude.{ComponentType, CoreTyped, Declared, DefType, DefValType}
use Rattle.wenc_types.specs.Prelude.{DefinedType, Exported, FunctionType, Imported}
use Rattle.wenc_types.specs.Prelude.{InstanceDeclaration, InstanceDeclarations, InstanceType}
use Rattle.wenc_types.specs.Prelude.{LabelledType, Primitive, ResourceType, Typed, and_component}
use Rattle.wenc_types.specs.Prelude.{and_instance, component_count, component_declaration}
use Rattle.wenc_types.specs.Prelude.{components_of, core_type_lawful, core_type_sound, def_type}
use Rattle.wenc_types.specs.Prelude.{def_val_type, defined_rows, defined_type_lawful, depth}
use Rattle.wenc_types.specs.Prelude.{each_component, each_instance, function_type, instance_count}
use Rattle.wenc_types.specs.Prelude.{instance_declaration, instances_of, labelled_type_lawful}
use Rattle.wenc_types.specs.Prelude.{named_sound, no_component, no_instance, one_level}
use Rattle.wenc_types.specs.Prelude.{read_component_declaration, read_component_type}
use Rattle.wenc_types.specs.Prelude.{read_core_type, read_defined, read_exported, read_imported}
use Rattle.wenc_types.specs.Prelude.{read_instance_declaration, read_instance_type}
use Rattle.wenc_types.specs.Prelude.{read_resource_type, read_shallow, read_signature, to_function}
use Rattle.wenc_types.specs.Prelude.{type_rows}
use Rattle.wenc_base.specs.declared.types.ValType.{ValType}
use Rattle.wenc_parts.specs.declared.types.ComponentValType.{ComponentValType}
use Rattle.wenc_types.specs.ComponentTypes.{instance_depth, component_depth, declared_depth}
use Rattle.wenc_types.specs.laws.ComponentTypes.{instances_counted, components_counted}
use Rattle.wenc_types.specs.laws.ComponentTypes.{instance_list, component_list, instances_relisted}
use Rattle.wenc_types.specs.laws.ComponentTypes.{components_relisted, no_row_is_shallow}
use Rattle.wenc_types.specs.laws.ComponentTypes.{nothing_is_shallow, no_import_is_declared}
use Rattle.wenc_types.specs.laws.ComponentTypes.{nothing_is_declared}
use Rattle.wenc_types.specs.laws.DefinedTypes.{defined_rows_sound}
use Rattle.wenc_view.specs.Depth.{Front, ByteThen, OpensTypes}
use Rattle.wenc_types.specs.reading.ComponentTypes.{read_components}
use Rattle.wenc_types.specs.reading.ComponentTypes.{read_instances}
use Rattle.wenc_types.specs.reading.ComponentTypes.{read_type}

-- ---- what doesn't nest

pub defined_sound : Sound def_val_type read_defined
defined_sound = choose_tells _ _ (both_tables def_val_type (primitive_rows Primitive)
    (defined_rows (λ t. t)) (primitive_rows_sound def_val_type Primitive (λ p rest. refl))
    (defined_rows_sound def_val_type (λ t. t) (λ t bytes rest r. r))) nowhere_tells

abbrev Shallow : ℕ → Form DefType
Shallow d t = only_where (depth t ≤ d) (def_type t)

shallow_sound : (d : ℕ) → Sound (Shallow d) (read_defined >>= λ ty. give (DefinedType ty))
shallow_sound d = last_tells DefinedType defined_sound (λ ty bytes rest r. (omega arith, r))

sync_sound : (d : ℕ) → Sound (sound_behind 0x40 (Shallow d)) (read_signature false FunctionType)
sync_sound d = then_tells _ (list_sound named_sound)
    (λ params. last_tells (λ answer. FunctionType (to_function false params answer))
    result_list_sound (λ answer middle rest r bytes p.
    (omega arith, (bytes, refl, (middle, p, r)))))

async_sound : (d : ℕ) → Sound (sound_behind 0x43 (Shallow d)) (read_signature true FunctionType)
async_sound d = then_tells _ (list_sound named_sound)
    (λ params. last_tells (λ answer. FunctionType (to_function true params answer))
    result_list_sound (λ answer middle rest r bytes p.
    (omega arith, (bytes, refl, (middle, p, r)))))

resource_sound : (d : ℕ) → Sound (sound_behind 0x3f (Shallow d)) read_resource_type
resource_sound d = then_tells _ val_type_sound
    (λ rep. last_tells (ResourceType rep) (option_sound u32_sound)
    (λ dtor middle rest r bytes p. (omega arith, (bytes, refl, (middle, p, r)))))

-- ---- declarations

abbrev DeclaredWithin : ℕ → Form InstanceDeclaration
DeclaredWithin d x = only_where (declared_depth x ≤ d) (instance_declaration x)

-- how deep the types in a declaration are
abbrev opened : ComponentDeclaration → ℕ
opened (Imported name ty) = 0
opened (Declared d) = declared_depth d

abbrev ComponentWithin : ℕ → Form ComponentDeclaration
ComponentWithin d x = only_where (opened x ≤ d) (component_declaration x)

instance_tells : (d : ℕ) {read : Reader DefType} → Tells (Shallow d) (OpensTypes d) read
    → Tells (DeclaredWithin d) (ByteThen 0x01 (OpensTypes d)) (read_instance_declaration read)
instance_tells d t = choose_tells _ _ (
  sound_tells _ (last_tells CoreTyped core_type_sound (λ ty bytes rest r.
      (omega arith, (bytes, refl, r)))),
  (
    deep_where (OpensTypes d) _ (last_tells Typed t (λ ty bytes rest r. (r.0, (bytes, refl, r.1))))
        (λ bytes g. (bytes, refl, g)),
    (
      sound_tells _ (last_tells Aliased alias_sound (λ to bytes rest r.
          (omega arith, (bytes, refl, r)))),
      (
        sound_tells _ (then_tells _ extern_name_sound
            (λ name. last_tells (Exported name) type_reference_sound
            (λ ty middle rest r bytes p. (omega arith, (bytes, refl, (middle, p, r)))))),
        tt,
      ),
    ),
  ),
) nowhere_tells

component_tells : (d : ℕ) {read : Reader DefType} → Tells (Shallow d) (OpensTypes d) read
    → Tells (ComponentWithin d) (ByteThen 0x01 (OpensTypes d)) (read_component_declaration read)
component_tells d t = choose_tells _ _ (
  sound_tells _ (then_tells _ extern_name_sound
      (λ name. last_tells (Imported name) type_reference_sound
      (λ ty middle rest r bytes p. (omega arith, (bytes, refl, (middle, p, r)))))),
  tt,
) (last_tells Declared (instance_tells d t) (λ x bytes rest r. (r.0, r.1)))

-- ---- lists of them

instances_within : (d : ℕ) (ds : List InstanceDeclaration)
    → AllByRecursion (λ x. declared_depth x ≤ d) ds → instance_depth (instances_of ds) ≤ d
instances_within d [] h = omega arith
instances_within d (x ∷ ds) h = let others = instances_within d ds h.1 in omega (arith, h.0)

components_within : (d : ℕ) (ds : List ComponentDeclaration) → AllByRecursion (λ x. opened x ≤ d) ds
    → component_depth (components_of ds) ≤ d
components_within d [] h = omega arith
components_within d (Imported name ty ∷ ds) h = components_within d ds h.1
components_within d (Declared x ∷ ds) h = let others = components_within d ds h.1 in omega
    (arith, h.0)

each_instance_reads : (ds : List InstanceDeclaration) (bytes rest : List ℕ)
    → (each instance_declaration ds).Reads Wide bytes rest
    → (each_instance (instances_of ds)).Reads Wide bytes rest
each_instance_reads [] bytes rest r = r
each_instance_reads (d ∷ ds) bytes rest r = (r.0, r.1, each_instance_reads ds r.0 rest r.2)

each_component_reads : (ds : List ComponentDeclaration) (bytes rest : List ℕ)
    → (each component_declaration ds).Reads Wide bytes rest
    → (each_component (components_of ds)).Reads Wide bytes rest
each_component_reads [] bytes rest r = r
each_component_reads (d ∷ ds) bytes rest r = (r.0, r.1, each_component_reads ds r.0 rest r.2)

-- a front of a list that stops where it goes too deep
pub front_of : {A : Type 0} (form : Form A) (P : A → Type 0) (Q : List ℕ → Type 0) (n : ℕ)
    (bytes middle : List ℕ) → (u32 n).Reads Wide bytes middle
    → Fewer (λ v. only_where (P v) (form v)) Q n middle → Front form Q bytes
front_of form P Q n bytes middle c f = record {
  count = n;
  middle = middle;
  counted = c;
  before = f.0;
  left = f.1;
  read = (each_plain form P f.0 middle f.1 f.2).0;
  fewer = f.3;
  next = f.4;
}

-- a count, then so many values, of which something is made
counted_told : {A B : Type 0} (form : Form A) (P : A → Type 0) (make : List A → B)
    (Goes : List ℕ → Type 0) (Q : B × List ℕ → Type 0) (Went : Type 0) {read : Reader A}
    → Tells (λ v. only_where (P v) (form v)) Goes read → (bytes : List ℕ)
    → (Front form Goes bytes → Went) → ((n : ℕ) (middle rest : List ℕ) (vs : List A)
    → (u32 n).Reads Wide bytes middle → Several (λ v. only_where (P v) (form v)) n middle
    (vs, rest) → Q (make vs, rest))
    → Told Q Went ((read_u32 >>= λ n. times read n >>= λ vs. give (make vs)) bytes)
counted_told form P make Goes Q Went {read = read} t bytes go k =
    told_on (λ x. (u32 x.0).Reads Wide bytes x.1) ⊥ Q Went
    (λ n. times read n >>= λ vs. give (make vs)) (read_u32 bytes) (u32_sound.tells bytes)
    (λ e. absurd e) (λ x c.
    told_on (Several (λ v. only_where (P v) (form v)) x.0 x.1)
    (Fewer (λ v. only_where (P v) (form v)) Goes x.0 x.1) Q Went
    (λ vs. give (make vs)) (times read x.0 x.1) (times_told Goes t x.0 x.1)
    (λ f. go (front_of form P Goes x.0 bytes x.1 c f)) (λ y s. k x.0 x.1 y.1 y.0 c s))

-- ---- types of components and of instances

instance_made : (d n : ℕ) (bytes middle rest : List ℕ) (ds : List InstanceDeclaration)
    → (u32 n).Reads Wide bytes middle → Several (DeclaredWithin d) n middle (ds, rest)
    → (sound_behind 0x42 (Shallow (suc d)) (InstanceType (instances_of ds))).Reads Wide bytes rest
instance_made d n bytes middle rest ds c s =
    let plain = each_plain instance_declaration (λ x. declared_depth x ≤ d) ds middle rest s.1 in
    let within = instances_within d ds plain.1 in (
      omega arith,
      (
        bytes,
        refl,
        (
          middle,
          rw (instances_counted ds ∙ s.0) c,
          each_instance_reads ds middle rest plain.0,
        ),
      ),
    )

component_made : (d n : ℕ) (bytes middle rest : List ℕ) (ds : List ComponentDeclaration)
    → (u32 n).Reads Wide bytes middle → Several (ComponentWithin d) n middle (ds, rest)
    → (sound_behind 0x41 (Shallow (suc d)) (ComponentType (components_of ds))).Reads Wide bytes rest
component_made d n bytes middle rest ds c s =
    let plain = each_plain component_declaration (λ x. opened x ≤ d) ds middle rest s.1 in
    let within = components_within d ds plain.1 in (
      omega arith,
      (
        bytes,
        refl,
        (
          middle,
          rw (components_counted ds ∙ s.0) c,
          each_component_reads ds middle rest plain.0,
        ),
      ),
    )

instances_tell : (d : ℕ) {read : Reader DefType} → Tells (Shallow d) (OpensTypes d) read
    → Tells (sound_behind 0x42 (Shallow (suc d))) (λ bytes. OpensTypes (suc d) (0x42 ∷ bytes))
    (read_instances read)
instances_tell d {read = read} t = record {
  tells = λ bytes. counted_told instance_declaration (λ x. declared_depth x ≤ d)
      (λ ds. InstanceType (instances_of ds)) (ByteThen 0x01 (OpensTypes d))
      (λ x. (sound_behind 0x42 (Shallow (suc d)) x.0).Reads Wide bytes x.1)
      (OpensTypes (suc d) (0x42 ∷ bytes)) (instance_tells d t) bytes
      (λ front. inr (bytes, refl, front)) (λ n middle rest ds c s. instance_made d n bytes middle
      rest ds c s);
}

components_tell : (d : ℕ) {read : Reader DefType} → Tells (Shallow d) (OpensTypes d) read
    → Tells (sound_behind 0x41 (Shallow (suc d))) (λ bytes. OpensTypes (suc d) (0x41 ∷ bytes))
    (read_components read)
components_tell d {read = read} t = record {
  tells = λ bytes. counted_told component_declaration (λ x. opened x ≤ d)
      (λ ds. ComponentType (components_of ds)) (ByteThen 0x01 (OpensTypes d))
      (λ x. (sound_behind 0x41 (Shallow (suc d)) x.0).Reads Wide bytes x.1)
      (OpensTypes (suc d) (0x41 ∷ bytes)) (component_tells d t) bytes
      (λ front. inl (bytes, refl, front)) (λ n middle rest ds c s. component_made d n bytes middle
      rest ds c s);
}

-- the rows of what doesn't nest, and then those of what does
rows_tell : (d : ℕ) {components instances : Reader DefType}
    → Tells (sound_behind 0x41 (Shallow d)) (λ bytes. OpensTypes d (0x41 ∷ bytes)) components
    → Tells (sound_behind 0x42 (Shallow d)) (λ bytes. OpensTypes d (0x42 ∷ bytes)) instances
    → RowsTell (Shallow d) (OpensTypes d) (type_rows components instances)
rows_tell d c i = (
  sound_tells _ (sync_sound d),
  (
    sound_tells _ (async_sound d),
    (sound_tells _ (resource_sound d), (c, (i, tt))),
  ),
)

pub type_tells : (d : ℕ) → Tells (Shallow d) (OpensTypes d) (read_type d)
unfolding read_type
type_tells zero = choose_tells _ _ (rows_tell zero (too_deep_tells (λ bytes. inl (bytes, refl, tt)))
    (too_deep_tells (λ bytes. inr (bytes, refl, tt)))) (sound_tells _ (shallow_sound zero))
type_tells (suc d) = choose_tells _ _
    (rows_tell (suc d) (components_tell d (type_tells d)) (instances_tell d (type_tells d)))
    (sound_tells _ (shallow_sound (suc d)))

-- ---- what is read is found

defined_finds : (d : ℕ) (ty : DefValType) (D : Type 0) → Finds (def_val_type ty)
    (choose (type_rows (read_component_type d) (read_instance_type d)) read_shallow)
    (DefinedType ty) D
defined_finds d ty D = other_finds _ read_shallow (no_row_is_shallow d) nothing_is_shallow
    (lawful_finds D (last DefinedType (defined_type_lawful ty)))

function_finds : (d : ℕ) (is_async : Bool) (params : List LabelledType)
    (answer : Option ComponentValType) (D : Type 0)
    → Finds (function_type (to_function is_async params answer))
    (choose (type_rows (read_component_type d) (read_instance_type d)) read_shallow)
    (FunctionType (to_function is_async params answer)) D
function_finds d false params answer D = row_finds _ _ 0x40 (read_signature false FunctionType)
    (λ rest. refl) (lawful_finds D (then _ (list_lawful labelled_type_lawful params)
    (last (λ a. FunctionType (to_function false params a)) (result_list_lawful answer))))
function_finds d true params answer D = row_finds _ _ 0x43 (read_signature true FunctionType)
    (λ rest. refl) (lawful_finds D (then _ (list_lawful labelled_type_lawful params)
    (last (λ a. FunctionType (to_function true params a)) (result_list_lawful answer))))

resource_finds : (d : ℕ) (rep : ValType) (dtor : Option ℕ) (D : Type 0)
    → Finds (def_type (ResourceType rep dtor))
    (choose (type_rows (read_component_type d) (read_instance_type d)) read_shallow)
    (ResourceType rep dtor) D
resource_finds d rep dtor D = row_finds _ _ 0x3f read_resource_type
    (λ rest. refl) (lawful_finds D (then _ (val_type_lawful rep)
    (last (ResourceType rep) (option_lawful u32_lawful dtor))))

mutual
  pub type_finds : (d : ℕ) (t : DefType) → Finds (def_type t) (read_type d) t (d < depth t)
  type_finds d (DefinedType ty) = rw (one_level d) (defined_finds d ty (d < 0))
  type_finds d (FunctionType f) = rw (one_level d) (function_finds d f.is_async f.params f.answer
      (d < 0))
  type_finds d (ResourceType rep dtor) = rw (one_level d) (resource_finds d rep dtor (d < 0))
  type_finds zero (ComponentType ds) = rw (one_level zero)
      (row_finds _ _ 0x41 too_deep (λ rest. refl) (too_deep_finds _ (omega arith)))
  type_finds zero (InstanceType ds) = rw (one_level zero)
      (row_finds _ _ 0x42 too_deep (λ rest. refl) (too_deep_finds _ (omega arith)))
  type_finds (suc d) (ComponentType ds) =
      rw (one_level (suc d)) (row_finds _ _ 0x41 (read_components (read_type d)) (λ rest. refl)
      (then_finds _ (lawful_finds _ (count_lawful (component_count ds)))
      (rw (components_relisted ds) at (last_finds (λ l. ComponentType (components_of l))
      (or_deeper (suc d < suc (component_depth ds)) (λ lt. omega arith)
      (components_find d ds))))))
  type_finds (suc d) (InstanceType ds) =
      rw (one_level (suc d)) (row_finds _ _ 0x42 (read_instances (read_type d)) (λ rest. refl)
      (then_finds _ (lawful_finds _ (count_lawful (instance_count ds)))
      (rw (instances_relisted ds) at (last_finds (λ l. InstanceType (instances_of l))
      (or_deeper (suc d < suc (instance_depth ds)) (λ lt. omega arith) (instances_find d ds))))))

  instance_finds : (d : ℕ) (x : InstanceDeclaration) → Finds (instance_declaration x)
      (read_instance_declaration (read_type d)) x (d < declared_depth x)
  instance_finds d (CoreTyped ty) = row_finds _ _ 0x00 (read_core_type >>= λ t. give (CoreTyped t))
      (λ rest. refl) (lawful_finds _ (last CoreTyped (core_type_lawful ty)))
  instance_finds d (Typed ty) = row_finds _ _ 0x01 (read_type d >>= λ t. give (Typed t))
      (λ rest. refl) (last_finds Typed (type_finds d ty))
  instance_finds d (Aliased to) = row_finds _ _ 0x02 (read_alias >>= λ t. give (Aliased t))
      (λ rest. refl) (lawful_finds _ (last Aliased (alias_lawful to)))
  instance_finds d (Exported name ty) = row_finds _ _ 0x04 read_exported
      (λ rest. refl) (lawful_finds _ (then _ (extern_name_lawful name)
      (last (Exported name) (type_reference_lawful ty))))

  component_finds : (d : ℕ) (x : ComponentDeclaration) → Finds (component_declaration x)
      (read_component_declaration (read_type d)) x (d < opened x)
  component_finds d (Imported name ty) = row_finds _ _ 0x03 read_imported
      (λ rest. refl) (lawful_finds _ (then _ (extern_name_lawful name)
      (last (Imported name) (type_reference_lawful ty))))
  component_finds d (Declared x) = other_finds _ _ (no_import_is_declared (read_type d))
      (nothing_is_declared (read_type d)) (last_finds Declared (instance_finds d x))

  instances_find : (d : ℕ) (ds : InstanceDeclarations) → Finds (each_instance ds)
      (times (read_instance_declaration (read_type d)) (instance_count ds)) (instance_list ds)
      (d < instance_depth ds)
  instances_find d no_instance = nothing_finds [] (d < 0)
  instances_find d (and_instance x ds) =
      then_finds _ (or_deeper _ (λ lt. omega arith) (instance_finds d x))
      (last_finds _ (or_deeper _ (λ lt. omega arith) (instances_find d ds)))

  components_find : (d : ℕ) (ds : ComponentDeclarations)
      → Finds (each_component ds) (times (read_component_declaration (read_type d))
      (component_count ds)) (component_list ds) (d < component_depth ds)
  components_find d no_component = nothing_finds [] (d < 0)
  components_find d (and_component (Imported name ty) ds) =
      then_finds _ (or_deeper _ (λ lt. omega arith) (component_finds d (Imported name ty)))
      (last_finds _ (components_find d ds))
  components_find d (and_component (Declared x) ds) = then_finds _
      (or_deeper _ (λ lt. omega arith) (component_finds d (Declared x)))
      (last_finds _ (or_deeper _ (λ lt. omega arith) (components_find d ds)))
