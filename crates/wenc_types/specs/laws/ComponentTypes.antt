-- The laws of types that components define.
use Rattle.std.proofs.Common.{ℕ, zero, suc, List, [], ◌∷◌, Err, ◌≡◌, length, refl, ap}
use Rattle.wenc_base.specs.Prelude.{Bad, Lawful, Piece, Reader, Serves, both_serve, count_lawful}
use Rattle.wenc_base.specs.Prelude.{each, last, list, nothing_lawful, option_lawful, row_lawful}
use Rattle.wenc_base.specs.Prelude.{serves_itself, tagged_serves, then, times, u32_lawful}
use Rattle.wenc_base.specs.Prelude.{val_type_lawful, ◌▸◌}
use Rattle.wenc_base.specs.Readers.{choose}
use Rattle.wenc_base.specs.laws.Lawful.{deeper}
use Rattle.wenc_base.specs.laws.Sound.{ReadsApart, other_lawful}
use Rattle.wenc_parts.specs.Prelude.{alias_lawful, extern_name_lawful, type_reference_lawful}
use Rattle.wenc_types.specs.laws.CoreTypes.{core_type_lawful}
use Rattle.wenc_types.specs.laws.DefinedTypes.{defined_type_lawful, function_row}
use Rattle.wenc_types.specs.ComponentTypes.{DefType, DefinedType, FunctionType, ComponentType}
use Rattle.wenc_types.specs.ComponentTypes.{InstanceType, ResourceType, InstanceDeclaration}
use Rattle.wenc_types.specs.ComponentTypes.{CoreTyped, Typed, Aliased, Exported}
use Rattle.wenc_types.specs.ComponentTypes.{ComponentDeclaration, Imported, Declared}
use Rattle.wenc_types.specs.ComponentTypes.{InstanceDeclarations, no_instance, and_instance}
use Rattle.wenc_types.specs.ComponentTypes.{ComponentDeclarations, no_component, and_component}
use Rattle.wenc_types.specs.ComponentTypes.{instance_count, component_count, instances_of}
use Rattle.wenc_types.specs.ComponentTypes.{components_of, def_type, instance_declaration}
use Rattle.wenc_types.specs.ComponentTypes.{component_declaration, each_instance, each_component}
use Rattle.wenc_types.specs.reading.ComponentTypes.{read_component_declaration, read_component_type}
use Rattle.wenc_types.specs.reading.ComponentTypes.{read_declared, read_imported}
use Rattle.wenc_types.specs.reading.ComponentTypes.{read_instance_declaration, read_instance_type}
use Rattle.wenc_types.specs.reading.ComponentTypes.{read_shallow, read_type, type_rows}

-- ---- one level of types

pub one_level : (depth : ℕ) → read_type depth
    ≡ choose (type_rows (read_component_type depth) (read_instance_type depth)) read_shallow
unfolding read_type
one_level zero = refl
one_level (suc depth) = refl

-- no type of values begins as a row does
pub no_row_is_shallow : (d : ℕ) → ReadsApart read_shallow (type_rows (read_component_type d) (read_instance_type d))
unfolding choose
no_row_is_shallow d = (λ rest. refl, (λ rest. refl, (λ rest. refl, (λ rest. refl, (λ rest. refl, tt)))))

pub nothing_is_shallow : read_shallow [] ≡ Err Bad
unfolding choose
nothing_is_shallow = refl

-- a declaration of an instance type is no import
pub no_import_is_declared : (read : Reader DefType) → ReadsApart (read_declared read) ((0x03, read_imported) ∷ [])
unfolding choose
no_import_is_declared read = (λ rest. refl, tt)

pub nothing_is_declared : (read : Reader DefType) → read_declared read [] ≡ Err Bad
unfolding choose
nothing_is_declared read = refl

-- ---- declarations as a list

abbrev pub instance_list : InstanceDeclarations → List InstanceDeclaration
instance_list no_instance = []
instance_list (and_instance d ds) = d ∷ instance_list ds

abbrev pub component_list : ComponentDeclarations → List ComponentDeclaration
component_list no_component = []
component_list (and_component d ds) = d ∷ component_list ds

pub instances_relisted : (ds : InstanceDeclarations) → instances_of (instance_list ds) ≡ ds
instances_relisted no_instance = refl
instances_relisted (and_instance d ds) = ap (and_instance d) (instances_relisted ds)

pub components_relisted : (ds : ComponentDeclarations) → components_of (component_list ds) ≡ ds
components_relisted no_component = refl
components_relisted (and_component d ds) = ap (and_component d) (components_relisted ds)

-- ---- laws

by_level : {p : Piece} {t : DefType}
    → Lawful p (λ depth. choose (type_rows (read_component_type depth) (read_instance_type depth))
    read_shallow) t → Lawful p read_type t
by_level l = record {
  text_is_read = l.text_is_read;
  strict_is_text = l.strict_is_text;
  fits = l.fits;
  leaves = l.leaves;
  free = l.free;
  never = l.never;
  depth = l.depth;
  finds = λ fuel le mode bytes rest r. rw (one_level fuel) (l.finds fuel le mode bytes rest r);
}

mutual
  pub type_lawful : (t : DefType) → Lawful (def_type t) read_type t
  type_lawful (DefinedType ty) = by_level (other_lawful _ no_row_is_shallow
      (λ d. nothing_is_shallow) (last DefinedType (defined_type_lawful ty)))
  type_lawful (FunctionType f) = by_level (function_row FunctionType _ _ f.is_async f.params f.answer)
  type_lawful (ComponentType ds) =
      by_level (row_lawful _ _ 0x41 (deeper {read = read_component_type}
      (then _ (count_lawful (component_count ds))
      (rw (components_relisted ds) at (last (λ l. ComponentType (components_of l))
      (components_lawful ds))))))
  type_lawful (InstanceType ds) =
      by_level (row_lawful _ _ 0x42 (deeper {read = read_instance_type}
      (then _ (count_lawful (instance_count ds))
      (rw (instances_relisted ds) at (last (λ l. InstanceType (instances_of l))
      (instances_lawful ds))))))
  type_lawful (ResourceType rep dtor) =
      by_level (row_lawful _ _ 0x3f (then _ (val_type_lawful rep)
      (last (ResourceType rep) (option_lawful u32_lawful dtor))))

  pub instance_declaration_lawful : (d : InstanceDeclaration)
      → Lawful (instance_declaration d) (λ fuel. read_instance_declaration (read_type fuel)) d
  instance_declaration_lawful (CoreTyped ty) = row_lawful _ _ 0x00 (last CoreTyped (core_type_lawful ty))
  instance_declaration_lawful (Typed ty) = row_lawful _ _ 0x01 (last Typed (type_lawful ty))
  instance_declaration_lawful (Aliased to) = row_lawful _ _ 0x02 (last Aliased (alias_lawful to))
  instance_declaration_lawful (Exported name ty) = row_lawful _ _ 0x04
      (then _ (extern_name_lawful name) (last (Exported name) (type_reference_lawful ty)))

  pub component_declaration_lawful : (d : ComponentDeclaration)
      → Lawful (component_declaration d) (λ fuel. read_component_declaration (read_type fuel)) d
  component_declaration_lawful (Imported name ty) = row_lawful _ _ 0x03
      (then _ (extern_name_lawful name) (last (Imported name) (type_reference_lawful ty)))
  component_declaration_lawful (Declared d) = other_lawful _
      (λ fuel. no_import_is_declared (read_type fuel)) (λ fuel. nothing_is_declared (read_type fuel))
      (last Declared (instance_declaration_lawful d))

  pub instances_lawful : (ds : InstanceDeclarations) → Lawful (each_instance ds)
      (λ fuel. times (read_instance_declaration (read_type fuel)) (instance_count ds))
      (instance_list ds)
  instances_lawful no_instance = nothing_lawful []
  instances_lawful (and_instance d ds) = then _ (instance_declaration_lawful d) (last _ (instances_lawful ds))

  pub components_lawful : (ds : ComponentDeclarations) → Lawful (each_component ds)
      (λ fuel. times (read_component_declaration (read_type fuel)) (component_count ds))
      (component_list ds)
  components_lawful no_component = nothing_lawful []
  components_lawful (and_component d ds) = then _ (component_declaration_lawful d) (last _ (components_lawful ds))

-- ---- several declarations

pub instances_counted : (ds : List InstanceDeclaration) → instance_count (instances_of ds) ≡ length ds
instances_counted [] = refl
instances_counted (d ∷ ds) = ap suc (instances_counted ds)

pub components_counted : (ds : List ComponentDeclaration) → component_count (components_of ds) ≡ length ds
components_counted [] = refl
components_counted (d ∷ ds) = ap suc (components_counted ds)

each_instance_serves : (ds : List InstanceDeclaration) → Serves (each instance_declaration ds)
    (each_instance (instances_of ds))
each_instance_serves [] = serves_itself
each_instance_serves (d ∷ ds) = both_serve serves_itself (each_instance_serves ds)

each_component_serves : (ds : List ComponentDeclaration)
    → Serves (each component_declaration ds) (each_component (components_of ds))
each_component_serves [] = serves_itself
each_component_serves (d ∷ ds) = both_serve serves_itself (each_component_serves ds)

-- a list of them
pub instances_serve : (ds : List InstanceDeclaration) → Serves (0x42 ▸ list instance_declaration ds)
    (def_type (InstanceType (instances_of ds)))
instances_serve ds = rw (instances_counted ds) (tagged_serves 0x42 (both_serve serves_itself (each_instance_serves ds)))

pub components_serve : (ds : List ComponentDeclaration) → Serves
    (0x41 ▸ list component_declaration ds) (def_type (ComponentType (components_of ds)))
components_serve ds = rw (components_counted ds)
    (tagged_serves 0x41 (both_serve serves_itself (each_component_serves ds)))
