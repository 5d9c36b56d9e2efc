-- The laws of type references and of names.
use Rattle.std.proofs.Common.{◌≡◌, ℕ, true, false, true≢false, cond, ◌++◌, List, [], ◌∷◌, Option}
use Rattle.std.proofs.Common.{Some, None, Ok, Err, refl, sym, ap, subst, inl, inr}
use Rattle.wenc_base.specs.Prelude.{Bad, Lawful, Sound, Told, Wide, choose_tells, give_tells, last}
use Rattle.wenc_base.specs.Prelude.{last_tells, list, list_lawful, list_sound, name, name_lawful}
use Rattle.wenc_base.specs.Prelude.{name_sound, nowhere_tells, or_widely_lawful, read_list}
use Rattle.wenc_base.specs.Prelude.{row_byte, row_lawful, then, then_tells, u32_lawful, u32_sound}
use Rattle.wenc_base.specs.Prelude.{◌>>=◌}
use Rattle.wenc_parts.specs.Exports.{component_export_kind}
use Rattle.wenc_parts.specs.declared.imports.TypeBounds.{TypeBounds}
use Rattle.wenc_parts.specs.declared.imports.TypeBounds.TheVariants.{Eq, SubResource}
use Rattle.wenc_parts.specs.declared.imports.ComponentTypeRef.{ComponentTypeRef}
use Rattle.wenc_parts.specs.declared.imports.ComponentTypeRef.TheVariants.{Module, Func, Value}
use Rattle.wenc_parts.specs.declared.imports.ComponentTypeRef.TheVariants.{«Type» as TypeRef}
use Rattle.wenc_parts.specs.declared.imports.ComponentTypeRef.TheVariants.{Instance, Component}
use Rattle.wenc_parts.specs.Imports.{type_bounds, type_reference, ExternName, plain_name}
use Rattle.wenc_parts.specs.Imports.{NameOption, Implements, VersionSuffix, ExternalId, name_option}
use Rattle.wenc_parts.specs.Imports.{present, name_options, name_with, extern_name, kind_of}
use Rattle.wenc_parts.specs.laws.Types.{value_type_lawful, value_type_sound}
use Rattle.wenc_parts.specs.reading.Imports.{are_options, ascend_from, given_options}
use Rattle.wenc_parts.specs.reading.Imports.{read_extern_name, read_name_option, read_type_bounds}
use Rattle.wenc_parts.specs.reading.Imports.{read_type_reference, with_options}

-- ---- type references

pub type_bounds_lawful : (b : TypeBounds) → Lawful (type_bounds b) (λ fuel. read_type_bounds) b
type_bounds_lawful (Eq n) = row_lawful _ _ 0x00 (last Eq (u32_lawful n))
type_bounds_lawful SubResource = row_byte _ _ 0x01 (λ fuel rest. refl)

pub type_bounds_sound : Sound type_bounds read_type_bounds
type_bounds_sound = choose_tells _ _ (
  last_tells Eq u32_sound (λ n bytes rest r. (bytes, refl, r)),
  (give_tells SubResource (λ bytes. refl), tt),
) nowhere_tells

pub type_reference_lawful : (r : ComponentTypeRef) → Lawful (type_reference r) (λ fuel. read_type_reference) r
type_reference_lawful (Module n) = row_lawful _ _ 0x00 (row_lawful _ _ 0x11 (last Module (u32_lawful n)))
type_reference_lawful (Func n) = row_lawful _ _ 0x01 (last Func (u32_lawful n))
type_reference_lawful (Value t) = row_lawful _ _ 0x02 (last Value (value_type_lawful t))
type_reference_lawful (TypeRef b) = row_lawful _ _ 0x03 (last TypeRef (type_bounds_lawful b))
type_reference_lawful (Instance n) = row_lawful _ _ 0x05 (last Instance (u32_lawful n))
type_reference_lawful (Component n) = row_lawful _ _ 0x04 (last Component (u32_lawful n))

pub type_reference_sound : Sound type_reference read_type_reference
type_reference_sound = choose_tells _ _ (
  choose_tells _ _ (last_tells Module u32_sound (λ n bytes rest r. (_, refl, (bytes, refl, r))), tt) nowhere_tells,
  (
    last_tells Func u32_sound (λ n bytes rest r. (bytes, refl, r)),
    (
      last_tells Value value_type_sound (λ t bytes rest r. (bytes, refl, r)),
      (
        last_tells TypeRef type_bounds_sound (λ b bytes rest r. (bytes, refl, r)),
        (
          last_tells Instance u32_sound (λ n bytes rest r. (bytes, refl, r)),
          (last_tells Component u32_sound (λ n bytes rest r. (bytes, refl, r)), tt),
        ),
      ),
    ),
  ),
) nowhere_tells

-- ---- names

pub name_option_lawful : (o : NameOption) → Lawful (name_option o) (λ fuel. read_name_option) o
name_option_lawful (Implements text) = row_lawful _ _ 0x00 (last Implements (name_lawful text))
name_option_lawful (VersionSuffix text) = row_lawful _ _ 0x01 (last VersionSuffix (name_lawful text))
name_option_lawful (ExternalId text) = row_lawful _ _ 0x02 (last ExternalId (name_lawful text))

pub name_option_sound : Sound name_option read_name_option
name_option_sound = choose_tells _ _ (
  last_tells Implements name_sound (λ text bytes rest r. (bytes, refl, r)),
  (
    last_tells VersionSuffix name_sound (λ text bytes rest r. (bytes, refl, r)),
    (last_tells ExternalId name_sound (λ text bytes rest r. (bytes, refl, r)), tt),
  ),
) nowhere_tells

same_name : (text : List ℕ) (a b c : Option (List ℕ))
    → let n : ExternName = record {
      name = text;
      implements = a;
      version_suffix = b;
      external_id =
          c;
    } in with_options text (name_options n) ≡ n
same_name text None None None = refl
same_name text None None (Some e) = refl
same_name text None (Some v) None = refl
same_name text None (Some v) (Some e) = refl
same_name text (Some i) None None = refl
same_name text (Some i) None (Some e) = refl
same_name text (Some i) (Some v) None = refl
same_name text (Some i) (Some v) (Some e) = refl

-- the options of a name ascend
they_ascend : (a b c : Option (List ℕ))
    → ascend_from 0 (present Implements a ++ (present VersionSuffix b ++ present ExternalId c))
    ≡ true
they_ascend None None None = refl
they_ascend None None (Some e) = refl
they_ascend None (Some v) None = refl
they_ascend None (Some v) (Some e) = refl
they_ascend (Some i) None None = refl
they_ascend (Some i) None (Some e) = refl
they_ascend (Some i) (Some v) None = refl
they_ascend (Some i) (Some v) (Some e) = refl

name_with_lawful : (text : List ℕ) (options : List NameOption) → ascend_from 0 options ≡ true
    → Lawful (name_with text options) (λ fuel. read_extern_name) (with_options text options)
name_with_lawful text [] e = or_widely_lawful
    (row_lawful _ _ 0x00 (last plain_name (name_lawful text)))
    (row_lawful _ _ 0x01 (last plain_name (name_lawful text)))
name_with_lawful text (o ∷ os) e =
    row_lawful _ _ 0x02 (then _ (name_lawful text) (given_last (o ∷ os)
    (λ bytes. rw e refl) (list_lawful name_option_lawful (o ∷ os))))
  where
    given_last : (options : List NameOption)
        → ((bytes : List ℕ) → given_options text options bytes
        ≡ Ok (with_options text options, bytes)) → Lawful (list name_option options)
        (λ fuel. read_list read_name_option) options
        → Lawful (list name_option options)
        (λ fuel. read_list read_name_option >>= given_options text) (with_options text options)
    given_last options is l = record {
      text_is_read = l.text_is_read;
      strict_is_text = l.strict_is_text;
      fits = l.fits;
      leaves = l.leaves;
      free = l.free;
      never = l.never;
      depth = l.depth;
      finds = λ fuel le mode bytes rest r. rw (l.finds fuel le mode bytes rest r) (is rest);
    }

pub extern_name_lawful : (n : ExternName) → Lawful (extern_name n) (λ fuel. read_extern_name) n
extern_name_lawful n =
    let P : ExternName → Type 0 = λ m. Lawful (extern_name n) (λ fuel. read_extern_name) m in
    subst P (same_name n.name n.implements n.version_suffix n.external_id)
    (name_with_lawful n.name (name_options n)
    (they_ascend n.implements n.version_suffix n.external_id))

refused : {P : Type 0} → false ≡ true → P
refused e = absurd (true≢false (sym e))

-- ascending options are those of a name that has them
from_three : (os : List NameOption) → ascend_from 3 os ≡ true → os ≡ []
from_three [] e = refl
from_three (Implements i ∷ os) e = refused e
from_three (VersionSuffix v ∷ os) e = refused e
from_three (ExternalId x ∷ os) e = refused e

from_two : (os : List NameOption) → ascend_from 2 os ≡ true → (c : Option (List ℕ)) × (os ≡ present ExternalId c)
from_two [] e = (None, refl)
from_two (Implements i ∷ os) e = refused e
from_two (VersionSuffix v ∷ os) e = refused e
from_two (ExternalId x ∷ os) e = (Some x, ap (λ (t : List NameOption). ExternalId x ∷ t) (from_three os e))

from_one : (os : List NameOption) → ascend_from 1 os ≡ true
    → (b : Option (List ℕ)) × (c : Option (List ℕ))
    × (os ≡ present VersionSuffix b ++ present ExternalId c)
from_one [] e = (None, None, refl)
from_one (Implements i ∷ os) e = refused e
from_one (VersionSuffix v ∷ os) e = let r =
    from_two os e in (Some v, r.0, ap (λ (t : List NameOption). VersionSuffix v ∷ t) r.1)
from_one (ExternalId x ∷ os) e = (None, Some x, ap (λ (t : List NameOption). ExternalId x ∷ t) (from_three os e))

from_none : (os : List NameOption) → ascend_from 0 os ≡ true
    → (a : Option (List ℕ)) × (b : Option (List ℕ)) × (c : Option (List ℕ))
    × (os ≡ present Implements a ++ (present VersionSuffix b ++ present ExternalId c))
from_none [] e = (None, None, None, refl)
from_none (Implements i ∷ os) e = let r =
    from_one os e in (Some i, r.0, r.1, ap (λ (t : List NameOption). Implements i ∷ t) r.2)
from_none (VersionSuffix v ∷ os) e = let r =
    from_two os e in (None, Some v, r.0, ap (λ (t : List NameOption). VersionSuffix v ∷ t) r.1)
from_none (ExternalId x ∷ os) e = (None, None, Some x, ap (λ (t : List NameOption). ExternalId x ∷ t) (from_three os e))

same_options : (text : List ℕ) (os : List NameOption) → ascend_from 0 os ≡ true
    → name_options (with_options text os) ≡ os
same_options text os e = let r = from_none os e in rw r.3 (ap name_options (same_name text r.0 r.1 r.2))

own_name_option : (text : List ℕ) (os : List NameOption) → (with_options text os).name ≡ text
own_name_option text [] = refl
own_name_option text (Implements i ∷ os) = own_name_option text os
own_name_option text (VersionSuffix v ∷ os) = own_name_option text os
own_name_option text (ExternalId x ∷ os) = own_name_option text os

options_sound : (text : List ℕ) (options : List NameOption) (bytes middle rest : List ℕ)
    → are_options options ≡ true → (name text).Reads Wide bytes middle
    → (list name_option options).Reads Wide middle rest
    → (extern_name (with_options text options)).Reads Wide (0x02 ∷ bytes) rest
options_sound text [] bytes middle rest e p r = refused e
options_sound text (o ∷ os) bytes middle rest e p r =
    rw (same_options text (o ∷ os) e, own_name_option text (o ∷ os)) (bytes, refl, (middle, p, r))

pub extern_name_sound : Sound extern_name read_extern_name
extern_name_sound = choose_tells _ _ (
  last_tells plain_name name_sound (λ text bytes rest r. inl (bytes, refl, r)),
  (
    last_tells plain_name name_sound (λ text bytes rest r. inr (tt, (bytes, refl, r))),
    (
      then_tells _ name_sound (λ text. then_tells _ (list_sound name_option_sound)
          (λ options. record { tells = λ rest. tested text options rest })),
      tt,
    ),
  ),
) nowhere_tells
  where
    tested : (text : List ℕ) (options : List NameOption) (rest : List ℕ)
        → Told (λ (x : ExternName × List ℕ). (middle : List ℕ)
        → (list name_option options).Reads Wide middle rest → (bytes : List ℕ)
        → (name text).Reads Wide bytes middle → (extern_name x.0).Reads Wide (0x02 ∷ bytes) x.1) ⊥
        (given_options text options rest)
    tested text options rest =
        elim (are_options options) as (λ t. are_options options ≡ t
        → Told (λ (x : ExternName × List ℕ). (middle : List ℕ)
        → (list name_option options).Reads Wide middle rest → (bytes : List ℕ)
        → (name text).Reads Wide bytes middle → (extern_name x.0).Reads Wide (0x02 ∷ bytes) x.1) ⊥
        (cond t (Ok (with_options text options, rest)) (Err Bad))) [
          | true ↦ λ e. λ middle r bytes p. options_sound text options bytes middle rest e p r
          | false ↦ λ e. tt
        ] refl

-- ---- a reference begins with its kind

pub kind_begins : (r : ComponentTypeRef) → (rest : List ℕ)
    × ((type_reference r).text ≡ (component_export_kind (kind_of r)).text ++ rest)
kind_begins (Module n) = (_, refl)
kind_begins other = (_, refl)
