-- The laws of canonical functions.
use Rattle.std.proofs.Common.{◌≡◌, ◌+◌, List, [], ◌∷◌, map, Ok, refl, ap, arith}
use Rattle.wenc_base.specs.Prelude.{HolderState, Lawful, RowsAreSound, Sound, choose_tells}
use Rattle.wenc_base.specs.Prelude.{flag_lawful, flag_sound, give_tells, last, last_tells}
use Rattle.wenc_base.specs.Prelude.{list_lawful, list_sound, nothing_lawful, nowhere, nowhere_tells}
use Rattle.wenc_base.specs.Prelude.{pick, row_byte, row_lawful as in_row, then, then_tells}
use Rattle.wenc_base.specs.Prelude.{u32_lawful, u32_sound, val_type_lawful, val_type_sound}
use Rattle.wenc_parts.specs.Prelude.{result_list_lawful, result_list_sound}
use Rattle.wenc_canon.specs.declared.canonicals.CanonicalOption.{CanonicalOption}
use Rattle.wenc_canon.specs.declared.canonicals.CanonicalOption.TheVariants.{UTF8, UTF16}
use Rattle.wenc_canon.specs.declared.canonicals.CanonicalOption.TheVariants.{CompactUTF16, Memory}
use Rattle.wenc_canon.specs.declared.canonicals.CanonicalOption.TheVariants.{Realloc, PostReturn}
use Rattle.wenc_canon.specs.declared.canonicals.CanonicalOption.TheVariants.{Async, Callback}
use Rattle.wenc_canon.specs.declared.canonicals.CanonicalOption.TheVariants.{CoreType as CoreTypeOption}
use Rattle.wenc_canon.specs.declared.canonicals.CanonicalOption.TheVariants.{Gc}
use Rattle.wenc_canon.specs.Canonicals.{canonical_option, Field, Index, Options, Flag, Zero}
use Rattle.wenc_canon.specs.Canonicals.{CoreType, Results, Value, field, Values, fields, Builtin}
use Rattle.wenc_canon.specs.Canonicals.{ResourceNew, row, builtins, Canonical, Lift, Lower}
use Rattle.wenc_canon.specs.Canonicals.{OfBuiltin, canonical, Adds}
use Rattle.wenc_canon.specs.reading.Canonicals.{read_builtin, read_canonical, read_canonical_option}
use Rattle.wenc_canon.specs.reading.Canonicals.{read_field, read_fields, rows}

-- ---- options

pub canonical_option_lawful : (o : CanonicalOption) → Lawful (canonical_option o) (λ fuel. read_canonical_option) o
canonical_option_lawful UTF8 = row_byte _ _ 0x00 (λ fuel rest. refl)
canonical_option_lawful UTF16 = row_byte _ _ 0x01 (λ fuel rest. refl)
canonical_option_lawful CompactUTF16 = row_byte _ _ 0x02 (λ fuel rest. refl)
canonical_option_lawful (Memory n) = in_row _ _ 0x03 (last Memory (u32_lawful n))
canonical_option_lawful (Realloc n) = in_row _ _ 0x04 (last Realloc (u32_lawful n))
canonical_option_lawful (PostReturn n) = in_row _ _ 0x05 (last PostReturn (u32_lawful n))
canonical_option_lawful Async = row_byte _ _ 0x06 (λ fuel rest. refl)
canonical_option_lawful (Callback n) = in_row _ _ 0x07 (last Callback (u32_lawful n))
canonical_option_lawful (CoreTypeOption n) = in_row _ _ 0x08 (last CoreTypeOption (u32_lawful n))
canonical_option_lawful Gc = row_byte _ _ 0x09 (λ fuel rest. refl)

pub canonical_option_sound : Sound canonical_option read_canonical_option
canonical_option_sound = choose_tells _ _ (
  give_tells UTF8 (λ bytes. refl),
  (
    give_tells UTF16 (λ bytes. refl),
    (
      give_tells CompactUTF16 (λ bytes. refl),
      (
        last_tells Memory u32_sound (λ n bytes rest r. (bytes, refl, r)),
        (
          last_tells Realloc u32_sound (λ n bytes rest r. (bytes, refl, r)),
          (
            last_tells PostReturn u32_sound (λ n bytes rest r. (bytes, refl, r)),
            (
              give_tells Async (λ bytes. refl),
              (
                last_tells Callback u32_sound (λ n bytes rest r. (bytes, refl, r)),
                (
                  last_tells CoreTypeOption u32_sound (λ n bytes rest r. (bytes, refl, r)),
                  (give_tells Gc (λ bytes. refl), tt),
                ),
              ),
            ),
          ),
        ),
      ),
    ),
  ),
) nowhere_tells

-- ---- fields

pub field_lawful : (f : Field) (v : Value f) → Lawful (field f v) (λ fuel. read_field f) v
field_lawful Index n = u32_lawful n
field_lawful Options options = list_lawful canonical_option_lawful options
field_lawful Flag b = flag_lawful b
field_lawful Zero v = row_byte _ _ 0x00 (λ fuel rest. refl)
field_lawful CoreType t = val_type_lawful t
field_lawful Results r = result_list_lawful r

pub field_sound : (f : Field) → Sound (field f) (read_field f)
field_sound Index = u32_sound
field_sound Options = list_sound canonical_option_sound
field_sound Flag = flag_sound
field_sound Zero = choose_tells _ _ (give_tells tt (λ bytes. refl), tt) nowhere_tells
field_sound CoreType = val_type_sound
field_sound Results = result_list_sound

pub fields_lawful : (fs : List Field) (vs : Values fs) → Lawful (fields fs vs) (λ fuel. read_fields fs) vs
fields_lawful [] vs = nothing_lawful tt
fields_lawful (f ∷ []) v = field_lawful f v
fields_lawful (f ∷ g ∷ fs) vs = then _ (field_lawful f vs.0) (last _ (fields_lawful (g ∷ fs) vs.1))

pub fields_sound : (fs : List Field) → Sound (fields fs) (read_fields fs)
fields_sound [] = give_tells tt (λ bytes. refl)
fields_sound (f ∷ []) = field_sound f
fields_sound (f ∷ g ∷ fs) = then_tells _ (field_sound f)
    (λ v. last_tells (λ vs. (v, vs)) (fields_sound (g ∷ fs))
    (λ vs middle rest r bytes p. (middle, p, r)))

-- ---- canonical functions

-- An opcode picks its builtin's own row. One clause is for the first builtin, the other for each of
-- the others.
own_row : (i : Builtin) → pick rows nowhere (row i).opcode ≡ (read_builtin i).1
own_row ResourceNew = refl
own_row other = refl

pub canonical_lawful : (c : Canonical) → Lawful (canonical c) (λ fuel. read_canonical) c
canonical_lawful (Lift f os t) = in_row _ _ 0x00
    (in_row _ _ 0x00 (then _ (u32_lawful f)
    (then _ (list_lawful canonical_option_lawful os) (last (Lift f os) (u32_lawful t)))))
canonical_lawful (Lower f os) = in_row _ _ 0x01
    (in_row _ _ 0x00 (then _ (u32_lawful f)
    (last (Lower f) (list_lawful canonical_option_lawful os))))
canonical_lawful (OfBuiltin i vs) = in_row _ _ (row i).opcode
    (rw (own_row i) (last (OfBuiltin i) (fields_lawful (row i).fields vs)))

builtins_sound : (is : List Builtin) → RowsAreSound canonical (map read_builtin is)
builtins_sound [] = tt
builtins_sound (i ∷ is) = (
  last_tells (OfBuiltin i) (fields_sound (row i).fields)
      (λ vs bytes rest r. (bytes, refl, r)),
  builtins_sound is,
)

pub canonical_sound : Sound canonical read_canonical
canonical_sound = choose_tells _ _ (
  choose_tells _ _ (
    then_tells _ u32_sound (λ f. then_tells _ (list_sound canonical_option_sound)
        (λ os. last_tells (Lift f os) u32_sound
        (λ t behind rest r middle q bytes p. (_, refl, (_, refl, (middle, p, (behind, q, r))))))),
    tt,
  ) nowhere_tells,
  (
    choose_tells _ _ (
      then_tells _ u32_sound
          (λ f. last_tells (Lower f) (list_sound canonical_option_sound)
          (λ os middle rest r bytes p. (_, refl, (_, refl, (middle, p, r))))),
      tt,
    ) nowhere_tells,
    builtins_sound builtins,
  ),
) nowhere_tells

-- ---- what follows from an `Ok`

-- there is one function more
pub an_added_function_is_one_more : (old new : HolderState) (i : Builtin)
    (values : Values (row i).fields) → Adds old new (Ok tt) i values → new.count ≡ old.count + 1
an_added_function_is_one_more old new i values adds = ap (λ (h : HolderState). h.count) adds.ok.state

-- so that the section can't be as it was
pub an_added_function_is_seen : (section : HolderState) (i : Builtin)
    (values : Values (row i).fields) → Adds section section (Ok tt) i values → ⊥
an_added_function_is_seen section i values adds =
    let grown : section.count ≡ section.count + 1 =
    an_added_function_is_one_more section section i values adds in omega (arith, grown)
