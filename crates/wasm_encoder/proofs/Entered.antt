-- Types that encoders write, by one call or by several, as entries.
use Rattle.std.proofs.Common.{◌≡◌, ℕ, List, [], ◌∷◌, ◌++◌, map, Bool, false, Ok, Option, refl, ap, subst, ◌∙◌}
use Rattle.std.specs.Borrow.{Bor}
use Rattle.std.specs.Iterator.Runs.{WholeRun}
use Rattle.wenc_base.specs.Prelude.{Ends, EndsListed, EndsLists, Extended, Extends, ExtendsListed}
use Rattle.wenc_base.specs.Prelude.{NoCause, byte, either_free, left_free, list, right_free}
use Rattle.wenc_base.specs.Prelude.{val_type, ◌▸◌}
use Rattle.wenc_builder.specs.Prelude.{BeginCause, NoRoom, State, content_of, core_type_entry}
use Rattle.wenc_builder.specs.Prelude.{item_appended, item_appended_twice, item_begun, item_ended}
use Rattle.wenc_builder.specs.Prelude.{no_room_in_section, type_entry}
use Rattle.wenc_builder.specs.laws.Typed.{core_type_is_written, type_is_written}
use Rattle.wenc_parts.specs.Prelude.{result_list}
use Rattle.wenc_types.specs.Prelude.{CoreType, DefType, FunctionType, LabelledType, async_byte}
use Rattle.wenc_types.specs.Prelude.{borrowed_labelled_type, core_type, def_type, labelled_type}
use Rattle.wenc_types.specs.Prelude.{params_from}
use Rattle.wenc_base.specs.declared.types.ValType.{ValType}
use Rattle.wenc_parts.specs.declared.types.ComponentValType.{ComponentValType}
use Rattle.wenc_types.specs.declared.encoders.func_type.FuncStage.{FuncStage}
use Rattle.wenc_types.specs.declared.encoders.func_type.FuncStage.TheVariants.{Start, Tagged}
use Rattle.wasm_encoder.specs.Prelude.{AreEntered, CoreFunctionsAreEntered, FunctionsAreEntered}
use Rattle.wasm_encoder.specs.Prelude.{IsEntered, ListedAreEntered, core_function_entry}
use Rattle.wasm_encoder.specs.Prelude.{function_entry}
use Rattle.wasm_encoder.specs.WrittenTypes.{new_core_type, new_type}
use Rattle.wasm_encoder.proofs.Typed.{written_whole}

module _ {old parent new : State} (name : Option (List ℕ)) where
  types_entered : (t : DefType) → parent ≡ item_begun old (new_type name) → NoCause (BeginCause old (new_type name))
      → Ends item_appended item_ended no_room_in_section parent new (Ok tt) (def_type t) → IsEntered old new (type_entry name t)
  types_entered t begun opens ends es h =
      written_whole old parent new es (type_entry name t) (new_type name) (type_is_written name t) begun opens ends.ok ends.fits ends.free h

  core_types_entered : (t : CoreType) → parent ≡ item_begun old (new_core_type name) → NoCause (BeginCause old (new_core_type name))
      → Ends item_appended item_ended no_room_in_section parent new (Ok tt) (core_type t) → IsEntered old new (core_type_entry name t)
  core_types_entered t begun opens ends es h =
      written_whole old parent new es (core_type_entry name t) (new_core_type name) (core_type_is_written name t) begun opens ends.ok ends.fits ends.free h

pub all_entered : AreEntered
all_entered = record { types = types_entered; core_types = core_types_entered }

module _ {S B : Type 0} (steps : S → Option B → S → Type 0) {values : S} {old parent new : State} (name : Option (List ℕ)) where
  listed_types_entered : (t : List B → DefType) → parent ≡ item_begun old (new_type name) → NoCause (BeginCause old (new_type name))
      → EndsListed item_appended item_ended no_room_in_section steps values parent new (Ok tt) (λ vs. def_type (t vs))
      → WholeRun steps values (λ run. IsEntered old new (type_entry name (t run.items)))
  listed_types_entered t begun opens ends =
      let ok = ends.ok in
      let e = ok.3 in
      let of = t ok.0.items in (
        ok.0,
        ok.1,
        ok.2,
        λ es h. written_whole old parent new es (type_entry name of) (new_type name)
            (type_is_written name of) begun opens e.state e.fits e.free h,
      )

  listed_core_types_entered : (t : List B → CoreType) → parent ≡ item_begun old (new_core_type name) → NoCause (BeginCause old (new_core_type name))
      → EndsListed item_appended item_ended no_room_in_section steps values parent new (Ok tt) (λ vs. core_type (t vs))
      → WholeRun steps values (λ run. IsEntered old new (core_type_entry name (t run.items)))
  listed_core_types_entered t begun opens ends =
      let ok = ends.ok in
      let e = ok.3 in
      let of = t ok.0.items in (
        ok.0,
        ok.1,
        ok.2,
        λ es h. written_whole old parent new es (core_type_entry name of) (new_core_type name)
            (core_type_is_written name of) begun opens e.state e.fits e.free h,
      )

pub listed_entered : {S B : Type 0} (steps : S → Option B → S → Type 0) → ListedAreEntered steps
listed_entered steps = record { types = listed_types_entered steps; core_types = listed_core_types_entered steps }

-- ---- several parts

-- what was appended in two parts, as one
as_one : (s t : State) (a b : List ℕ) → t ≡ item_appended s a → item_appended t b ≡ item_appended s (a ++ b)
as_one s t a b step = ap (λ (u : State). item_appended u b) step ∙ item_appended_twice s a b

-- there was room for both
room_for_both : (s t : State) (a b : List ℕ) → t ≡ item_appended s a → NoCause (no_room_in_section t b) → NoCause (no_room_in_section s (a ++ b))
room_for_both s t a b step room = subst (λ (u : State). NoCause (NoRoom (content_of u).sections.current)) (as_one s t a b step) room

module _ {S R : Type 0} (steps : S → Option ValType → S → Type 0) (more_steps : R → Option ValType → R → Type 0) {params : S} {results : R}
    {old parent new : State} (name : Option (List ℕ)) where
  core_function_entered : parent ≡ item_begun old (new_core_type name) → NoCause (BeginCause old (new_core_type name))
      → EndsLists item_appended item_ended no_room_in_section steps params more_steps results parent new (Ok tt) (λ ts. 0x60 ▸ list val_type ts) (list val_type)
      → WholeRun steps params (λ run. WholeRun more_steps results (λ last. IsEntered old new (core_function_entry name run.items last.items)))
  core_function_entered begun opens ends =
      let one = ends.ok in
      let two = one.3 in
      let e = two.3 in
      let x = core_function_entry name one.0.items two.0.items in
      let first = 0x60 ∷ (list val_type one.0.items).text in
      let second = (list val_type two.0.items).text in
      let between = item_appended parent first in (
        one.0,
        one.1,
        one.2,
        (
          two.0,
          two.1,
          two.2,
          λ es h.
              written_whole old parent new es x (new_core_type name) (core_type_is_written name _) begun opens
              (e.0 ∙ ap (λ (s : State). item_ended s) (as_one parent between first second refl))
              (e.1, e.2) (either_free (either_free (left_free e.3) (left_free e.4))
              (room_for_both parent between first second refl (right_free {one = (list val_type two.0.items).Cause} e.4))) h,
        ),
      )

pub core_functions_entered : {S R : Type 0} (steps : S → Option ValType → S → Type 0) (more_steps : R → Option ValType → R → Type 0)
    → CoreFunctionsAreEntered steps more_steps
core_functions_entered steps more_steps = record { core_types = core_function_entered steps more_steps }

module _ {old parent written new : State} (name : Option (List ℕ)) (is_async : Bool) (answer : Option ComponentValType) where
  -- a function type whose byte and parameters were appended, and then its result
  function_entered : (params : List LabelledType) → parent ≡ item_begun old (new_type name) → NoCause (BeginCause old (new_type name))
      → written ≡ item_appended parent (async_byte is_async ∷ (list labelled_type params).text) → (list labelled_type params).Fits
      → NoCause (list labelled_type params).Cause
      → Ends item_appended item_ended no_room_in_section written new (Ok tt) (result_list answer)
      → IsEntered old new (type_entry name (FunctionType (record { is_async = is_async; params = params; answer = answer })))
  function_entered params begun opens wrote fits free ends es h =
      let of : DefType = FunctionType (record { is_async = is_async; params = params; answer = answer }) in
      let first = async_byte is_async ∷ (list labelled_type params).text in
      let second = (result_list answer).text in
      written_whole old parent new es (type_entry name of) (new_type name) (type_is_written name of) begun opens
      (ends.ok ∙ ap (λ (s : State). item_ended s) (as_one parent written first second wrote))
      (fits, ends.fits) (either_free (either_free free (left_free ends.free))
      (room_for_both parent written first second wrote (right_free {one = (result_list answer).Cause} ends.free))) h

module _ {S : Type 0} (steps : S → Option (Bor (List ℕ) × ComponentValType) → S → Type 0) {params : S} {stage : FuncStage} where
  of_two : {old parent written new : State} (name : Option (List ℕ)) (answer : Option ComponentValType)
      → parent ≡ item_begun old (new_type name) → NoCause (BeginCause old (new_type name)) → stage ≡ Start
      → ExtendsListed steps params parent written (Ok tt) (item_appended parent) (no_room_in_section parent)
      (λ ps. params_from stage (map borrowed_labelled_type ps))
      → Ends item_appended item_ended no_room_in_section written new (Ok tt) (result_list answer)
      → WholeRun steps params (λ run. IsEntered old new (function_entry name false run.items answer))
  of_two {parent = parent} {written = written} name answer begun opens starts listed ends =
      let ok = listed.ok in
      let ps = map borrowed_labelled_type ok.0.items in
      let e = subst (λ (s : FuncStage). Extended written (item_appended parent) (no_room_in_section parent) (params_from s ps)) starts ok.3 in
      (ok.0, ok.1, ok.2, function_entered name false answer ps begun opens e.state e.fits (left_free e.free) ends)

  of_three : {old parent tagged written new : State} (name : Option (List ℕ)) (is_async : Bool) (answer : Option ComponentValType)
      → parent ≡ item_begun old (new_type name) → NoCause (BeginCause old (new_type name))
      → Extends parent tagged (item_appended parent (async_byte is_async ∷ [])) (Ok tt) (byte (async_byte is_async))
      (no_room_in_section parent (async_byte is_async ∷ [])) → stage ≡ Tagged
      → ExtendsListed steps params tagged written (Ok tt) (item_appended tagged) (no_room_in_section tagged)
      (λ ps. params_from stage (map borrowed_labelled_type ps))
      → Ends item_appended item_ended no_room_in_section written new (Ok tt) (result_list answer)
      → WholeRun steps params (λ run. IsEntered old new (function_entry name is_async run.items answer))
  of_three {parent = parent} {tagged = tagged} {written = written} name is_async answer begun opens marked starts listed ends =
      let ok = listed.ok in
      let ps = map borrowed_labelled_type ok.0.items in
      let e = subst (λ (s : FuncStage). Extended written (item_appended tagged) (no_room_in_section tagged) (params_from s ps)) starts ok.3 in (
        ok.0,
        ok.1,
        ok.2,
        function_entered name is_async answer ps begun opens (e.state
            ∙ as_one parent tagged (async_byte is_async ∷ []) (list labelled_type ps).text marked.ok) e.fits (left_free e.free) ends,
      )

pub functions_entered : {S : Type 0} (steps : S → Option (Bor (List ℕ) × ComponentValType) → S → Type 0) → FunctionsAreEntered steps
functions_entered steps = record { of_two = of_two steps; of_three = of_three steps }
