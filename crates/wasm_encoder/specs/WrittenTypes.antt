-- Types for which a builder returns encoders, from the clauses of the accepted calls.
use Rattle.std.specs.Prelude.{◌≡◌, ℕ, List, [], ◌∷◌, ◌++◌, Bool, false, map, Option, Ok}
use Rattle.std.specs.Borrow.{Bor}
use Rattle.std.specs.Iterator.Runs.{WholeRun}
use Rattle.wenc_base.specs.Composites.{Func, Single, final}
use Rattle.wenc_base.specs.Fault.{NoCause}
use Rattle.wenc_base.specs.Forms.{list}
use Rattle.wenc_base.specs.Parent.{Ends, EndsListed, EndsLists, Extends, ExtendsListed}
use Rattle.wenc_base.specs.Piece.{byte, ◌▸◌}
use Rattle.wenc_base.specs.Types.{val_type}
use Rattle.wenc_base.specs.declared.types.ValType.{ValType}
use Rattle.wenc_builder.specs.Builder.{NewItem, State, new_item_in, item_appended, item_begun}
use Rattle.wenc_builder.specs.Builder.{item_ended}
use Rattle.wenc_builder.specs.Cause.{BeginCause}
use Rattle.wenc_builder.specs.Entry.{Entry, core_type_entry, type_entry}
use Rattle.wenc_builder.specs.Holds.{Holds}
use Rattle.wenc_builder.specs.ParentState.{no_room_in_section}
use Rattle.wenc_parts.specs.Types.{result_list}
use Rattle.wenc_parts.specs.declared.component.ComponentSectionId.TheVariants as ids
use Rattle.wenc_parts.specs.declared.types.ComponentValType.{ComponentValType}
use Rattle.wenc_sections.specs.declared.space.Space.TheVariants.{CoreTypes, Types}
use Rattle.wenc_types.specs.ComponentTypes.{DefType, FunctionType, def_type}
use Rattle.wenc_types.specs.CoreTypes.{CoreType, Grouped, core_type}
use Rattle.wenc_types.specs.DefinedTypes.{async_byte, borrowed_labelled_type}
use Rattle.wenc_types.specs.FuncStages.{params_from}
use Rattle.wenc_types.specs.declared.encoders.func_type.FuncStage.{FuncStage}
use Rattle.wenc_types.specs.declared.encoders.func_type.FuncStage.TheVariants.{Start, Tagged}

-- The entry comes after those of each list that the builder held.
abbrev pub IsEntered : State → State → Entry → Type 0
IsEntered old new x = (es : List Entry) → Holds old es → Holds new (es ++ x ∷ [])

-- types that are begun under this name, or without
abbrev pub new_type : Option (List ℕ) → NewItem
new_type name = new_item_in ids.«Type» Types name []

abbrev pub new_core_type : Option (List ℕ) → NewItem
new_core_type name = new_item_in ids.CoreType CoreTypes name []

-- a function type with the parameters that an iterator gives, as an entry
abbrev pub function_entry : Option (List ℕ) → Bool → List (Bor (List ℕ) × ComponentValType)
    → Option ComponentValType → Entry
function_entry name is_async params answer = type_entry name (FunctionType (record {
  is_async = is_async;
  params = map borrowed_labelled_type params;
  answer = answer;
}))

-- a final function type of the core, as an entry
abbrev pub core_function_entry : Option (List ℕ) → List ValType → List ValType → Entry
core_function_entry name params results =
    core_type_entry name (Grouped (Single (final (Func params results))))

-- A type that an accepted call began, as `BeginsItem` says, and that an encoder's accepted last
-- call wrote and ended, as `Ends` says, is entered.
pub record AreEntered : Type 0 where
  pub types : {old parent new : State} (name : Option (List ℕ)) (t : DefType)
      → parent ≡ item_begun old (new_type name) → NoCause (BeginCause old (new_type name))
      → Ends item_appended item_ended no_room_in_section parent new (Ok tt) (def_type t)
      → IsEntered old new (type_entry name t)
  pub core_types : {old parent new : State} (name : Option (List ℕ)) (t : CoreType)
      → parent ≡ item_begun old (new_core_type name)
      → NoCause (BeginCause old (new_core_type name))
      → Ends item_appended item_ended no_room_in_section parent new (Ok tt) (core_type t)
      → IsEntered old new (core_type_entry name t)

-- The same holds for a type of the values of an iterator, if that call is as `EndsListed` says.
pub record ListedAreEntered {S B : Type 0} (steps : S → Option B → S → Type 0) : Type 0 where
  pub types : {values : S} {old parent new : State} (name : Option (List ℕ)) (t : List B → DefType)
      → parent ≡ item_begun old (new_type name) → NoCause (BeginCause old (new_type name))
      → EndsListed item_appended item_ended no_room_in_section steps values parent new (Ok tt)
      (λ vs. def_type (t vs))
      → WholeRun steps values (λ run. IsEntered old new (type_entry name (t run.items)))
  pub core_types : {values : S} {old parent new : State} (name : Option (List ℕ))
      (t : List B → CoreType) → parent ≡ item_begun old (new_core_type name)
      → NoCause (BeginCause old (new_core_type name))
      → EndsListed item_appended item_ended no_room_in_section steps values parent new (Ok tt)
      (λ vs. core_type (t vs))
      → WholeRun steps values (λ run. IsEntered old new (core_type_entry name (t run.items)))

-- The same holds for a core function, if the call takes parameters and results as `EndsLists` says.
pub record CoreFunctionsAreEntered {S R : Type 0} (steps : S → Option ValType → S → Type 0)
    (more_steps : R → Option ValType → R → Type 0) : Type 0 where
  pub core_types : {params : S} {results : R} {old parent new : State} (name : Option (List ℕ))
      → parent ≡ item_begun old (new_core_type name)
      → NoCause (BeginCause old (new_core_type name))
      → EndsLists item_appended item_ended no_room_in_section steps params more_steps results
      parent new (Ok tt) (λ ts. 0x60 ▸ list val_type ts) (list val_type)
      → WholeRun steps params (λ run. WholeRun more_steps results (λ last.
      IsEntered old new (core_function_entry name run.items last.items)))

-- The same holds for a function, if the calls of its encoder are accepted: `params` and `result`,
-- or `async_` before them.
pub record FunctionsAreEntered {S : Type 0}
    (steps : S → Option (Bor (List ℕ) × ComponentValType) → S → Type 0) : Type 0 where
  pub of_two : {params : S} {stage : FuncStage} {old parent written new : State}
      (name : Option (List ℕ)) (answer : Option ComponentValType)
      → parent ≡ item_begun old (new_type name) → NoCause (BeginCause old (new_type name))
      → stage ≡ Start
      → ExtendsListed steps params parent written (Ok tt) (item_appended parent)
      (no_room_in_section parent) (λ ps. params_from stage (map borrowed_labelled_type ps))
      → Ends item_appended item_ended no_room_in_section written new (Ok tt) (result_list answer)
      → WholeRun steps params (λ run.
      IsEntered old new (function_entry name false run.items answer))
  pub of_three : {params : S} {stage : FuncStage} {old parent tagged written new : State}
      (name : Option (List ℕ)) (is_async : Bool) (answer : Option ComponentValType)
      → parent ≡ item_begun old (new_type name) → NoCause (BeginCause old (new_type name))
      → Extends parent tagged (item_appended parent (async_byte is_async ∷ [])) (Ok tt)
      (byte (async_byte is_async)) (no_room_in_section parent (async_byte is_async ∷ []))
      → stage ≡ Tagged
      → ExtendsListed steps params tagged written (Ok tt) (item_appended tagged)
      (no_room_in_section tagged) (λ ps. params_from stage (map borrowed_labelled_type ps))
      → Ends item_appended item_ended no_room_in_section written new (Ok tt) (result_list answer)
      → WholeRun steps params (λ run.
      IsEntered old new (function_entry name is_async run.items answer))
