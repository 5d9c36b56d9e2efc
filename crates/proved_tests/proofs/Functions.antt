-- Types of functions that were written piece by piece.
use Rattle.std.proofs.Common.{◌≡◌, ℕ, List, [], ◌∷◌, ◌++◌, map, append_assoc, refl, false, Option, Result, Ok, Err, OnOk, sym, subst}
use Rattle.std.specs.Borrow.{Bor}
use Rattle.std.specs.Iterator.Runs.{WholeRun}
use Rattle.wenc_base.specs.Prelude.{Contains, Extended, HolderState, list, member_appended}
use Rattle.wenc_base.specs.Prelude.{member_begun, member_ended}
use Rattle.wenc_parts.specs.Prelude.{result_list}
use Rattle.wenc_types.specs.Prelude.{DefType, FunctionType, LabelledType, borrowed_labelled_type}
use Rattle.wenc_types.specs.Prelude.{def_type, labelled_type, params_from}
use Rattle.wenc_base.specs.declared.fault.Fault.{Fault}
use Rattle.wenc_parts.specs.declared.types.ComponentValType.{ComponentValType}
use Rattle.wenc_types.specs.declared.encoders.func_type.FuncStage.{FuncStage}
use Rattle.wenc_types.specs.declared.encoders.func_type.FuncStage.TheVariants.{Start}

abbrev function : List LabelledType → Option ComponentValType → DefType
function params answer = FunctionType (record { is_async = false; params = params; answer = answer })

-- a type that was written whole is one type more
abbrev pub EndedTypeIsOneMore : Type 0
EndedTypeIsOneMore = (section : HolderState) (t : DefType) (types : List DefType) → (def_type t).Fits → Contains def_type section types
    → Contains def_type (member_ended (member_appended (member_begun section []) (def_type t).text)) (types ++ t ∷ [])

function_is_one_more : EndedTypeIsOneMore → (h : HolderState) (ps : List LabelledType) (answer : Option ComponentValType)
    (types : List DefType) → (list labelled_type ps).Fits → (result_list answer).Fits → Contains def_type h types
    → Contains def_type (member_ended (member_appended (member_appended (member_begun h []) (0x40 ∷ (list labelled_type ps).text))
    (result_list answer).text)) (types ++ function ps answer ∷ [])
function_is_one_more law h ps answer types fits answers c =
    let once : member_appended (member_appended (member_begun h []) (0x40 ∷ (list labelled_type ps).text)) (result_list answer).text
    ≡ member_appended (member_begun h []) (def_type (function ps answer)).text =
    rw (append_assoc (h.body ++ []) (0x40 ∷ (list labelled_type ps).text) (result_list answer).text) refl in
    subst (λ (d : HolderState). Contains def_type (member_ended d) (types ++ function ps answer ∷ [])) (sym once)
    (law h (function ps answer) types (fits, answers) c)

-- A function type that was written in two parts, its parameters and then what it answers, is one
-- type more.
pub function_written : {S : Type 0} → EndedTypeIsOneMore → (steps : S → Option (Bor (List ℕ) × ComponentValType) → S → Type 0) (values : S)
    (h parent mid new last : HolderState) (stage : FuncStage) (answer : Option ComponentValType)
    (outcome : Result (Unit {0}) Fault) (R : List ℕ → Fault → Type 0) → parent ≡ member_begun h [] → stage ≡ Start
    → WholeRun steps values (λ run. Extended mid (member_appended parent) R (params_from stage (map borrowed_labelled_type run.items)))
    → OnOk outcome (new ≡ member_ended (member_appended mid (result_list answer).text)) → OnOk outcome (result_list answer).Fits → last ≡ new
    → OnOk outcome (WholeRun steps values (λ run. (types : List DefType) → Contains def_type h types
    → Contains def_type last (types ++ function (map borrowed_labelled_type run.items) answer ∷ [])))
function_written law steps values h parent mid new last stage answer (Ok u) R begins starts first second answers same = (
  first.0,
  first.1,
  first.2,
  λ types c. rw (same, second, first.3.state, begins, starts)
      (function_is_one_more law h (map borrowed_labelled_type first.0.items) answer types (rw starts at first.3.fits) answers c),
)
function_written law steps values h parent mid new last stage answer (Err f) R begins starts first second answers same = tt
