-- The progress of a function type (component model, binary format, "Type Definitions").
use Rattle.std.specs.Prelude.{ℕ, Bool, true, not, List, [], ◌∷◌, Option}
use Rattle.wenc_base.specs.Forms.{list}
use Rattle.wenc_base.specs.Piece.{Form, ◌⨾◌, behind_bytes, HasForm}
use Rattle.wenc_parts.specs.Types.{result_list}
use Rattle.wenc_parts.specs.declared.types.ComponentValType.{ComponentValType}
use Rattle.wenc_types.specs.DefinedTypes.{LabelledType, labelled_type, function_type}
use Rattle.wenc_types.specs.declared.encoders.func_type.FuncStage.{FuncStage}
use Rattle.wenc_types.specs.declared.encoders.func_type.FuncStage.TheVariants.{Start, Tagged, Params, Done}

-- parameters may come
abbrev pub BeforeParams : FuncStage → Type 0
BeforeParams Start = Unit {0}
BeforeParams Tagged = Unit {0}
BeforeParams Params = ⊥
BeforeParams Done = ⊥

-- what comes before the parameters, from this stage on
abbrev pub lead_from : FuncStage → List ℕ
lead_from Start = 0x40 ∷ []
lead_from Tagged = []
lead_from Params = []
lead_from Done = []

-- the parameters, after what comes before them
abbrev pub params_from : FuncStage → Form (List LabelledType)
params_from stage params = behind_bytes (lead_from stage) (list labelled_type params)

-- the type is still being written, or it is done
abbrev pub goes_on : FuncStage → Bool → Bool
goes_on Start finished = not finished
goes_on Tagged finished = not finished
goes_on Params finished = not finished
goes_on Done finished = true

-- parameters, then the function's result
abbrev pub params_and_answer : Form (List LabelledType × Option ComponentValType)
params_and_answer p = list labelled_type p.0 ⨾ result_list p.1

-- from this stage on, these bytes make the type whole
abbrev pub Remains : FuncStage → List ℕ → Type 0
Remains Start bytes = HasForm function_type bytes
Remains Tagged bytes = HasForm params_and_answer bytes
Remains Params bytes = HasForm result_list bytes
Remains Done bytes = ⊥

-- from this stage on, what remains makes the type whole
abbrev pub RestMakesWhole : {T : Type 0} → (T → Type 0) → (T → List ℕ → T) → FuncStage → T → Type 0
RestMakesWhole is_whole written stage parent =
    (bytes : List ℕ) → Remains stage bytes → ∥ is_whole (written parent bytes) ∥₁
