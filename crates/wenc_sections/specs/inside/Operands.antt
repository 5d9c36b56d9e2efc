-- What follows the opcode of a canonical function, as the code writes it.
use Rattle.std.specs.Prelude.{ℕ, [], ◌∷◌}
use Rattle.wenc_base.specs.Piece.{Piece, ◌▸◌}
use Rattle.wenc_sections.specs.declared.canon_tree.Operands.{Operands}
use Rattle.wenc_sections.specs.declared.canon_tree.Operands.TheVariants as operands
use Rattle.wenc_canon.specs.Canonicals.{Index, Options, Flag, Zero, CoreType, Results, fields}
use Rattle.wenc_canon.specs.Canonicals.{Lift, Lower, canonical}

-- what begins with this opcode, and has this after it
abbrev pub operand_behind : {A : Type 0} → ℕ → Operands A → Piece
operand_behind opcode (operands.Lifted function ty options) =
    canonical (Lift function options.now.items ty)
operand_behind opcode (operands.Lowered function options) =
    canonical (Lower function options.now.items)
operand_behind opcode operands.Nothing = opcode ▸ fields [] tt
operand_behind opcode operands.NotCancellable = opcode ▸ fields (Zero ∷ []) tt
operand_behind opcode (operands.Index n) = opcode ▸ fields (Index ∷ []) n
operand_behind opcode (operands.Flag b) = opcode ▸ fields (Flag ∷ []) b
operand_behind opcode (operands.Memory n) = opcode ▸ fields (Zero ∷ Index ∷ []) (tt, n)
operand_behind opcode (operands.IndexAndFlag n b) = opcode ▸ fields (Index ∷ Flag ∷ []) (n, b)
operand_behind opcode (operands.Indices n m) = opcode ▸ fields (Index ∷ Index ∷ []) (n, m)
operand_behind opcode (operands.Slot t n) = opcode ▸ fields (CoreType ∷ Index ∷ []) (t, n)
operand_behind opcode (operands.Options os) = opcode ▸ fields (Options ∷ []) os.now.items
operand_behind opcode (operands.IndexAndOptions n os) =
    opcode ▸ fields (Index ∷ Options ∷ []) (n, os.now.items)
operand_behind opcode (operands.ResultsAndOptions r os) =
    opcode ▸ fields (Results ∷ Options ∷ []) (r, os.now.items)
