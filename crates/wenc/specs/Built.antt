-- What running a script returned.
use Rattle.std.specs.Prelude.{◌≡◌, ℕ, List, Result, Ok, Err}
use Rattle.wenc_base.specs.Fault.{IsMemory}
use Rattle.wenc_builder.specs.Entry.{Entry, items}
use Rattle.wenc_builder.specs.Sections.{whole}
use Rattle.wasm_encoder.specs.declared.command.Built.{Built}
use Rattle.wasm_encoder.specs.Command.{CommandTree}
use Rattle.wasm_encoder.specs.Ran.{Ran}
use Rattle.wenc.specs.declared.failure.Failure.{Failure}
use Rattle.wenc.specs.declared.failure.Failure.TheVariants.{Arguments, BadLine, Fault, Transfer}

-- The commands that a script says ran, with these results, and the bytes are the component of the
-- items that they led to.
pub record IsBuilt {A : Type 0} (built : Built A) (said : Result (List CommandTree) ℕ)
    : Type 0 where
  pub commands : List CommandTree
  pub entries : List Entry
  pub says : said ≡ Ok commands
  pub ran : Ran commands built.answers.items entries
  pub bytes : built.bytes.items ≡ whole (items entries)

-- That, or the first bad line, unless memory ran out.
abbrev pub Builds : {A : Type 0} → Result (Built A) Failure → Result (List CommandTree) ℕ → Type 0
Builds (Ok built) said = IsBuilt built said
Builds (Err (BadLine line)) said = said ≡ Err line
Builds (Err (Fault fault)) said = IsMemory fault
Builds (Err Transfer) said = ⊥
Builds (Err Arguments) said = ⊥
