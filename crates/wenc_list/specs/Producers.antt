-- A producers section that is read part by part (tool conventions, "Producers Section").
use Rattle.std.specs.Prelude.{◌≡◌, ◌⊎◌, ℕ, ◌+◌, ◌<◌, List, [], ◌∷◌, ◌++◌, length, map, Result, Err}
use Rattle.std.specs.Borrow.{Bor}
use Rattle.wenc_base.specs.Forms.{name}
use Rattle.wenc_base.specs.Number.{u32}
use Rattle.wenc_base.specs.Piece.{Wide, ◌⨾◌}
use Rattle.wenc_base.specs.Producers.{Producer, producer, Producers}
use Rattle.wenc_base.specs.Readers.{Flaw, Bad, Reader, ◌>>=◌, give, times, done, made}
use Rattle.wenc_base.specs.laws.Sections.{read_producer, read_producers_field}
use Rattle.wenc_base.specs.reading.Forms.{read_list}
use Rattle.wenc_list.specs.declared.producers.ProducersPart.{ProducersPart}
use Rattle.wenc_list.specs.declared.producers.ProducersPart.TheVariants as seen
use Rattle.wenc_list.specs.declared.producers.ProducersParts.{ProducersParts}

-- the name of a field, or a tool of it
pub data Part : Type 0 where
  Field : List ℕ → Part
  Tool : Producer → Part

abbrev pub tool_seen : Bor (List ℕ) × Bor (List ℕ) → Producer
tool_seen t = record { tool = t.0.now; version = t.1.now }

abbrev pub part_seen : ProducersPart → Part
part_seen (seen.Field name) = Field name.now
part_seen (seen.Tool name version) = Tool (tool_seen (name, version))

-- each field's name, and after it its tools
abbrev pub producers_parts : List Producers → List Part
producers_parts [] = []
producers_parts (f ∷ fs) = Field f.field ∷ (map Tool f.tools ++ producers_parts fs)

-- so many tools, and then so many fields
abbrev pub read_parts : ℕ → ℕ → Reader (List Part)
read_parts tools fields = times read_producer tools >>= λ ts.
    times read_producers_field fields >>= λ fs. give (map Tool ts ++ producers_parts fs)

-- all parts of a section with these bytes after its name
abbrev pub parts_in : List ℕ → Result (List Part) Flaw
parts_in bytes = made producers_parts (done (read_list read_producers_field) bytes)

-- the parts that are left, in all of the bytes that are
abbrev pub parts_left : ProducersParts → Result (List Part) Flaw
parts_left p = done (read_parts p.tools p.fields) p.rest.now

-- one more, before them
abbrev pub with_part : Part → Result (List Part) Flaw → Result (List Part) Flaw
with_part p = made (λ ps. p ∷ ps)

abbrev pub IsMalformed : Result (List Part) Flaw → Type 0
IsMalformed found = found ≡ Err Bad

-- A part was read, and this is left: after a field its tools and one field fewer, after a tool one
-- tool fewer.
abbrev pub HasTakenPart : ProducersParts → Part → ProducersParts → Type 0
HasTakenPart first (Field field) left =
    (first.tools ≡ 0) × (first.fields ≡ left.fields + 1)
    × (name field ⨾ u32 left.tools).Reads Wide first.rest.now left.rest.now
HasTakenPart first (Tool t) left =
    (first.tools ≡ left.tools + 1) × (left.fields ≡ first.fields)
    × (producer t).Reads Wide first.rest.now left.rest.now

-- Nothing is left.
abbrev pub AreSpent : ProducersParts → Type 0
AreSpent p = (p.tools ≡ 0) × (p.fields ≡ 0) × (p.rest.now ≡ [])

-- ---- why the next part isn't read

-- no number begins here
abbrev pub IsNoNumber : List ℕ → Type 0
IsNoNumber bytes = (n : ℕ) (rest : List ℕ) → (u32 n).Reads Wide bytes rest → ⊥

-- no tool begins here
abbrev pub IsNoTool : List ℕ → Type 0
IsNoTool bytes = (t : Producer) (rest : List ℕ) → (producer t).Reads Wide bytes rest → ⊥

-- no field does, whatever its tools are
abbrev pub IsNoField : List ℕ → Type 0
IsNoField bytes = (field : List ℕ) (tools : ℕ) (rest : List ℕ)
    → (name field ⨾ u32 tools).Reads Wide bytes rest → ⊥

-- The next tool or else the next field isn't there, or bytes follow the last one.
abbrev pub IsNoPart : ProducersParts → Type 0
IsNoPart p =
    ((0 < p.tools) × IsNoTool p.rest.now)
    ⊎ ((p.tools ≡ 0) × (((0 < p.fields) × IsNoField p.rest.now)
    ⊎ ((p.fields ≡ 0) × (0 < length p.rest.now))))
