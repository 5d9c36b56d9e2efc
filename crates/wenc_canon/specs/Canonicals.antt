-- Canonical functions (component model, binary format, "Canonical Definitions"; names, opcodes and
-- fields as docs/FORMAT.md lists them).
use Rattle.std.specs.Prelude.{ℕ, Bool, List, [], ◌∷◌, ◌++◌, Option, Result, codes, decimal}
use Rattle.wenc_base.specs.Piece.{Form, byte, nothing, ◌▸◌, ◌⨾◌}
use Rattle.wenc_base.specs.Number.{u32}
use Rattle.wenc_base.specs.Forms.{flag, list}
use Rattle.wenc_base.specs.Types.{val_type}
use Rattle.wenc_base.specs.Holder.{HolderState, AddsMember, AddsListed}
use Rattle.wenc_base.specs.declared.fault.Fault.{Fault}
use Rattle.wenc_base.specs.declared.types.ValType.{ValType}
use Rattle.wenc_parts.specs.declared.types.ComponentValType.{ComponentValType}
use Rattle.wenc_parts.specs.Types.{result_list}
use Rattle.wenc_canon.specs.declared.canonicals.CanonicalOption.{CanonicalOption}
use Rattle.wenc_canon.specs.declared.canonicals.CanonicalOption.TheVariants.{UTF8, UTF16}
use Rattle.wenc_canon.specs.declared.canonicals.CanonicalOption.TheVariants.{CompactUTF16, Memory}
use Rattle.wenc_canon.specs.declared.canonicals.CanonicalOption.TheVariants.{Realloc, PostReturn}
use Rattle.wenc_canon.specs.declared.canonicals.CanonicalOption.TheVariants.{Async, Callback, Gc}
use Rattle.wenc_canon.specs.declared.canonicals.CanonicalOption.TheVariants.{CoreType as CoreTypeOption}

-- ---- options

abbrev pub canonical_option : Form CanonicalOption
canonical_option UTF8 = byte 0x00
canonical_option UTF16 = byte 0x01
canonical_option CompactUTF16 = byte 0x02
canonical_option (Memory n) = 0x03 ▸ u32 n
canonical_option (Realloc n) = 0x04 ▸ u32 n
canonical_option (PostReturn n) = 0x05 ▸ u32 n
canonical_option Async = byte 0x06
canonical_option (Callback n) = 0x07 ▸ u32 n
canonical_option (CoreTypeOption n) = 0x08 ▸ u32 n
canonical_option Gc = byte 0x09

-- ---- fields

-- an index, options, a flag, the byte 00, a core value type, a result list
pub data Field : Type 0 where
  Index Options Flag Zero CoreType Results : Field

-- what a field of this kind holds
abbrev pub Value : Field → Type 0
Value Index = ℕ
Value Options = List CanonicalOption
Value Flag = Bool
Value Zero = Unit {0}
Value CoreType = ValType
Value Results = Option ComponentValType

-- how that is written
abbrev pub field : (f : Field) → Form (Value f)
field Index n = u32 n
field Options options = list canonical_option options
field Flag b = flag b
field Zero v = byte 0x00
field CoreType t = val_type t
field Results r = result_list r

-- a value for each field
abbrev pub Values : List Field → Type 0
Values [] = Unit {0}
Values (f ∷ []) = Value f
Values (f ∷ g ∷ fs) = Value f × Values (g ∷ fs)

-- the fields, one after the other
abbrev pub fields : (fs : List Field) → Form (Values fs)
fields [] vs = nothing
fields (f ∷ []) v = field f v
fields (f ∷ g ∷ fs) vs = field f vs.0 ⨾ fields (g ∷ fs) vs.1

-- ---- the table

-- a builtin of the component model
pub data Builtin : Type 0 where
  ResourceNew ResourceDrop ResourceRep TaskCancel SubtaskCancel TaskReturn ContextGet : Builtin
  ContextSet ThreadYield SubtaskDrop StreamNew StreamRead StreamWrite StreamCancelRead : Builtin
  StreamCancelWrite StreamDropReadable StreamDropWritable FutureNew FutureRead FutureWrite : Builtin
  FutureCancelRead FutureCancelWrite FutureDropReadable FutureDropWritable ErrorContextNew : Builtin
  ErrorContextDebugMessage ErrorContextDrop WaitableSetNew WaitableSetWait WaitableSetPoll : Builtin
  WaitableSetDrop WaitableJoin BackpressureInc BackpressureDec ThreadIndex : Builtin
  ThreadNewIndirect ThreadResumeLater ThreadSuspend ThreadSuspendThenResume : Builtin
  ThreadYieldThenResume ThreadSuspendThenPromote ThreadYieldThenPromote StreamForward : Builtin
  FutureForward ThreadSpawnRef ThreadSpawnIndirect ThreadAvailableParallelism : Builtin

-- its name (component model, explainer, "Canonical Built-ins"), its opcode, its fields
pub record Row : Type 0 where
  pub name : List ℕ
  pub opcode : ℕ
  pub fields : List Field

-- such a row
infixr 10 ◌is◌takes◌
abbrev pub ◌is◌takes◌ : List ℕ → ℕ → List Field → Row
name is opcode takes fs = record { name = name; opcode = opcode; fields = fs }

-- the row of each builtin
abbrev pub row : Builtin → Row
row ResourceNew = codes "resource.new" is 0x02 takes Index ∷ []
row ResourceDrop = codes "resource.drop" is 0x03 takes Index ∷ []
row ResourceRep = codes "resource.rep" is 0x04 takes Index ∷ []
row TaskCancel = codes "task.cancel" is 0x05 takes []
row SubtaskCancel = codes "subtask.cancel" is 0x06 takes Flag ∷ []
row TaskReturn = codes "task.return" is 0x09 takes Results ∷ Options ∷ []
row ContextGet = codes "context.get" is 0x0a takes CoreType ∷ Index ∷ []
row ContextSet = codes "context.set" is 0x0b takes CoreType ∷ Index ∷ []
row ThreadYield = codes "thread.yield" is 0x0c takes Zero ∷ []
row SubtaskDrop = codes "subtask.drop" is 0x0d takes []
row StreamNew = codes "stream.new" is 0x0e takes Index ∷ []
row StreamRead = codes "stream.read" is 0x0f takes Index ∷ Options ∷ []
row StreamWrite = codes "stream.write" is 0x10 takes Index ∷ Options ∷ []
row StreamCancelRead = codes "stream.cancel-read" is 0x11 takes Index ∷ Flag ∷ []
row StreamCancelWrite = codes "stream.cancel-write" is 0x12 takes Index ∷ Flag ∷ []
row StreamDropReadable = codes "stream.drop-readable" is 0x13 takes Index ∷ []
row StreamDropWritable = codes "stream.drop-writable" is 0x14 takes Index ∷ []
row FutureNew = codes "future.new" is 0x15 takes Index ∷ []
row FutureRead = codes "future.read" is 0x16 takes Index ∷ Options ∷ []
row FutureWrite = codes "future.write" is 0x17 takes Index ∷ Options ∷ []
row FutureCancelRead = codes "future.cancel-read" is 0x18 takes Index ∷ Flag ∷ []
row FutureCancelWrite = codes "future.cancel-write" is 0x19 takes Index ∷ Flag ∷ []
row FutureDropReadable = codes "future.drop-readable" is 0x1a takes Index ∷ []
row FutureDropWritable = codes "future.drop-writable" is 0x1b takes Index ∷ []
row ErrorContextNew = codes "error-context.new" is 0x1c takes Options ∷ []
row ErrorContextDebugMessage = codes "error-context.debug-message" is 0x1d takes Options ∷ []
row ErrorContextDrop = codes "error-context.drop" is 0x1e takes []
row WaitableSetNew = codes "waitable-set.new" is 0x1f takes []
row WaitableSetWait = codes "waitable-set.wait" is 0x20 takes Zero ∷ Index ∷ []
row WaitableSetPoll = codes "waitable-set.poll" is 0x21 takes Zero ∷ Index ∷ []
row WaitableSetDrop = codes "waitable-set.drop" is 0x22 takes []
row WaitableJoin = codes "waitable.join" is 0x23 takes []
row BackpressureInc = codes "backpressure.inc" is 0x24 takes []
row BackpressureDec = codes "backpressure.dec" is 0x25 takes []
row ThreadIndex = codes "thread.index" is 0x26 takes []
row ThreadNewIndirect = codes "thread.new-indirect" is 0x27 takes Index ∷ Index ∷ []
row ThreadResumeLater = codes "thread.resume-later" is 0x28 takes []
row ThreadSuspend = codes "thread.suspend" is 0x29 takes Zero ∷ []
row ThreadSuspendThenResume = codes "thread.suspend-then-resume" is 0x2a takes Zero ∷ []
row ThreadYieldThenResume = codes "thread.yield-then-resume" is 0x2b takes Zero ∷ []
row ThreadSuspendThenPromote = codes "thread.suspend-then-promote" is 0x2c takes Zero ∷ []
row ThreadYieldThenPromote = codes "thread.yield-then-promote" is 0x2d takes Zero ∷ []
row StreamForward = codes "stream.forward" is 0x2e takes Index ∷ []
row FutureForward = codes "future.forward" is 0x2f takes Index ∷ []
row ThreadSpawnRef = codes "thread.spawn-ref" is 0x40 takes Index ∷ []
row ThreadSpawnIndirect = codes "thread.spawn-indirect" is 0x41 takes Index ∷ Index ∷ []
row ThreadAvailableParallelism = codes "thread.available-parallelism" is 0x42 takes []

-- all of them
abbrev pub builtins : List Builtin
builtins =
    ResourceNew ∷ ResourceDrop ∷ ResourceRep ∷ TaskCancel ∷ SubtaskCancel ∷ TaskReturn ∷
    ContextGet ∷ ContextSet ∷ ThreadYield ∷ SubtaskDrop ∷ StreamNew ∷ StreamRead ∷ StreamWrite ∷
    StreamCancelRead ∷ StreamCancelWrite ∷ StreamDropReadable ∷ StreamDropWritable ∷ FutureNew ∷
    FutureRead ∷ FutureWrite ∷ FutureCancelRead ∷ FutureCancelWrite ∷ FutureDropReadable ∷
    FutureDropWritable ∷ ErrorContextNew ∷ ErrorContextDebugMessage ∷ ErrorContextDrop ∷
    WaitableSetNew ∷ WaitableSetWait ∷ WaitableSetPoll ∷ WaitableSetDrop ∷ WaitableJoin ∷
    BackpressureInc ∷ BackpressureDec ∷ ThreadIndex ∷ ThreadNewIndirect ∷ ThreadResumeLater ∷
    ThreadSuspend ∷ ThreadSuspendThenResume ∷ ThreadYieldThenResume ∷ ThreadSuspendThenPromote ∷
    ThreadYieldThenPromote ∷ StreamForward ∷ FutureForward ∷ ThreadSpawnRef ∷ ThreadSpawnIndirect ∷
    ThreadAvailableParallelism ∷ []

-- ---- names

-- the name of a builtin with these values: its row's, and the number of a slot after it
abbrev pub name_of : (i : Builtin) → Values (row i).fields → List ℕ
name_of ContextGet v = codes "context.get " ++ decimal v.1
name_of ContextSet v = codes "context.set " ++ decimal v.1
name_of i v = (row i).name

-- ---- canonical functions

-- A core function that is lifted, with its options and its type; a function that is lowered, with
-- its options; or a builtin with the values of its fields.
pub data Canonical : Type 0 where
  Lift : ℕ → List CanonicalOption → ℕ → Canonical
  Lower : ℕ → List CanonicalOption → Canonical
  OfBuiltin : (i : Builtin) → Values (row i).fields → Canonical

abbrev pub canonical : Form Canonical
canonical (Lift function options type_index) =
    0x00 ▸ 0x00 ▸ u32 function ⨾ list canonical_option options ⨾ u32 type_index
canonical (Lower function options) = 0x01 ▸ 0x00 ▸ u32 function ⨾ list canonical_option options
canonical (OfBuiltin i values) = (row i).opcode ▸ fields (row i).fields values

-- its name, without the number of a slot
abbrev pub builtin_name : Canonical → List ℕ
builtin_name (Lift function options type_index) = codes "lift"
builtin_name (Lower function options) = codes "lower"
builtin_name (OfBuiltin i values) = (row i).name

-- ---- what the calls of a section add

-- this builtin, with the values of its fields
abbrev pub Adds : HolderState → HolderState → Result (Unit {0}) Fault → (i : Builtin)
    → Values (row i).fields → Type 0
Adds old new outcome i values = AddsMember (canonical (OfBuiltin i values)) old new outcome

-- a function that is made of the options which an iterator gives
abbrev pub AddsWithOptions : {S : Type 0} → (S → Option CanonicalOption → S → Type 0) → S
    → HolderState → HolderState → Result (Unit {0}) Fault → (List CanonicalOption → Canonical)
    → Type 0
AddsWithOptions steps options old new outcome function =
    AddsListed steps options (λ os. canonical (function os)) old new outcome
