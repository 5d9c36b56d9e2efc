-- Canonical functions as pure data, owned or borrowed.
use Rattle.std.specs.Prelude.{List, Vec}
use Rattle.wenc_canon.specs.declared.canonicals.CanonicalOption.{CanonicalOption}
use Rattle.wenc_sections.specs.declared.canon_tree.CanonOf.{CanonOf}
use Rattle.wenc_sections.specs.declared.canon_tree.CanonOf.TheVariants as kinds
use Rattle.wenc_canon.specs.Canonicals as canon
use Rattle.wenc_canon.specs.Canonicals.{Canonical, Lift, Lower, OfBuiltin}

abbrev pub canon_of : {O : Type 0} → (O → List CanonicalOption) → CanonOf O → Canonical
canon_of seen (kinds.Lift core_func ty options) = Lift core_func (seen options) ty
canon_of seen (kinds.Lower func options) = Lower func (seen options)
canon_of seen (kinds.ResourceNew ty) = OfBuiltin canon.ResourceNew ty
canon_of seen (kinds.ResourceDrop ty) = OfBuiltin canon.ResourceDrop ty
canon_of seen (kinds.ResourceRep ty) = OfBuiltin canon.ResourceRep ty
canon_of seen kinds.TaskCancel = OfBuiltin canon.TaskCancel tt
canon_of seen (kinds.SubtaskCancel async_) = OfBuiltin canon.SubtaskCancel async_
canon_of seen (kinds.TaskReturn ty options) = OfBuiltin canon.TaskReturn (ty, seen options)
canon_of seen (kinds.ContextGet ty slot) = OfBuiltin canon.ContextGet (ty, slot)
canon_of seen (kinds.ContextSet ty slot) = OfBuiltin canon.ContextSet (ty, slot)
canon_of seen kinds.ThreadYield = OfBuiltin canon.ThreadYield tt
canon_of seen kinds.SubtaskDrop = OfBuiltin canon.SubtaskDrop tt
canon_of seen (kinds.StreamNew ty) = OfBuiltin canon.StreamNew ty
canon_of seen (kinds.StreamRead ty options) = OfBuiltin canon.StreamRead (ty, seen options)
canon_of seen (kinds.StreamWrite ty options) = OfBuiltin canon.StreamWrite (ty, seen options)
canon_of seen (kinds.StreamCancelRead ty async_) = OfBuiltin canon.StreamCancelRead (ty, async_)
canon_of seen (kinds.StreamCancelWrite ty async_) = OfBuiltin canon.StreamCancelWrite (ty, async_)
canon_of seen (kinds.StreamDropReadable ty) = OfBuiltin canon.StreamDropReadable ty
canon_of seen (kinds.StreamDropWritable ty) = OfBuiltin canon.StreamDropWritable ty
canon_of seen (kinds.FutureNew ty) = OfBuiltin canon.FutureNew ty
canon_of seen (kinds.FutureRead ty options) = OfBuiltin canon.FutureRead (ty, seen options)
canon_of seen (kinds.FutureWrite ty options) = OfBuiltin canon.FutureWrite (ty, seen options)
canon_of seen (kinds.FutureCancelRead ty async_) = OfBuiltin canon.FutureCancelRead (ty, async_)
canon_of seen (kinds.FutureCancelWrite ty async_) = OfBuiltin canon.FutureCancelWrite (ty, async_)
canon_of seen (kinds.FutureDropReadable ty) = OfBuiltin canon.FutureDropReadable ty
canon_of seen (kinds.FutureDropWritable ty) = OfBuiltin canon.FutureDropWritable ty
canon_of seen (kinds.ErrorContextNew options) = OfBuiltin canon.ErrorContextNew (seen options)
canon_of seen (kinds.ErrorContextDebugMessage options) =
    OfBuiltin canon.ErrorContextDebugMessage (seen options)
canon_of seen kinds.ErrorContextDrop = OfBuiltin canon.ErrorContextDrop tt
canon_of seen kinds.WaitableSetNew = OfBuiltin canon.WaitableSetNew tt
canon_of seen (kinds.WaitableSetWait memory) = OfBuiltin canon.WaitableSetWait (tt, memory)
canon_of seen (kinds.WaitableSetPoll memory) = OfBuiltin canon.WaitableSetPoll (tt, memory)
canon_of seen kinds.WaitableSetDrop = OfBuiltin canon.WaitableSetDrop tt
canon_of seen kinds.WaitableJoin = OfBuiltin canon.WaitableJoin tt
canon_of seen kinds.BackpressureInc = OfBuiltin canon.BackpressureInc tt
canon_of seen kinds.BackpressureDec = OfBuiltin canon.BackpressureDec tt
canon_of seen kinds.ThreadIndex = OfBuiltin canon.ThreadIndex tt
canon_of seen (kinds.ThreadNewIndirect ty table) = OfBuiltin canon.ThreadNewIndirect (ty, table)
canon_of seen kinds.ThreadResumeLater = OfBuiltin canon.ThreadResumeLater tt
canon_of seen kinds.ThreadSuspend = OfBuiltin canon.ThreadSuspend tt
canon_of seen kinds.ThreadSuspendThenResume = OfBuiltin canon.ThreadSuspendThenResume tt
canon_of seen kinds.ThreadYieldThenResume = OfBuiltin canon.ThreadYieldThenResume tt
canon_of seen kinds.ThreadSuspendThenPromote = OfBuiltin canon.ThreadSuspendThenPromote tt
canon_of seen kinds.ThreadYieldThenPromote = OfBuiltin canon.ThreadYieldThenPromote tt
canon_of seen (kinds.StreamForward ty) = OfBuiltin canon.StreamForward ty
canon_of seen (kinds.FutureForward ty) = OfBuiltin canon.FutureForward ty
canon_of seen (kinds.ThreadSpawnRef ty) = OfBuiltin canon.ThreadSpawnRef ty
canon_of seen (kinds.ThreadSpawnIndirect ty table) = OfBuiltin canon.ThreadSpawnIndirect (ty, table)
canon_of seen kinds.ThreadAvailableParallelism = OfBuiltin canon.ThreadAvailableParallelism tt

-- those that own their options
abbrev pub canon_view : {A : Type 0} → CanonOf (Vec CanonicalOption A) → Canonical
canon_view f = canon_of (λ options. options.items) f
