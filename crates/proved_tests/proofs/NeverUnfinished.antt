-- A run that is refused isn't refused as unfinished.
use Rattle.std.proofs.Common.{◌≡◌, ℕ, List, [], ◌∷◌, ◌++◌, ◌⊎◌, inl, inr, Result, Ok, Err, Option, Some, subst, length}
use Rattle.std.specs.Result.{IfOk, IfErr}
use Rattle.wenc_base.specs.Prelude.{IsMemory}
use Rattle.wenc_base.specs.declared.fault.Fault.TheVariants.{Memory, TooMany, TooLarge, Unfinished}
use Rattle.wasm_encoder.specs.Prelude.{CommandTree, IsStopped}
use Rattle.wenc_base.specs.declared.fault.Fault.{Fault}

pub stopped : (cs : List CommandTree) (fault : Fault) → IsMemory fault ⊎ IsStopped cs fault → fault ≡ Unfinished → ⊥
stopped cs (Memory e) r same = cc
stopped cs TooMany r same = cc
stopped cs TooLarge r same = cc
stopped cs Unfinished (inl m) same = m
stopped cs Unfinished (inr s) same = s.refused.1 same

pub refused : {T : Type 0} (cs : List CommandTree) (r : Result T Fault) → IfErr r (λ fault. IsMemory fault ⊎ IsStopped cs fault)
    → IfErr r (λ fault. fault ≡ Unfinished → ⊥)
refused cs (Ok x) e = tt
refused cs (Err fault) e = stopped cs fault e
