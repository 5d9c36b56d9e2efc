use Rattle.std.proofs.Common.{◌≡◌, List, subst}
use Rattle.std.specs.List.{AllByRecursion}
use Rattle.std.specs.Prelude.{IfOk}
use Rattle.wenc_builder.specs.Prelude.{Entry, Holds, StartIsNameless, State, items, whole}
use Rattle.wasm_encoder.proofs.command.Running.finish.Goals as goal

pub returns-clause-some : goal.returns-clause-some
returns-clause-some g c =
    subst (λ (s : State). IfOk c.finish.result (λ v. ∥ ((es : List Entry) × Holds s es × (v.items ≡ whole (items es))
    × AllByRecursion StartIsNameless es) ∥₁)) c.self.view_is c.finish.ensures.some
