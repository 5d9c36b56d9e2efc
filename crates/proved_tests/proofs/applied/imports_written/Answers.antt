use Rattle.std.proofs.Common.{◌++◌, List, ℕ, ap, ◌∙◌}
use Rattle.std.proofs.Math.Logic.{∥∥₁_map}
use Rattle.wasm_encoder.specs.AllForms.{Imports}
use Rattle.proved_tests.proofs.applied.imports_written.Goals as goal

pub returns : goal.returns
returns g c =
    ∥∥₁_map c.in_ok-encode.ensures.items
    (λ some.
    let is = c.what_is_finished_has_some.ensures Imports c.args.imports.now some in (
      is.0,
      c.in_ok-encode.ensures.appended.ok ∙ ap (λ (text : List ℕ). c.args.sink.now.items ++ text)
          (c.sections_are_their_items.ensures.sections Imports c.args.imports.now is.0 is.1),
    ))
