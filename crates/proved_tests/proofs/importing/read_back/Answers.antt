use Rattle.std.proofs.Math.Logic.{∥∥₁_map}
use Rattle.wenc_base.specs.Holder.{held_section}
use Rattle.wasm_encoder.specs.AllForms.{Imports}
use Rattle.proved_tests.proofs.importing.read_back.Goals as goal

pub returns : goal.returns
returns g c =
    let wrote = c.in_ok-encode.ensures in
    ∥∥₁_map wrote.items (λ some.
    let is = c.what_is_finished_has_some.ensures Imports c.args.imports.now some in (
      (held_section c.args.imports.now).text,
      is.0,
      wrote.appended.ok,
      λ mode rest. c.sections_are_read.ensures.read Imports
          c.args.imports.now is.0 is.1 wrote.fits mode rest,
    ))
