use Rattle.std.proofs.Common.{refl}
use Rattle.wenc_base.specs.Prelude.{Wide}
use Rattle.wenc_builder.specs.Prelude.{items as items_of, runs}
use Rattle.proved_tests.proofs.listed.built_and_listed.Goals as goal

pub returns-in-Ok-clause-read : goal.returns-in-Ok-clause-read
returns-in-Ok-clause-read g c es ran no_raw =
    let ss = runs (items_of es) in
    let one = c.in-Ok.ensures.one_reading es ran no_raw Wide in
    rw c.as_slice.ensures.value at (c.list-listed.ensures.or_deep) ss ((one ss).1 refl)
