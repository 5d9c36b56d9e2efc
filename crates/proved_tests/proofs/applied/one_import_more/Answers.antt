use Rattle.wenc_parts.specs.Imports.{extern_name_view}
use Rattle.wasm_encoder.specs.AllForms.{Imports}
use Rattle.proved_tests.proofs.applied.one_import_more.Goals as goal

pub returns : goal.returns
returns g c is had =
    c.what_is_added_is_contained.ensures.value Imports (record { name = extern_name_view c.args.name; ty = c.args.ty }) is
    c.args.imports.now _ c.in_ok-import.ensures.ok had
