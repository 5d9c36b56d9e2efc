use Rattle.std.proofs.Common.{Ok, Err, refl}
use Rattle.wenc_builder.specs.Entry.{import_entry}
use Rattle.wenc_sections.specs.declared.space.Space.TheVariants as spaces
use Rattle.wenc_parts.specs.Imports.{extern_name_view}
use Rattle.wenc_parts.specs.declared.imports.ComponentTypeRef.TheVariants as refs
use Rattle.proved_tests.proofs.applied.import_counted.Goals as goal

pub returns-in-Ok-clause-index : goal.returns-in-Ok-clause-index
returns-in-Ok-clause-index g c es h =
    c.one_item_counts_once.ensures.answered c.args.builder.now _ c.in-Ok.index
    (import_entry (extern_name_view c.args.name) (refs.Func c.args.ty)) spaces.Funcs es h c.in-Ok.ensures refl

pub returns-in-Ok-clause-once : goal.returns-in-Ok-clause-once
returns-in-Ok-clause-once g c es h =
    c.one_item_counts_once.ensures.raised c.args.builder.now _ c.in-Ok.index
    (import_entry (extern_name_view c.args.name) (refs.Func c.args.ty)) spaces.Funcs es h c.in-Ok.ensures refl

pub returns-in-Ok-clause-never_less : goal.returns-in-Ok-clause-never_less
returns-in-Ok-clause-never_less g c es h space =
    c.counts_never_fall.ensures.indexed c.args.builder.now _ (Ok c.in-Ok.index)
    (import_entry (extern_name_view c.args.name) (refs.Func c.args.ty)) space es h c.in-Ok.ensures

pub returns-in-Err-clause-never_less : goal.returns-in-Err-clause-never_less
returns-in-Err-clause-never_less g c es h space =
    c.counts_never_fall.ensures.indexed c.args.builder.now _ (Err c.in-Err.fault)
    (import_entry (extern_name_view c.args.name) (refs.Func c.args.ty)) space es h c.in-Err.ensures
