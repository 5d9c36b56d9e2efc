use denote.Param.Weighed.{at_most}
use Rattle.std.proofs.Common.{◌≡◌, ◌+◌, ◌<◌, length, get_or, [], ◌∷◌, Err, drop, arith, rules, refl, sym, subst}
use Rattle.std.proofs.lemmas.List.{drop_all}
use Rattle.wenc_base.specs.Prelude.{NoCause}
use Rattle.wenc_builder.specs.Prelude.{Enters, EntersWithoutIndex, Holds, alias_entry}
use Rattle.wenc_builder.specs.Prelude.{canonical_tree_entry, component_entry, core_instance_entry}
use Rattle.wenc_builder.specs.Prelude.{custom_entry, export_entry, import_entry, instance_entry}
use Rattle.wenc_builder.specs.Prelude.{items, module_entry, raw_entry, start_entry, whole}
use Rattle.wenc_sections.specs.Prelude.{canon_view, core_instance_tree_view, instance_tree_view}
use Rattle.wenc_parts.specs.Prelude.{alias_tree_view, name_tree_view}
use Rattle.std.specs.Option.{option_map}
use Rattle.std.specs.String.{string_bytes}
use Rattle.wasm_encoder.specs.Prelude.{Answers, CommandTree, IsRefusal, command_view, commands_view}
use Rattle.wasm_encoder.specs.Prelude.{first_cause, indexed, led}
use Rattle.wasm_encoder.proofs.Called.{memory_alone, entered_alone, entered_nowhere, names_entered}
use Rattle.wasm_encoder.proofs.command.Command.TheLaws.{the_size}
use Rattle.wasm_encoder.proofs.Nested.{component_view, inner_more, inner_refused, inner_stopped, inner_all, refused_inside, entered_inside}
use Rattle.wasm_encoder.proofs.Run.{next_is}
use Rattle.wasm_encoder.proofs.command.+running.Goals as goal

pub run-returns-in-CoreModule : goal.run-returns-in-CoreModule
run-returns-in-CoreModule g t c =
    let n = option_map string_bytes c.in-CoreModule.debug_name in
    let v = c.in-CoreModule.bytes.items in
    let e : Enters c.args.builder.now c.core_module_raw.new.self c.core_module_raw.result (module_entry n v) =
    rw (← c.as_deref.ensures, ← c.deref.ensures.value) c.core_module_raw.ensures in
    rw (c.indexed.ensures, c.in-CoreModule.is) (entered_alone c.args.builder.now c.core_module_raw.new.self c.core_module_raw.result (module_entry n v) e)

pub run-returns-in-CoreInstance : goal.run-returns-in-CoreInstance
run-returns-in-CoreInstance g t c =
    let n = option_map string_bytes c.in-CoreInstance.debug_name in
    let v = core_instance_tree_view c.in-CoreInstance.instance in
    let e : Enters c.args.builder.now c.core_instance_tree.new.self c.core_instance_tree.result (core_instance_entry n v) =
    rw (← c.as_deref-in-CoreInstance.ensures) c.core_instance_tree.ensures in
    rw (c.indexed-in-CoreInstance.ensures, c.in-CoreInstance.is)
    (entered_alone c.args.builder.now c.core_instance_tree.new.self c.core_instance_tree.result (core_instance_entry n v) e)

pub run-returns-in-Ok : goal.run-returns-in-Ok
run-returns-in-Ok g t c =
    let n = option_map string_bytes c.in-Component.debug_name in
    let inner = commands_view c.in-Component.commands.items in
    let accepted : Holds c.in-Ok.inner (led [] inner) × NoCause (first_cause [] inner) = c.in-Ok.ensures.accepted in
    let e : Enters c.args.builder.now c.component.new.self c.component.result (component_entry n (whole (items (led [] inner)))) =
    rw (← c.as_deref-in-Ok.ensures) (c.component.ensures.entered (led [] inner) accepted.0) in
    let P : CommandTree → Type 0 = λ v. Answers c.args.builder.now c.component.new.self (indexed c.component.result) v in
    rw (c.indexed-in-Ok.ensures, c.in-Component.is) (subst P (sym (component_view c.in-Component.debug_name c.in-Component.commands))
    (entered_inside n inner c.args.builder.now c.component.new.self c.component.result accepted.1 e))

pub run-returns-in-Err : goal.run-returns-in-Err
run-returns-in-Err g t c =
    let n = option_map string_bytes c.in-Component.debug_name in
    let inner = commands_view c.in-Component.commands.items in
    let refused : IsRefusal (first_cause [] inner) c.in-Err.fault = c.in-Err.ensures.refused in
    let P : CommandTree → Type 0 = λ v. Answers c.args.builder.now c.args.builder.now (Err c.in-Err.fault) v in
    rw c.in-Component.is (subst P (sym (component_view c.in-Component.debug_name c.in-Component.commands))
    (refused_inside n inner c.in-Err.fault c.args.builder.now refused))

pub run-returns-in-ComponentRaw : goal.run-returns-in-ComponentRaw
run-returns-in-ComponentRaw g t c =
    let n = option_map string_bytes c.in-ComponentRaw.debug_name in
    let v = c.in-ComponentRaw.bytes.items in
    let e : Enters c.args.builder.now c.component_raw.new.self c.component_raw.result (component_entry n v) =
    rw (← c.as_deref-in-ComponentRaw.ensures, ← c.deref-in-ComponentRaw.ensures.value) c.component_raw.ensures in
    rw (c.indexed-in-ComponentRaw.ensures, c.in-ComponentRaw.is)
    (entered_alone c.args.builder.now c.component_raw.new.self c.component_raw.result (component_entry n v) e)

pub run-returns-in-Instance : goal.run-returns-in-Instance
run-returns-in-Instance g t c =
    let n = option_map string_bytes c.in-Instance.debug_name in
    let v = instance_tree_view c.in-Instance.instance in
    let e : Enters c.args.builder.now c.instance_tree.new.self c.instance_tree.result (instance_entry n v) =
    rw (← c.as_deref-in-Instance.ensures) c.instance_tree.ensures in
    rw (c.indexed-in-Instance.ensures, c.in-Instance.is)
    (entered_alone c.args.builder.now c.instance_tree.new.self c.instance_tree.result (instance_entry n v) e)

pub run-returns-in-Alias : goal.run-returns-in-Alias
run-returns-in-Alias g t c =
    let n = option_map string_bytes c.in-Alias.debug_name in
    let v = alias_tree_view c.in-Alias.alias in
    let e : Enters c.args.builder.now c.alias.new.self c.alias.result (alias_entry n v) =
    rw (← c.as_alias.ensures, ← c.as_deref-in-Alias.ensures) c.alias.ensures in
    rw (c.indexed-in-Alias.ensures, c.in-Alias.is) (entered_alone c.args.builder.now c.alias.new.self c.alias.result (alias_entry n v) e)

pub run-returns-in-Canon : goal.run-returns-in-Canon
run-returns-in-Canon g t c =
    let n = option_map string_bytes c.in-Canon.debug_name in
    let v = canon_view c.in-Canon.canon in
    let e : Enters c.args.builder.now c.canonical_tree.new.self c.canonical_tree.result (canonical_tree_entry n v) =
    rw (← c.as_deref-in-Canon.ensures) c.canonical_tree.ensures in
    rw (c.indexed-in-Canon.ensures, c.in-Canon.is) (entered_alone c.args.builder.now c.canonical_tree.new.self c.canonical_tree.result
    (canonical_tree_entry n v) e)

pub run-returns-in-Start : goal.run-returns-in-Start
run-returns-in-Start g t c =
    let s = c.in-Start in
    rw (c.indexed-in-Start.ensures, c.in-Start.is)
    (entered_alone c.args.builder.now c.start.new.self c.start.result (start_entry s.function s.args.items s.results) c.start.ensures)

pub run-returns-in-Import : goal.run-returns-in-Import
run-returns-in-Import g t c =
    let n = name_tree_view c.in-Import.name in
    let ty = c.in-Import.ty in
    let e : Enters c.args.builder.now c.import.new.self c.import.result (import_entry n ty) =
    subst (λ m. Enters c.args.builder.now c.import.new.self c.import.result (import_entry m ty)) c.as_name.ensures c.import.ensures in
    rw (c.indexed-in-Import.ensures, c.in-Import.is) (entered_alone c.args.builder.now c.import.new.self c.import.result (import_entry n ty) e)

pub run-returns-in-Export : goal.run-returns-in-Export
run-returns-in-Export g t c =
    let x = c.in-Export in
    let n = name_tree_view x.name in
    let e : Enters c.args.builder.now c.export.new.self c.export.result (export_entry n x.kind x.index x.ty) =
    subst (λ m. Enters c.args.builder.now c.export.new.self c.export.result (export_entry m x.kind x.index x.ty))
    c.as_name-in-Export.ensures c.export.ensures in
    rw (c.indexed-in-Export.ensures, c.in-Export.is)
    (entered_alone c.args.builder.now c.export.new.self c.export.result (export_entry n x.kind x.index x.ty) e)

pub run-returns-in-AppendNames : goal.run-returns-in-AppendNames
run-returns-in-AppendNames g t c = rw (c.without_index.ensures, c.in-AppendNames.is)
    (names_entered c.args.builder.now c.append_names.new.self c.append_names.result c.append_names.ensures)

pub run_all-loop-command-preserved : goal.run_all-loop-command-preserved
run_all-loop-command-preserved g t c =
    let items = c.args.commands.now.items in
    let i = c.loop-command.command-index in
    let inside : i < length items = rw c.deref-command-items.ensures.value at c.loop-command-test.true in
    let split : drop i items ≡ c.command-item.result ∷ drop (i + 1) items =
    next_is items i c.command-item.result c.command-item.result inside (rw c.deref-command-items.ensures.value at c.command-item.is) in
    inner_more (commands_view c.args.commands.now.items) (commands_view (drop (i + 1) items))
    (command_view c.command-item.result) c.in-Ok-Ok.field-0-0 c.loop-command.builder c.run.new.builder
    (rw split at c.loop-command.invariant) (rw (← c.in-Ok-Ok.field-0-is) c.in-Ok-Ok.ensures)

pub run_all-returns-in-Ok-Err-clause-refused : goal.run_all-returns-in-Ok-Err-clause-refused
run_all-returns-in-Ok-Err-clause-refused g t c =
    let items = c.args.commands.now.items in
    let i = c.loop-command.command-index in
    let inside : i < length items = rw c.deref-command-items.ensures.value at c.loop-command-test.true in
    let split : drop i items ≡ c.command-item.result ∷ drop (i + 1) items =
    next_is items i c.command-item.result c.command-item.result inside (rw c.deref-command-items.ensures.value at c.command-item.is) in
    inner_refused (commands_view c.args.commands.now.items) _ (command_view c.command-item.result) c.in-Ok-Err.fault c.loop-command.builder
    c.run.new.builder (rw split at c.loop-command.invariant) (rw (← c.in-Ok-Err.field-0-is) c.in-Ok-Err.ensures)

pub run_all-returns-in-Err-run-clause-refused : goal.run_all-returns-in-Err-run-clause-refused
run_all-returns-in-Err-run-clause-refused g t c =
    let items = c.args.commands.now.items in
    let i = c.loop-command.command-index in
    let inside : i < length items = rw c.deref-command-items.ensures.value at c.loop-command-test.true in
    let split : drop i items ≡ c.command-item.result ∷ drop (i + 1) items =
    next_is items i c.command-item.result c.command-item.result inside (rw c.deref-command-items.ensures.value at c.command-item.is) in
    inner_stopped (commands_view c.args.commands.now.items) _ (command_view c.command-item.result) c.in-Err-run.fault c.loop-command.builder
    _ (rw split at c.loop-command.invariant) c.in-Err-run.ensures

pub run_all-run-requires : goal.run_all-run-requires
run_all-run-requires g t c = λ κs lives.
    let items = c.args.commands.now.items in
    let i = c.loop-command.command-index in
    let inside : i < length items = rw c.deref-command-items.ensures.value at c.loop-command-test.true in
    let is : c.command-item.result ≡ get_or items i c.command-item.result = rw c.deref-command-items.ensures.value at c.command-item.is in
    let least = rw (← is) at (at_most (the_size g.row.A g.A.Allocator g.A.laws) items i c.command-item.result inside) in
    (omega (arith, least, c.decreases), lives)

pub run_all-returns-in-Err-clause-refused : goal.run_all-returns-in-Err-clause-refused
run_all-returns-in-Err-clause-refused g t c = memory_alone (first_cause [] (commands_view c.args.commands.now.items)) c.in-Err.fault c.in-Err.ensures.refused

pub run_all-returns-clause-accepted : goal.run_all-returns-clause-accepted
run_all-returns-clause-accepted g t c =
    let past : drop c.loop-command.command-index c.args.commands.now.items ≡ [] =
    drop_all c.loop-command.command-index c.args.commands.now.items (omega arith) in
    inner_all (commands_view c.args.commands.now.items) c.loop-command.builder (rw past at c.loop-command.invariant)

pub run-returns-in-Type : goal.run-returns-in-Type
run-returns-in-Type g t c = search rules

pub run-returns-in-Custom : goal.run-returns-in-Custom
run-returns-in-Custom g t c =
    let x = custom_entry (string_bytes c.in-Custom.name) c.in-Custom.data.items in
    let e : EntersWithoutIndex c.args.builder.now c.custom.new.builder c.custom.result x = search rules in
    rw (c.without_index-in-Custom.ensures, c.in-Custom.is) (entered_nowhere c.args.builder.now c.custom.new.builder c.custom.result x (λ es. refl) e)

pub run-returns-in-RawCustom : goal.run-returns-in-RawCustom
run-returns-in-RawCustom g t c =
    let x = raw_entry c.in-RawCustom.bytes.items in
    let e : EntersWithoutIndex c.args.builder.now c.raw_custom_section.new.self c.raw_custom_section.result x = search rules in
    rw (c.without_index-in-RawCustom.ensures, c.in-RawCustom.is)
    (entered_nowhere c.args.builder.now c.raw_custom_section.new.self c.raw_custom_section.result x (λ es. refl) e)
