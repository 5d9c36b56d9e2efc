-- Commands as pure data.
use Rattle.std.specs.Prelude.{ℕ, List, [], ◌∷◌, None, Option, String}
use Rattle.std.specs.Option.{option_map}
use Rattle.std.specs.String.{string_bytes}
use Rattle.wenc_builder.specs.Entry.{Entry, entry, canonical_tree_entry, custom_entry}
use Rattle.wenc_builder.specs.Entry.{export_entry, import_entry, start_entry}
use Rattle.wenc_builder.specs.Item.{Item, ModuleItem, CoreInstanceItem, CoreTypeItem}
use Rattle.wenc_builder.specs.Item.{ComponentItem}
use Rattle.wenc_builder.specs.Item.{InstanceItem, AliasItem, TypeItem, RawItem}
use Rattle.wenc_sections.specs.CanonTrees.{canon_view}
use Rattle.wenc_parts.specs.Aliases.{alias_tree_view}
use Rattle.wenc_parts.specs.Imports.{name_tree_view}
use Rattle.wenc_sections.specs.InstanceTrees.{core_instance_tree_view, instance_tree_view}
use Rattle.wenc_types.specs.CoreTypeTrees.{core_type_view}
use Rattle.wenc_types.specs.TypeTrees.{type_view}
use Rattle.wasm_encoder.specs.declared.command.Command.{Command, Row_of-Command, end_of-Command}
use Rattle.wasm_encoder.specs.declared.command.Command.{more_of-Command, CoreModule, CoreInstance}
use Rattle.wasm_encoder.specs.declared.command.Command.{CoreType, Component', ComponentRaw}
use Rattle.wasm_encoder.specs.declared.command.Command.{Instance, Alias, «Type», Canon, Start}
use Rattle.wasm_encoder.specs.declared.command.Command.{Import, Export, Custom, RawCustom}
use Rattle.wasm_encoder.specs.declared.command.Command as commands

mutual
  -- a call of a builder
  pub data CommandTree : Type 0 where
    -- one that adds this entry
    Add : (entry : Entry) → CommandTree
    -- one that adds a nested component, by the calls that build it
    Nest : (debug_name : Option (List ℕ)) (inner : Commands) → CommandTree
    -- one that adds the debug names so far
    AppendNames : CommandTree

  -- a list of them
  pub data Commands : Type 0 where
    no_more : Commands
    then : (first : CommandTree) (rest : Commands) → Commands

abbrev pub commands_listed : Commands → List CommandTree
commands_listed no_more = []
commands_listed (then c cs) = c ∷ commands_listed cs

-- ---- the code's commands as pure ones

-- one that adds this item under this debug name, or without
abbrev pub adding : {A : Type 0} → Item → Option (String A) → CommandTree
adding item name = Add (entry item (option_map string_bytes name))

abbrev mutual
  pub command_view : {A : Type 0} → Command A → CommandTree
  command_view (CoreModule n bytes) = adding (ModuleItem bytes.items) n
  command_view (CoreInstance n i) = adding (CoreInstanceItem (core_instance_tree_view i)) n
  command_view (CoreType n ty) = adding (CoreTypeItem (core_type_view ty.value)) n
  command_view (Component' n shape inner) = Nest (option_map string_bytes n) (row_view inner)
  command_view (ComponentRaw n bytes) = adding (ComponentItem bytes.items) n
  command_view (Instance n i) = adding (InstanceItem (instance_tree_view i)) n
  command_view (Alias n alias) = adding (AliasItem (alias_tree_view alias)) n
  command_view («Type» n ty) = adding (TypeItem (type_view ty)) n
  command_view (Canon n canon) =
      Add (canonical_tree_entry (option_map string_bytes n) (canon_view canon))
  command_view (Start function args results) = Add (start_entry function args.items results)
  command_view (Import name ty) = Add (import_entry (name_tree_view name) ty)
  command_view (Export name kind index ty) = Add (export_entry (name_tree_view name) kind index ty)
  command_view commands.AppendNames = AppendNames
  command_view (Custom name bytes) = Add (custom_entry (string_bytes name) bytes.items)
  command_view (RawCustom bytes) = Add (entry (RawItem bytes.items) None)

  -- those of a nested component
  pub row_view : {A : Type 0} {m : _} → Row_of-Command A m → Commands
  row_view end_of-Command = no_more
  row_view (more_of-Command c rest) = then (command_view c) (row_view rest)
