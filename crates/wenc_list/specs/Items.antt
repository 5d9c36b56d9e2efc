-- The code's items and sections as pure ones.
use Rattle.std.specs.Prelude.{ℕ, List, [], ◌∷◌, map, if◌then◌else◌}
use Rattle.std.specs.String.{string_bytes}
use Rattle.wenc_base.specs.reading.Numbers.{read_u32}
use Rattle.wenc_builder.specs.Item.{Item, ModuleItem, CoreInstanceItem, CoreTypeItem, ComponentItem}
use Rattle.wenc_builder.specs.Item.{InstanceItem, AliasItem, TypeItem, CanonItem, StartItem}
use Rattle.wenc_builder.specs.Item.{ImportItem, ExportItem, CustomItem}
use Rattle.wenc_builder.specs.Sections.{Section, Run, Alone, collects}
use Rattle.wenc_sections.specs.CanonTrees.{canon_view}
use Rattle.wenc_parts.specs.Aliases.{alias_view, alias_tree_view}
use Rattle.wenc_parts.specs.Imports.{name_tree_view}
use Rattle.wenc_sections.specs.InstanceTrees.{core_instance_tree_view, instance_tree_view}
use Rattle.wenc_types.specs.CoreTypeTrees.{core_type_view}
use Rattle.wenc_types.specs.TypeTrees.{type_view}
use Rattle.wenc_view.specs.Canonicals.{canon_lists, canon_seen}
use Rattle.wenc_view.specs.CoreTypes.{core_type_lists, core_type_seen}
use Rattle.wenc_view.specs.Instances.{core_instance_lists, core_instance_seen}
use Rattle.wenc_view.specs.Instances.{instance_lists, instance_seen}
use Rattle.wenc_view.specs.Members.{Place, list_view, place_of}
use Rattle.wenc_view.specs.ExternNames.{name_seen}
use Rattle.wenc_view.specs.TypeViews.{type_lists, type_seen}
use Rattle.wenc_list.specs.declared.item.ItemTree.{ItemTree}
use Rattle.wenc_list.specs.declared.item.ItemTree.TheVariants as trees
use Rattle.wenc_list.specs.declared.item_view.ItemView.{ItemView}
use Rattle.wenc_list.specs.declared.item_view.ItemView.TheVariants as views
use Rattle.wenc_list.specs.declared.listing.ListedSection.{ListedSection}

abbrev pub item_view : {A : Type 0} → ItemTree A → Item
item_view (trees.Module bytes) = ModuleItem bytes.items
item_view (trees.CoreInstance instance) = CoreInstanceItem (core_instance_tree_view instance)
item_view (trees.CoreType ty) = CoreTypeItem (core_type_view ty.value)
item_view (trees.Component bytes) = ComponentItem bytes.items
item_view (trees.Instance instance) = InstanceItem (instance_tree_view instance)
item_view (trees.Alias alias) = AliasItem (alias_tree_view alias)
item_view (trees.«Type» ty) = TypeItem (type_view ty)
item_view (trees.Canon canon) = CanonItem (canon_view canon)
item_view (trees.Start function args results) =
    StartItem (record { function = function; arguments = args.items; results = results })
item_view (trees.Import name ty) = ImportItem (record { name = name_tree_view name; ty = ty })
item_view (trees.Export name kind index ty) =
    ExportItem (record { name = name_tree_view name; kind = kind; index = index; ty = ty })
item_view (trees.Custom name bytes) =
    CustomItem (record { label = string_bytes name; bytes = bytes.items })

-- the same of an item that borrows
abbrev pub item_seen : ItemView → Item
item_seen (views.Module bytes) = ModuleItem bytes.now
item_seen (views.CoreInstance instance) = CoreInstanceItem (core_instance_seen instance)
item_seen (views.CoreType ty) = CoreTypeItem (core_type_seen ty)
item_seen (views.Component bytes) = ComponentItem bytes.now
item_seen (views.Instance instance) = InstanceItem (instance_seen instance)
item_seen (views.Alias to) = AliasItem (alias_view to)
item_seen (views.«Type» ty) = TypeItem (type_seen ty)
item_seen (views.Canon canon) = CanonItem (canon_seen canon)
item_seen (views.Start function args results) =
    StartItem
    (record { function = function; arguments = list_view read_u32 args; results = results })
item_seen (views.Import name ty) = ImportItem (record { name = name_seen name; ty = ty })
item_seen (views.Export name kind index ty) =
    ExportItem (record { name = name_seen name; kind = kind; index = index; ty = ty })
item_seen (views.Custom name bytes) =
    CustomItem (record { label = name.now; bytes = bytes.now })

-- where the lists of an item are
abbrev pub item_lists : ItemView → List Place
item_lists (views.CoreInstance instance) = core_instance_lists instance
item_lists (views.CoreType ty) = core_type_lists ty
item_lists (views.Instance instance) = instance_lists instance
item_lists (views.«Type» ty) = type_lists ty
item_lists (views.Canon canon) = canon_lists canon
item_lists (views.Start function args results) = place_of read_u32 args ∷ []
item_lists other = []

-- an item that is a section of its own
abbrev pub alone : ℕ → List Item → Section
alone id [] = Run id []
alone id (x ∷ []) = Alone x
alone id (x ∷ y ∷ xs) = Run id (x ∷ y ∷ xs)

-- the section with this id and these items
abbrev pub item_section : ℕ → List Item → Section
item_section id xs = if collects id then Run id xs else alone id xs

abbrev pub section_view : {A : Type 0} → ListedSection A → Section
section_view s = item_section s.id (map item_view s.items.items)
