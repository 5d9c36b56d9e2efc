-- The code's trees of instances as pure instances.
use Rattle.std.specs.Prelude.{map}
use Rattle.std.specs.String.{string_bytes}
use Rattle.wenc_parts.specs.Imports.{name_tree_view}
use Rattle.wenc_sections.specs.Instances.{CoreInstance, CoreInstantiate, CoreExports}
use Rattle.wenc_sections.specs.Instances.{Instance, Instantiate, Exports, named_pair, named_triple}
use Rattle.wenc_sections.specs.declared.instance_trees.CoreInstanceTree.{CoreInstanceTree}
use Rattle.wenc_sections.specs.declared.instance_trees.CoreInstanceTree.TheVariants as core_trees
use Rattle.wenc_sections.specs.declared.instance_trees.InstanceTree.{InstanceTree}
use Rattle.wenc_sections.specs.declared.instance_trees.InstanceTree.TheVariants as trees

abbrev pub core_instance_tree_view : {A : Type 0} → CoreInstanceTree A → CoreInstance
core_instance_tree_view (core_trees.Instantiate index args) =
    CoreInstantiate index (map (named_pair string_bytes) args.items)
core_instance_tree_view (core_trees.Exports exports) =
    CoreExports (map (named_triple string_bytes) exports.items)

abbrev pub instance_tree_view : {A : Type 0} → InstanceTree A → Instance
instance_tree_view (trees.Instantiate index args) =
    Instantiate index (map (named_triple string_bytes) args.items)
instance_tree_view (trees.Exports exports) =
    Exports (map (named_triple name_tree_view) exports.items)
