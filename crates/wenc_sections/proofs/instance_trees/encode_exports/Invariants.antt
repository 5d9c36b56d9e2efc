use Rattle.std.proofs.Common.{take}
use Rattle.wenc_base.specs.inside.Written.{Written}
use Rattle.wenc_sections.specs.inside.InstanceTrees.{inline_export_tree}
use Rattle.wenc_sections.proofs.instance_trees.encode_exports.Given as goal

abbrev pub invariant-loop-export : goal.invariant-loop-export
invariant-loop-export g l = Written inline_export_tree l.initial.sink.items (take l.export-index l.exports) l.sink.items
