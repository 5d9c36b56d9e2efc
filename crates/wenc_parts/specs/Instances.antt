-- The arguments of instances (component model, binary format, "Instance Definitions").
use Rattle.wenc_base.specs.Piece.{Form, ◌▸◌}
use Rattle.wenc_base.specs.Number.{u32}
use Rattle.wenc_parts.specs.declared.instances.ModuleArg.{ModuleArg}
use Rattle.wenc_parts.specs.declared.instances.ModuleArg.TheVariants.{Instance}

abbrev pub module_argument : Form ModuleArg
module_argument (Instance n) = 0x12 ▸ u32 n
