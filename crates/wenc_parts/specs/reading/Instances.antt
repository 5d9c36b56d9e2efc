-- The reader of a core module's arguments.
use Rattle.std.specs.Prelude.{[], ◌∷◌}
use Rattle.wenc_base.specs.Readers.{Reader, ◌>>=◌, give, nowhere, choose}
use Rattle.wenc_base.specs.reading.Numbers.{read_u32}
use Rattle.wenc_parts.specs.declared.instances.ModuleArg.{ModuleArg}
use Rattle.wenc_parts.specs.declared.instances.ModuleArg.TheVariants.{Instance}

abbrev pub read_module_argument : Reader ModuleArg
read_module_argument = choose ((0x12, read_u32 >>= λ n. give (Instance n)) ∷ []) nowhere
