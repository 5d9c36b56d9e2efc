-- The law of what a core module is given.
use Rattle.std.proofs.Common.{refl}
use Rattle.wenc_base.specs.Prelude.{Lawful, Sound, choose_tells, last, last_tells, nowhere_tells}
use Rattle.wenc_base.specs.Prelude.{row_lawful, u32_lawful, u32_sound}
use Rattle.wenc_parts.specs.declared.instances.ModuleArg.{ModuleArg}
use Rattle.wenc_parts.specs.declared.instances.ModuleArg.TheVariants.{Instance}
use Rattle.wenc_parts.specs.Instances.{module_argument}
use Rattle.wenc_parts.specs.reading.Instances.{read_module_argument}

pub module_argument_lawful : (argument : ModuleArg) → Lawful (module_argument argument)
    (λ fuel. read_module_argument) argument
module_argument_lawful (Instance n) = row_lawful _ _ 0x12 (last Instance (u32_lawful n))

pub module_argument_sound : Sound module_argument read_module_argument
module_argument_sound = choose_tells _ _
    (last_tells Instance u32_sound (λ n bytes rest r. (bytes, refl, r)), tt) nowhere_tells
