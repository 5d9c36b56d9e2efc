use Rattle.std.proofs.Common.{◌∷◌, [], refl}
use Rattle.wenc_base.specs.Prelude.{rec_type, serves_itself, written_text}
use Rattle.wenc_types.specs.Prelude.{ModuleRecType, is_declaration, module_declaration}
use Rattle.wenc_types.specs.Prelude.{module_space}
use Rattle.wenc_types.proofs.module_type.Declarations+ModuleTypes+A.ty.Goals as goal

pub new-requires-clause-whole : goal.new-requires-clause-whole
new-requires-clause-whole g c h = λ fits.
    rw (c.in_ok-begin.ensures.ok, written_text c.args.self.now.held (0x01 ∷ []) (rec_type h).text)
    (∣ is_declaration module_declaration module_space (ModuleRecType h) serves_itself refl fits ∣₁)
