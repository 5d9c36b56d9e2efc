use Rattle.std.proofs.Common.{◌∷◌, [], refl}
use Rattle.wenc_base.specs.Prelude.{serves_itself, written_text}
use Rattle.wenc_types.specs.Prelude.{FunctionType, Typed, function_type, is_declared}
use Rattle.wenc_types.proofs.declarations.Declarations.type_function.Goals as goal

pub new-requires-clause-whole : goal.new-requires-clause-whole
new-requires-clause-whole g c t = λ fits.
    let d = Typed (FunctionType t) in
    let is = is_declared g.K.DeclaredKind.form g.K.DeclaredKind.space d serves_itself refl _ (g.met.K.DeclaringKind.declares d) fits in
    rw (c.in_ok-begin.ensures.ok, written_text c.args.self.now.held (0x01 ∷ []) (function_type t).text) (∣ is ∣₁)
