use Rattle.std.proofs.Common.{◌≡◌, ℕ}
use Rattle.wenc_parts.specs.declared.types.ComponentValType.TheVariants.{Primitive, «Type» as TypeIndex}
use Rattle.wenc_parts.specs.declared.types.PrimitiveValType.{PrimitiveValType}
use Rattle.wasm_encoder.specs.AllForms.{ValueTypes}
use Rattle.wasm_encoder.proofs.AllLawful.{laws_of}
use Rattle.wasm_encoder.proofs.laws.of_builders.indices_are_no_primitives.Goals as goal

others : (n : ℕ) (p : PrimitiveValType) → TypeIndex n ≡ Primitive p → ⊥
others n p e = absurd cc

pub returns : goal.returns
returns c n p r s lt e = others n p ((laws_of ValueTypes).delimited (TypeIndex n) (Primitive p) r s lt tt e).0
