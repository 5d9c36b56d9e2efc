-- Declarations after a count, one level deeper.
use Rattle.std.proofs.Common.{◌≡◌, ℕ, zero, suc, ◌-◌, ◌<◌, List, Ok, Err, refl}
use Rattle.std.proofs.Common.{arith}
use Rattle.wenc_base.specs.Prelude.{Flaw, read_u32, times}
use Rattle.wenc_read.specs.Prelude.{fails_on}
use Rattle.wenc_types.specs.Prelude.{ComponentDeclaration, ComponentType, DefValType, DefinedType}
use Rattle.wenc_types.specs.Prelude.{InstanceDeclaration, InstanceType, components_of, instances_of}
use Rattle.wenc_types.specs.Prelude.{read_component_declaration, read_component_type, read_defined}
use Rattle.wenc_types.specs.Prelude.{read_instance_declaration, read_instance_type, read_shallow}
use Rattle.wenc_types.specs.Prelude.{read_type}

pub shallow_ok : (ty : DefValType) (bytes rest : List ℕ) → read_defined bytes ≡ Ok (ty, rest) → read_shallow bytes ≡ Ok (DefinedType ty, rest)
shallow_ok ty bytes rest e = rw e refl

pub component_found : (d n : ℕ) (bytes middle rest : List ℕ) (ds : List ComponentDeclaration) → 0 < d → read_u32 bytes ≡ Ok (n, middle)
    → times (read_component_declaration (read_type (d - 1))) n middle ≡ Ok (ds, rest)
    → read_component_type d bytes ≡ Ok (ComponentType (components_of ds), rest)
component_found zero n bytes middle rest ds some e r = absurd (omega arith)
component_found (suc d) n bytes middle rest ds some e r = let less : suc d - 1 ≡ d = omega arith in rw (e, rw less at r) refl

pub component_fails : (d n : ℕ) (bytes middle : List ℕ) (flaw : Flaw) → 0 < d → read_u32 bytes ≡ Ok (n, middle)
    → times (read_component_declaration (read_type (d - 1))) n middle ≡ Err flaw → read_component_type d bytes ≡ Err flaw
component_fails zero n bytes middle flaw some e r = absurd (omega arith)
component_fails (suc d) n bytes middle flaw some e r = let less : suc d - 1 ≡ d = omega arith in rw e (fails_on flaw (times (read_component_declaration
    (read_type d)) n middle) _ (rw less at r))

pub instance_found : (d n : ℕ) (bytes middle rest : List ℕ) (ds : List InstanceDeclaration) → 0 < d → read_u32 bytes ≡ Ok (n, middle)
    → times (read_instance_declaration (read_type (d - 1))) n middle ≡ Ok (ds, rest)
    → read_instance_type d bytes ≡ Ok (InstanceType (instances_of ds), rest)
instance_found zero n bytes middle rest ds some e r = absurd (omega arith)
instance_found (suc d) n bytes middle rest ds some e r = let less : suc d - 1 ≡ d = omega arith in rw (e, rw less at r) refl

pub instance_fails : (d n : ℕ) (bytes middle : List ℕ) (flaw : Flaw) → 0 < d → read_u32 bytes ≡ Ok (n, middle)
    → times (read_instance_declaration (read_type (d - 1))) n middle ≡ Err flaw → read_instance_type d bytes ≡ Err flaw
instance_fails zero n bytes middle flaw some e r = absurd (omega arith)
instance_fails (suc d) n bytes middle flaw some e r = let less : suc d - 1 ≡ d = omega arith in rw e (fails_on flaw (times (read_instance_declaration
    (read_type d)) n middle) _ (rw less at r))
