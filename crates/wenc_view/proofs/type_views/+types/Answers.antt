use Rattle.std.proofs.Common.{◌≡◌, ◌-◌, ◌++◌, ◌∷◌, [], Ok, arith, rules}
use Rattle.std.proofs.lemmas.Result.{err_from_is_err_and}
use Rattle.wenc_base.specs.Prelude.{Bad, give, times}
use Rattle.wenc_read.specs.laws.Tables.{past_rows}
use Rattle.wenc_types.specs.Prelude.{DefinedType, one_level, read_component_declaration}
use Rattle.wenc_types.specs.Prelude.{read_component_type, read_defined, read_instance_declaration}
use Rattle.wenc_types.specs.Prelude.{read_instance_type, read_shallow, read_type, type_rows}
use Rattle.wenc_view.specs.Prelude.{at_start, component_declaration_seen, list_counted}
use Rattle.wenc_view.specs.Prelude.{instance_declaration_seen, is_done, members_are, stops}
use Rattle.wenc_view.specs.Prelude.{times_go_on}
use Rattle.wenc_read.specs.Prelude.{fails_on, flaw_of}
use Rattle.wenc_view.proofs.Nested.{component_found, component_fails, instance_found}
use Rattle.wenc_view.proofs.Nested.{instance_fails, shallow_ok}
use Rattle.wenc_view.specs.CoreTypes.{core_type_lists}
use Rattle.wenc_view.specs.TypeViews.{instance_declaration_lists, type_lists}
use Rattle.wenc_view.specs.laws.Lists.{behind_byte, if_behind_byte}
use Rattle.wenc_view.proofs.type_views.+types.Goals as goal

pub instance_decls-loop-init : goal.instance_decls-loop-init
instance_decls-loop-init t c = ([], at_start (read_instance_declaration (read_type c.args.depth_left)) c.args.count c.args.bytes.now, omega arith)

pub instance_decls-returns-in-Err-clause-found : goal.instance_decls-returns-in-Err-clause-found
instance_decls-returns-in-Err-clause-found t c =
    let read = read_instance_declaration (read_type c.args.depth_left) in
    (rw c.of_many.ensures.flaw (stops (flaw_of c.in-Err.refusal) read c.loop.invariant.0 c.args.count c.loop.counter c.loop.rest.now
    (times read c.args.count c.args.bytes.now) c.loop-test.true c.in-Err.ensures.found c.loop.invariant.1))

pub instance_decls-loop-preserved : goal.instance_decls-loop-preserved
instance_decls-loop-preserved t c =
    let read = read_instance_declaration (read_type c.args.depth_left) in
    let v = instance_declaration_seen c.in-Ok.field-0-0 in (
      c.loop.invariant.0 ++ v ∷ [],
      times_go_on read c.loop.invariant.0 c.args.count c.loop.counter c.loop.rest.now v c.in-Ok.after.now
          (times read c.args.count c.args.bytes.now) c.loop-test.true c.in-Ok.ensures.found c.loop.invariant.1,
      search rules,
    )

pub instance_decls-returns-clause-found : goal.instance_decls-returns-clause-found
instance_decls-returns-clause-found t c =
    let read = read_instance_declaration (read_type c.args.depth_left) in
    let done : times read c.args.count c.args.bytes.now ≡ Ok (c.loop.invariant.0, c.loop.rest.now) = is_done read c.loop.invariant.0 c.args.count c.loop.counter
    c.loop.rest.now (times read c.args.count c.args.bytes.now) c.loop-test.false c.loop.invariant.1 in
    rw (members_are read c.args.count c.args.bytes.now c.loop.invariant.0 c.loop.rest.now done) done

pub instance_type-returns-in_err-rest-clause-found : goal.instance_type-returns-in_err-rest-clause-found
instance_type-returns-in_err-rest-clause-found t c =
    let p = err_from_is_err_and c.from_residual-in_err-rest.result c.from_residual-in_err-rest.ensures.1 in
    rw (p.1, p.2) (instance_fails c.args.depth_left c.in_ok-left.left c.args.bytes.now c.in_ok-left.start.now (flaw_of c.in_err-rest.field-0.0)
    (omega arith) c.in_ok-left.ensures.found c.in_err-rest.ensures.found)

pub instance_type-returns-clause-counted : goal.instance_type-returns-clause-counted
instance_type-returns-clause-counted t c =
    list_counted (read_instance_declaration (read_type (c.args.depth_left - 1))) c.in_ok-left.left c.args.bytes.now c.in_ok-left.start.now _ c.in_ok-rest.rest.now
    c.in_ok-left.ensures.found c.in_ok-rest.ensures.found

pub instance_type-returns-clause-found : goal.instance_type-returns-clause-found
instance_type-returns-clause-found t c = instance_found c.args.depth_left c.in_ok-left.left c.args.bytes.now c.in_ok-left.start.now c.in_ok-rest.rest.now _
    (omega arith) c.in_ok-left.ensures.found c.in_ok-rest.ensures.found

pub component_decls-loop-init : goal.component_decls-loop-init
component_decls-loop-init t c = ([], at_start (read_component_declaration (read_type c.args.depth_left)) c.args.count c.args.bytes.now, omega arith)

pub component_decls-returns-in-Err-clause-found : goal.component_decls-returns-in-Err-clause-found
component_decls-returns-in-Err-clause-found t c =
    let read = read_component_declaration (read_type c.args.depth_left) in
    (rw c.of_many.ensures.flaw (stops (flaw_of c.in-Err.refusal) read c.loop.invariant.0 c.args.count c.loop.counter c.loop.rest.now
    (times read c.args.count c.args.bytes.now) c.loop-test.true c.in-Err.ensures.found c.loop.invariant.1))

pub component_decls-loop-preserved : goal.component_decls-loop-preserved
component_decls-loop-preserved t c =
    let read = read_component_declaration (read_type c.args.depth_left) in
    let v = component_declaration_seen c.in-Ok.field-0-0 in (
      c.loop.invariant.0 ++ v ∷ [],
      times_go_on read c.loop.invariant.0 c.args.count c.loop.counter c.loop.rest.now v c.in-Ok.after.now
          (times read c.args.count c.args.bytes.now) c.loop-test.true c.in-Ok.ensures.found c.loop.invariant.1,
      search rules,
    )

pub component_decls-returns-clause-found : goal.component_decls-returns-clause-found
component_decls-returns-clause-found t c =
    let read = read_component_declaration (read_type c.args.depth_left) in
    let done : times read c.args.count c.args.bytes.now ≡ Ok (c.loop.invariant.0, c.loop.rest.now) = is_done read c.loop.invariant.0 c.args.count c.loop.counter
    c.loop.rest.now (times read c.args.count c.args.bytes.now) c.loop-test.false c.loop.invariant.1 in
    rw (members_are read c.args.count c.args.bytes.now c.loop.invariant.0 c.loop.rest.now done) done

pub component_type-returns-in_err-rest-clause-found : goal.component_type-returns-in_err-rest-clause-found
component_type-returns-in_err-rest-clause-found t c =
    let p = err_from_is_err_and c.from_residual-in_err-rest.result c.from_residual-in_err-rest.ensures.1 in
    rw (p.1, p.2) (component_fails c.args.depth_left c.in_ok-left.left c.args.bytes.now c.in_ok-left.start.now (flaw_of c.in_err-rest.field-0.0)
    (omega arith) c.in_ok-left.ensures.found c.in_err-rest.ensures.found)

pub component_type-returns-clause-counted : goal.component_type-returns-clause-counted
component_type-returns-clause-counted t c =
    list_counted (read_component_declaration (read_type (c.args.depth_left - 1))) c.in_ok-left.left c.args.bytes.now c.in_ok-left.start.now _ c.in_ok-rest.rest.now
    c.in_ok-left.ensures.found c.in_ok-rest.ensures.found

pub component_type-returns-clause-found : goal.component_type-returns-clause-found
component_type-returns-clause-found t c = component_found c.args.depth_left c.in_ok-left.left c.args.bytes.now c.in_ok-left.start.now c.in_ok-rest.rest.now _
    (omega arith) c.in_ok-left.ensures.found c.in_ok-rest.ensures.found

pub type_at-returns-in_ok-ty-in_default-clause-found : goal.type_at-returns-in_ok-ty-in_default-clause-found
type_at-returns-in_ok-ty-in_default-clause-found t c =
    rw (
      one_level c.args.depth_left,
      past_rows (type_rows (read_component_type c.args.depth_left) (read_instance_type c.args.depth_left)) read_shallow _ _ _
          c.in_ok-rest.ensures.found (search rules, (search rules, (search rules, (search rules, (search rules, tt))))),
    )
    (shallow_ok _ c.args.bytes.now c.in_ok-ty-in_default.rest.now c.in_ok-ty-in_default.ensures.found)

pub type_at-returns-in_err-ty-in_default-clause-found : goal.type_at-returns-in_err-ty-in_default-clause-found
type_at-returns-in_err-ty-in_default-clause-found t c =
    let p = err_from_is_err_and c.from_residual-in_err-ty-in_default.result c.from_residual-in_err-ty-in_default.ensures.1 in
    rw (
      p.1,
      p.2,
      one_level c.args.depth_left,
      past_rows (type_rows (read_component_type c.args.depth_left) (read_instance_type c.args.depth_left)) read_shallow
          _ _ _ c.in_ok-rest.ensures.found (search rules, (search rules, (search rules, (search rules, (search rules, tt))))),
    )
    (fails_on Bad (read_defined c.args.bytes.now) (λ ty. give (DefinedType ty)) c.in_err-ty-in_default.ensures.found)

pub type_at-returns-in-65-default-clause-counted : goal.type_at-returns-in-65-default-clause-counted
type_at-returns-in-65-default-clause-counted t c = if_behind_byte (λ x. type_lists x.0) (λ x. x.1.now) _ _ _ c.component_type.result c.in_ok-rest.ensures.found c.component_type.ensures.counted

pub type_at-returns-in-66-default-clause-counted : goal.type_at-returns-in-66-default-clause-counted
type_at-returns-in-66-default-clause-counted t c = if_behind_byte (λ x. type_lists x.0) (λ x. x.1.now) _ _ _ c.instance_type.result c.in_ok-rest.ensures.found c.instance_type.ensures.counted

pub type_at-returns-in_ok-function_type-in-64-default-clause-counted : goal.type_at-returns-in_ok-function_type-in-64-default-clause-counted
type_at-returns-in_ok-function_type-in-64-default-clause-counted t c = behind_byte _ _ _ (type_lists c.in_ok-function_type-in-64-default.field-0.0) _ c.in_ok-rest.ensures.found c.in_ok-function_type-in-64-default.ensures.counted

pub type_at-returns-in_ok-function_type-in-67-default-clause-counted : goal.type_at-returns-in_ok-function_type-in-67-default-clause-counted
type_at-returns-in_ok-function_type-in-67-default-clause-counted t c = behind_byte _ _ _ (type_lists c.in_ok-function_type-in-67-default.field-0.0) _ c.in_ok-rest.ensures.found c.in_ok-function_type-in-67-default.ensures.counted

pub type_at-returns-in_ok-resource_type-in-63-default-clause-counted : goal.type_at-returns-in_ok-resource_type-in-63-default-clause-counted
type_at-returns-in_ok-resource_type-in-63-default-clause-counted t c = behind_byte _ _ _ (type_lists c.in_ok-resource_type-in-63-default.field-0.0) _ c.in_ok-rest.ensures.found c.in_ok-resource_type-in-63-default.ensures.counted

pub instance_decl-returns-in_ok-ty-in-0-default-clause-counted : goal.instance_decl-returns-in_ok-ty-in-0-default-clause-counted
instance_decl-returns-in_ok-ty-in-0-default-clause-counted t c = behind_byte _ _ _ (core_type_lists c.in_ok-ty-in-0-default.ty) _ c.in_ok-rest.ensures.found c.in_ok-ty-in-0-default.ensures.counted

pub instance_decl-returns-in_ok-ty-in-1-default-clause-counted : goal.instance_decl-returns-in_ok-ty-in-1-default-clause-counted
instance_decl-returns-in_ok-ty-in-1-default-clause-counted t c = behind_byte _ _ _ (type_lists c.in_ok-ty-in-1-default.ty) _ c.in_ok-rest.ensures.found c.in_ok-ty-in-1-default.ensures.counted

pub instance_decl-returns-in_ok-exported-in-4-default-clause-counted : goal.instance_decl-returns-in_ok-exported-in-4-default-clause-counted
instance_decl-returns-in_ok-exported-in-4-default-clause-counted t c = behind_byte _ _ _ (instance_declaration_lists c.in_ok-exported-in-4-default.field-0.0) _ c.in_ok-rest.ensures.found c.in_ok-exported-in-4-default.ensures.counted
