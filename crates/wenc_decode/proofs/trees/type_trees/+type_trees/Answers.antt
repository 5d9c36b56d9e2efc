use Rattle.std.proofs.Common.{◌≡◌, ◌∙◌, List, refl, ap}
use Rattle.wenc_types.specs.Prelude.{ComponentDeclaration, ComponentType, FunctionType}
use Rattle.wenc_types.specs.Prelude.{InstanceDeclaration, InstanceType, LabelledType}
use Rattle.wenc_types.specs.Prelude.{component_declaration_view, components_of}
use Rattle.wenc_types.specs.Prelude.{instance_declaration_view, instances_of, labelled_type_view}
use Rattle.wenc_types.specs.Prelude.{read_labelled_type, to_function, view_component, view_instance}
use Rattle.wenc_view.specs.Prelude.{component_declaration_seen, component_members}
use Rattle.wenc_view.specs.Prelude.{instance_declaration_seen, instance_members, labelled_seen}
use Rattle.wenc_view.specs.Prelude.{list_view}
use Rattle.wenc_decode.specs.Prelude.{copies_are}
use Rattle.wenc_decode.specs.laws.Copies.{one_seen, all_seen}
use Rattle.wenc_decode.proofs.trees.type_trees.+type_trees.Goals as goal

pub instance_decls-loop-decl-init : goal.instance_decls-loop-decl-init
instance_decls-loop-decl-init g t c = record {
  callable = tt;
  finite = tt;
  so_far = rw c.in_ok-decls.ensures.items refl;
  depth = refl;
}

pub instance_decls-loop-decl-preserved : goal.instance_decls-loop-decl-preserved
instance_decls-loop-decl-preserved g t c =
    let goes = c.in-Some.ensures.goes.on c.loop-decl.invariant.finite in
    record {
      callable = goes.0;
      finite = goes.1;
      so_far = one_seen instance_declaration_view c.loop-decl.decls.items c.push.new.self.items c.in_ok-tree.tree (instance_declaration_seen c.in-Some.decl)
          (instance_members c.loop-decl.decl-iterator) (instance_members c.next.new.self) _ c.in_ok-push.ensures.items c.in_ok-tree.ensures
          c.in-Some.ensures.steps.0 c.loop-decl.invariant.so_far;
      depth = c.in-Some.ensures.steps.2 ∙ c.loop-decl.invariant.depth;
    }

pub instance_decls-returns : goal.instance_decls-returns
instance_decls-returns g t c =
    all_seen instance_declaration_view c.loop-decl.decls.items (instance_members c.loop-decl.decl-iterator)
    (instance_members c.args.view) c.in-None.ensures.steps.0
    (rw c.into_iter-decl-iterator.ensures.into_iter_gives at c.loop-decl.invariant.so_far)

pub component_decls-loop-decl-init : goal.component_decls-loop-decl-init
component_decls-loop-decl-init g t c = record {
  callable = tt;
  finite = tt;
  so_far = rw c.in_ok-decls.ensures.items refl;
  depth = refl;
}

pub component_decls-loop-decl-preserved : goal.component_decls-loop-decl-preserved
component_decls-loop-decl-preserved g t c =
    let goes = c.in-Some.ensures.goes.on c.loop-decl.invariant.finite in
    record {
      callable = goes.0;
      finite = goes.1;
      so_far = one_seen component_declaration_view c.loop-decl.decls.items c.push.new.self.items c.in_ok-tree.tree (component_declaration_seen c.in-Some.decl)
          (component_members c.loop-decl.decl-iterator) (component_members c.next.new.self) _ c.in_ok-push.ensures.items c.in_ok-tree.ensures
          c.in-Some.ensures.steps.0 c.loop-decl.invariant.so_far;
      depth = c.in-Some.ensures.steps.2 ∙ c.loop-decl.invariant.depth;
    }

pub component_decls-returns : goal.component_decls-returns
component_decls-returns g t c =
    all_seen component_declaration_view c.loop-decl.decls.items (component_members c.loop-decl.decl-iterator)
    (component_members c.args.view) c.in-None.ensures.steps.0
    (rw c.into_iter-decl-iterator.ensures.into_iter_gives at c.loop-decl.invariant.so_far)

pub type_tree-returns-in_ok-params-in-Func : goal.type_tree-returns-in_ok-params-in-Func
type_tree-returns-in_ok-params-in-Func g t c =
    rw c.in-Func.is (ap (λ (fs : List LabelledType). FunctionType (to_function c.in-Func.is_async fs c.in-Func.answer))
    (copies_are (λ t v. labelled_type_view t ≡ labelled_seen v) labelled_seen labelled_type_view (λ t v h. h) c.in_ok-params-in-Func.params.items
    (list_view read_labelled_type c.in-Func.params) c.in_ok-params-in-Func.ensures))

pub type_tree-returns-in_ok-decls-in-Component : goal.type_tree-returns-in_ok-decls-in-Component
type_tree-returns-in_ok-decls-in-Component g t c =
    rw c.in-Component.is (view_component c.in_ok-decls-in-Component.decls
    ∙ ap (λ (ds : List ComponentDeclaration). ComponentType (components_of ds)) c.in_ok-decls-in-Component.ensures)

pub type_tree-returns-in_ok-decls-in-Instance : goal.type_tree-returns-in_ok-decls-in-Instance
type_tree-returns-in_ok-decls-in-Instance g t c =
    rw c.in-Instance.is (view_instance c.in_ok-decls-in-Instance.decls
    ∙ ap (λ (ds : List InstanceDeclaration). InstanceType (instances_of ds)) c.in_ok-decls-in-Instance.ensures)
