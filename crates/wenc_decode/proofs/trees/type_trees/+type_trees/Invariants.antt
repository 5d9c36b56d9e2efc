use Rattle.std.proofs.Common.{◌≡◌, ◌+◌, ◌*◌, ◌++◌, map}
use Rattle.wenc_types.specs.TypeTrees.{instance_declaration_view, component_declaration_view}
use Rattle.wenc_view.specs.TypeViews.{component_members, instance_members, type_nests}
use Rattle.wenc_view.specs.TypeViews.{instance_declaration_nests, component_declaration_nests}
use Rattle.wenc_decode.proofs.trees.type_trees.+type_trees.Given as goal

abbrev pub decreases-type_tree : goal.decreases-type_tree
decreases-type_tree g l = 4 * type_nests l.view

abbrev pub decreases-instance_decl : goal.decreases-instance_decl
decreases-instance_decl g l = 4 * instance_declaration_nests l.view + 1

abbrev pub decreases-component_decl : goal.decreases-component_decl
decreases-component_decl g l = 4 * component_declaration_nests l.view + 2

abbrev pub decreases-instance_decls : goal.decreases-instance_decls
decreases-instance_decls g l = 4 * l.view.depth_left + 3

abbrev pub decreases-component_decls : goal.decreases-component_decls
decreases-component_decls g l = 4 * l.view.depth_left + 3

abbrev pub invariant-instance_decls-loop-decl : goal.invariant-instance_decls-loop-decl
invariant-instance_decls-loop-decl g l = record {
  callable : (goal.iterator-instance_decls-loop-decl g).can_next l.decl-iterator;
  finite : (goal.iterator-instance_decls-loop-decl g).is_finite l.decl-iterator;
  so_far : map instance_declaration_view l.decls.items ++ instance_members l.decl-iterator ≡ instance_members l.initial.decl-iterator;
  depth : l.decl-iterator.depth_left ≡ l.initial.decl-iterator.depth_left;
}

abbrev pub invariant-component_decls-loop-decl : goal.invariant-component_decls-loop-decl
invariant-component_decls-loop-decl g l = record {
  callable : (goal.iterator-component_decls-loop-decl g).can_next l.decl-iterator;
  finite : (goal.iterator-component_decls-loop-decl g).is_finite l.decl-iterator;
  so_far : map component_declaration_view l.decls.items ++ component_members l.decl-iterator ≡ component_members l.initial.decl-iterator;
  depth : l.decl-iterator.depth_left ≡ l.initial.decl-iterator.depth_left;
}
