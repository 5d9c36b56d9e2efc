use Rattle.std.proofs.Common.{◌≡◌, ap}
use Rattle.wenc_types.specs.Prelude.{Module, module_declaration_view, read_module_declaration}
use Rattle.wenc_view.specs.Prelude.{list_view, module_declaration_seen}
use Rattle.wenc_decode.specs.Prelude.{copies_are}
use Rattle.wenc_decode.proofs.trees.core_types.CoreTypeTreeTreeOfCoreTypeView.tree_of.Goals as goal

pub returns-in_ok-decls-in-Module : goal.returns-in_ok-decls-in-Module
returns-in_ok-decls-in-Module g c =
    rw c.in-Module.is (ap Module (copies_are
    (λ t v. module_declaration_view t ≡ module_declaration_seen v) module_declaration_seen module_declaration_view (λ t v h. h)
    c.in_ok-decls-in-Module.decls.items (list_view read_module_declaration c.in-Module.decls) c.in_ok-decls-in-Module.ensures))
