use Rattle.std.proofs.Common.{sym, ◌≡◌, ◌∙◌}
use Rattle.std.proofs.lemmas.List.{map-id}
use Rattle.std.proofs.lemmas.Result.{IfOk-weaker}
use Rattle.wenc_canon.specs.Prelude.{read_canonical_option}
use Rattle.wenc_view.specs.Prelude.{list_view}
use Rattle.wenc_decode.specs.Prelude.{AreCopies, copies_are}
use Rattle.wenc_decode.proofs.trees.canonicals.options_of.Goals as goal

pub returns : goal.returns
returns g c =
    let seen = list_view read_canonical_option c.args.options in
    IfOk-weaker c.tree_of.result (λ os. AreCopies (λ t v. t ≡ v) (λ v. v) os.items seen) (λ os. os.items ≡ seen)
    (λ os h. sym (map-id os.items) ∙ copies_are (λ t v. t ≡ v) (λ v. v) (λ t. t) (λ t v e. e) os.items seen h) c.tree_of.ensures
