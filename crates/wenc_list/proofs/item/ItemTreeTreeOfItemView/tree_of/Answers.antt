use Rattle.std.proofs.Common.{◌≡◌, ℕ, List, ap, sym, ◌∙◌}
use Rattle.std.proofs.lemmas.List.{map-id}
use Rattle.wenc_base.specs.reading.Numbers.{read_u32}
use Rattle.wenc_builder.specs.Item.{StartItem}
use Rattle.wenc_decode.specs.laws.Copies.{copies_are}
use Rattle.wenc_view.specs.Members.{list_view}
use Rattle.wenc_list.proofs.item.ItemTreeTreeOfItemView.tree_of.Goals as goal

pub returns-in_ok-args-in-Start : goal.returns-in_ok-args-in-Start
returns-in_ok-args-in-Start g c =
    let f = c.in-Start.function in
    let r = c.in-Start.results in
    let items = c.in_ok-args-in-Start.args.items in
    rw c.in-Start.is (ap (λ (xs : List ℕ). StartItem (record { function = f; arguments = xs; results = r }))
    (sym (map-id items) ∙ copies_are (λ t v. t ≡ v) (λ v. v) (λ t. t) (λ t v h. h) items (list_view read_u32 c.in-Start.args) c.in_ok-args-in-Start.ensures))
