use Rattle.std.proofs.Common.{◌≡◌, List, refl, sym, ◌∙◌, ap}
use Rattle.wenc_builder.specs.Prelude.{Item, items as items_of, whole}
use Rattle.proved_tests.proofs.runs.two_runs.Goals as goal

pub returns-in-Ok-build : goal.returns-in-Ok-build
returns-in-Ok-build g c es fs ran more raw other =
    let second : whole (items_of fs) ≡ c.in-Ok-build.second.bytes.items =
    (c.in-Ok-build.ensures.one_list fs more other (items_of fs) other (c.in-Ok-build.ensures.encodable fs more)).1 refl in
    let first : whole (items_of es) ≡ c.in-Ok.first.bytes.items =
    (c.in-Ok.ensures.one_list es ran raw (items_of es) raw (c.in-Ok.ensures.encodable es ran)).1 refl in (
      λ same. sym ((c.in-Ok.ensures.one_list es ran raw (items_of fs) other (c.in-Ok-build.ensures.encodable fs more)).0 (second ∙ sym same)),
      λ same. sym first ∙ (ap whole same ∙ second),
    )
