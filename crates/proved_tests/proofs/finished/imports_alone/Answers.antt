use Rattle.std.proofs.Common.{◌≡◌, ◌↔◌, List, ◌∷◌, Option, subst, ap, ◌∙◌}
use Rattle.wenc_builder.specs.Prelude.{BegunItem, Content, Namespace, Reading, Section, content_of}
use Rattle.wenc_builder.specs.Prelude.{content_with, items, namespace_at}
use Rattle.wenc_sections.specs.declared.space.Space.TheVariants as spaces
use Rattle.proved_tests.proofs.finished.imports_alone.Goals as goal

pub returns-in-Ok-clause-one_section : goal.returns-in-Ok-clause-one_section
returns-in-Ok-clause-one_section g c x es h alike mode ss =
    let law = c.one_kind_is_one_section.ensures in
    subst (λ (rs : List Section). Reading mode c.in-Ok.bytes.items ss ↔ (ss ≡ rs)) (law.one 10 x.item (items es) alike)
    (c.in-Ok.ensures.one_reading (x ∷ es) h (law.none_raw 10 (items (x ∷ es)) alike) mode ss)

pub returns-in-Ok-clause-counted : goal.returns-in-Ok-clause-counted
returns-in-Ok-clause-counted g c es h each =
    let settled : content_of c.args.builder ≡ c.args.builder.settled = ap (λ (b : Option BegunItem). content_with c.args.builder.settled b) h.finished in
    c.func_count-count.ensures ∙ (ap (λ (content : Content). (namespace_at content.spaces spaces.Funcs).count) settled
    ∙ (ap (λ (n : Namespace). n.count) (h.spaces.each spaces.Funcs) ∙ c.one_kind_is_one_section.ensures.indices spaces.Funcs
    (items es) each))
