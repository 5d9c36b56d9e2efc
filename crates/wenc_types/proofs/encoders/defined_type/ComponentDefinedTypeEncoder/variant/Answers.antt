use Rattle.std.proofs.Common.{map, rules}
use Rattle.wenc_base.specs.Prelude.{list, ◌▸◌}
use Rattle.wenc_base.specs.laws.Parents.{made_of, whole_for}
use Rattle.wenc_types.specs.Prelude.{Variant}
use Rattle.wenc_types.proofs.Serving.{made_case, case_of, seen_case, made_cases_serve, cases_serve, ends_listed_for}
use Rattle.wenc_types.proofs.encoders.defined_type.ComponentDefinedTypeEncoder.variant.Goals as goal

pub returns : goal.returns
returns g c =
    let parent = c.args.self.parent.now in
    ends_listed_for g.L.Parent.appended g.L.Parent.ended g.L.Parent.refuses cases_serve
    (made_of g.C.Iterator.next_gives c.args.cases _ c.map.result parent c.end_with_list.new.self c.end_with_list.result
    (λ bytes. g.L.Parent.ended (g.L.Parent.appended parent bytes)) (g.L.Parent.refuses parent)
    (λ cs. 0x71 ▸ list case_of cs) made_case
    (λ p t e. let q = c.map.ensures.runs p t e in (q.0, q.1, (q.2.0, q.2.3 made_case (search rules))))
    c.end_with_list.ensures)

pub end_with_list-requires-clause-whole : goal.end_with_list-requires-clause-whole
end_with_list-requires-clause-whole g c vs =
    whole_for g.L.Parent.is_whole g.L.Parent.appended c.args.self.parent.now (made_cases_serve vs) (c.args.self.whole (Variant (map seen_case vs)))
