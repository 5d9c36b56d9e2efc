use Rattle.std.proofs.Common.{◌∷◌, [], map}
use Rattle.wenc_base.specs.laws.Parents.{whole_for}
use Rattle.wenc_types.specs.DefinedTypes.{Enumeration}
use Rattle.wenc_types.proofs.Serving.{names_serve, ends_listed_for}
use Rattle.wenc_types.proofs.encoders.defined_type.ComponentDefinedTypeEncoder.enum_type.Goals as goal

pub returns : goal.returns
returns g c = ends_listed_for g.L.Parent.appended g.L.Parent.ended g.L.Parent.refuses (names_serve (0x6d ∷ [])) c.end_with_list.ensures

pub end_with_list-requires-clause-whole : goal.end_with_list-requires-clause-whole
end_with_list-requires-clause-whole g c vs =
    whole_for g.L.Parent.is_whole g.L.Parent.appended c.args.self.parent.now (names_serve (0x6d ∷ []) vs)
    (c.args.self.whole (Enumeration (map (λ n. n.now) vs)))
