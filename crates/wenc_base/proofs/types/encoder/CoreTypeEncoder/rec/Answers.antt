use Rattle.std.proofs.Common.{◌∷◌, [], map}
use Rattle.wenc_base.specs.Prelude.{Rec, list, listed_serves, rec_type, serves_itself, sub_type}
use Rattle.wenc_base.specs.Prelude.{sub_view, ◌▸◌}
use Rattle.wenc_base.specs.laws.Parents.{extends_as}
use Rattle.wenc_base.proofs.Ended.{group_ends}
use Rattle.wenc_base.proofs.types.encoder.CoreTypeEncoder.rec.Goals as goal

pub returns : goal.returns
returns g c =
    extends_as g.I.Iterator.next_gives c.args.types c.args.self.parent.now c.end_with_list.new.self c.end_with_list.result
    (λ bytes. g.L.Parent.ended (g.L.Parent.appended c.args.self.parent.now bytes)) (g.L.Parent.refuses c.args.self.parent.now)
    (λ vs. 0x4e ▸ list (λ s. sub_type (sub_view s.now)) vs) (λ ts. rec_type (Rec (map (λ s. sub_view s.now) ts)))
    (listed_serves (λ s. sub_type (sub_view s.now)) (λ s. sub_view s.now) sub_type (λ s. serves_itself) (0x4e ∷ [])) c.end_with_list.ensures

pub end_with_list-requires-clause-whole : goal.end_with_list-requires-clause-whole
end_with_list-requires-clause-whole g c vs =
    group_ends g.L.Parent.is_whole g.L.Parent.appended (λ s. sub_view s.now) c.args.self.parent.now c.args.self.guard c.args.self.whole vs
