use Rattle.std.proofs.Common.{map}
use Rattle.wenc_base.specs.Prelude.{behind_bytes, list}
use Rattle.wenc_base.specs.laws.Parents.{extends_as}
use Rattle.wenc_types.specs.Prelude.{borrowed_labelled_type, labelled_type}
use Rattle.wenc_types.proofs.Serving.{borrowed_field, fields_serve}
use Rattle.wenc_types.proofs.encoders.func_type.append_named.Goals as goal

pub returns : goal.returns
returns g c =
    extends_as g.I.Iterator.next_gives c.args.values c.args.parent.now c.append_list.new.self c.append_list.result
    (g.L.Parent.appended c.args.parent.now) (g.L.Parent.refuses c.args.parent.now)
    (λ vs. behind_bytes c.args.lead.now (list borrowed_field vs)) (λ vs. behind_bytes c.args.lead.now (list labelled_type (map borrowed_labelled_type vs)))
    (fields_serve c.args.lead.now) c.append_list.ensures
