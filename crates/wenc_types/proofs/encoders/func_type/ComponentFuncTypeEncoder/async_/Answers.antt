use Rattle.std.proofs.Common.{subst, rules}
use Rattle.wenc_types.specs.Prelude.{FuncStage, RestMakesWhole}
use Rattle.wenc_types.specs.laws.FuncStages.{tag_goes_on}
use Rattle.wenc_types.proofs.encoders.func_type.ComponentFuncTypeEncoder.async_.Goals as goal
use Rattle.wenc_types.proofs.encoders.func_type.ComponentFuncTypeEncoder.async_.Goals.{then-is_async, else-is_async}

pub invariant_of-self-2 : goal.invariant_of-self-2
invariant_of-self-2 g c =
    let parent = c.args.self.now.parent.now in
    record {
      going_on = search rules;
      whole = tag_goes_on g.L.Parent.is_whole g.L.Parent.appended g.L.Parent.joins parent c.append_value.new.self c.args.is_async
          (elim c.if-is_async.branch [ then-is_async w ↦ search rules | else-is_async w ↦ search rules ])
          (subst (λ (s : FuncStage). RestMakesWhole g.L.Parent.is_whole g.L.Parent.appended s parent) c.requires c.args.self.now.whole);
    }
