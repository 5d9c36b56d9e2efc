use Rattle.wenc_types.specs.laws.FuncStages.{params_go_on}
use Rattle.wenc_types.specs.DefinedTypes.{borrowed_labelled_type}
use Rattle.std.proofs.Common.{rules, map}
use Rattle.wenc_types.proofs.encoders.func_type.ComponentFuncTypeEncoder.params.Goals as goal

pub returns-in-Ok-clause-appended : goal.returns-in-Ok-clause-appended
returns-in-Ok-clause-appended g c = rw (← c.lead.ensures) c.in-Ok.ensures

pub returns-in-Err-clause-appended : goal.returns-in-Err-clause-appended
returns-in-Err-clause-appended g c = rw (← c.lead.ensures) c.in-Err.ensures

pub invariant_of-self : goal.invariant_of-self
invariant_of-self g c =
    let added = (rw (c.lead.ensures) at c.in-Ok.ensures.ok) in
    record {
      going_on = search rules;
      whole = params_go_on g.L.Parent.is_whole g.L.Parent.appended g.L.Parent.joins c.args.self.now.parent.now c.append_named.new.parent
          c.args.self.now.stage (map borrowed_labelled_type added.0.items) c.requires.stage
          added.3.state added.3.fits c.args.self.now.whole;
    }

pub invariant_of-self-in-Err : goal.invariant_of-self-in-Err
invariant_of-self-in-Err g c = search rules

pub returns-in-Err-clause-back : goal.returns-in-Err-clause-back
returns-in-Err-clause-back g c = search rules
