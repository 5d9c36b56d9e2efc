use Rattle.std.proofs.Common.{◌∙◌, rules}
use Rattle.std.proofs.lemmas.List.{take_at}
use Rattle.wenc_base.specs.laws.Serves.{still_warranted, member_among}
use Rattle.wenc_builder.specs.DebugNames.{space_names}
use Rattle.wenc_builder.proofs.builder.debug_names.SubsectionsEncode.encode.Goals as goal

pub returns-in-Ok-clause-appended : goal.returns-in-Ok-clause-appended
returns-in-Ok-clause-appended g c =
    let all = member_among (λ n. (space_names (n.0, n.1.now)).Cause) c.args.self.now.0 in
    record {
      ok = c.in-Ok.ensures.ok.items;
      encodable = λ fault h. all.1 c.in-Ok.ensures.ok.no_cause fault h;
      err = tt;
      warranted = tt;
      unfinished_first = λ u. absurd u;
    }

pub returns-in-Err-clause-appended : goal.returns-in-Err-clause-appended
returns-in-Err-clause-appended g c =
    let all = member_among (λ n. (space_names (n.0, n.1.now)).Cause) c.args.self.now.0 in
    record {
      ok = tt;
      encodable = λ fault h. tt;
      err = c.truncate.ensures.items ∙ rw c.in-Err.ensures.err.1 (take_at c.args.sink.now.items c.in-Err.ensures.err.0 c.len-start.result (search rules));
      warranted = still_warranted _ _ all.0 c.in-Err.fault c.in-Err.ensures.warranted;
      unfinished_first = λ u. absurd u;
    }
