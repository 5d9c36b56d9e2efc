use Rattle.std.proofs.Common.{◌≡◌, Result, Ok, Err, IfErr}
use Rattle.wenc_base.specs.Readers.{Flaw, Bad}
use Rattle.wenc_list.specs.Producers.{producers_parts}
use Rattle.wenc_read.specs.declared.refusal.Refusal.{Refusal}
use Rattle.proved_lists.proofs.read.producers_read.Goals as goal

never : {X A : Type 0} (r : Result X Refusal) (found : Result A Flaw) (v : A) → found ≡ Ok v
    → IfErr r (λ e. found ≡ Err Bad) → IfErr r (λ e. ⊥)
never (Ok x) found v e h = tt
never (Err f) found v e h = absurd cc

pub returns-clause-never : goal.returns-clause-never
returns-clause-never c = λ fields reads. never c.new.result _ (producers_parts fields) (c.parts_are_of_fields.ensures.found fields c.args.bytes.now reads) c.new.ensures.unread
