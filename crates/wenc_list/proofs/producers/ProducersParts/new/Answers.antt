use Rattle.std.proofs.Common.{refl, rules}
use Rattle.wenc_list.proofs.Parts.{number_read, no_number}
use Rattle.wenc_list.specs.Producers.{IsNoNumber}
use Rattle.wenc_list.proofs.producers.ProducersParts.new.Goals as goal

pub returns-clause-read : goal.returns-clause-read
returns-clause-read c = (refl, number_read c.in_ok-fields.fields c.args.bytes.now c.in_ok-fields.rest.now c.in_ok-fields.ensures.found)

pub returns-in_err-fields-clause-fault : goal.returns-in_err-fields-clause-fault
returns-in_err-fields-clause-fault c =
    let t : IsNoNumber c.args.bytes.now = no_number c.args.bytes.now c.in_err-fields.ensures.found in
    search rules
