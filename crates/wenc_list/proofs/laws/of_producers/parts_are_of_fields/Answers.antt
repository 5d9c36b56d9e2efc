use Rattle.wenc_list.specs.laws.Producers.{fields_found, parts_are_read}
use Rattle.wenc_list.proofs.laws.of_producers.parts_are_of_fields.Goals as goal

pub returns-clause-found : goal.returns-clause-found
returns-clause-found c = fields_found

pub returns-clause-read : goal.returns-clause-read
returns-clause-read c = parts_are_read
