use Rattle.wenc_list.specs.laws.DebugNames.{names_exact, part_exact}
use Rattle.wenc_list.proofs.laws.of_names.names_are_exact.Goals as goal

pub returns-clause-names : goal.returns-clause-names
returns-clause-names c = names_exact c.args.bytes.now c.are_bytes.ensures

pub returns-clause-parts : goal.returns-clause-parts
returns-clause-parts c = part_exact c.args.bytes.now c.are_bytes.ensures
