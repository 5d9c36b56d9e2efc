use Rattle.std.proofs.Common.{rules, ◌∙◌}
use Rattle.wenc_base.specs.declared.imports.EntityType.TheVariants.{Table, Global}
use Rattle.wenc_base.specs.reading.Entities.{read_table_type, read_global_type}
use Rattle.wenc_read.specs.laws.Tables.{at_first}
use Rattle.wenc_view.proofs.Tables.{made_of}
use Rattle.wenc_view.proofs.entities.EntityTypeView.view_of.Goals as goal

pub returns-in_ok-ty-in-1-default-clause-found : goal.returns-in_ok-ty-in-1-default-clause-found
returns-in_ok-ty-in-1-default-clause-found c = at_first _ _ 0x01 _ _ _ c.in_ok-rest.ensures.found (search rules)
    ∙ made_of Table read_table_type _ _ _ c.in_ok-ty-in-1-default.ensures.found

pub returns-in_ok-ty-in-3-default-clause-found : goal.returns-in_ok-ty-in-3-default-clause-found
returns-in_ok-ty-in-3-default-clause-found c = at_first _ _ 0x03 _ _ _ c.in_ok-rest.ensures.found (search rules)
    ∙ made_of Global read_global_type _ _ _ c.in_ok-ty-in-3-default.ensures.found
