use Rattle.std.proofs.lemmas.Iterator.Adapters.{option_map_id}
use Rattle.std.proofs.Common.{false}
use Rattle.wenc_base.specs.Prelude.{read_composite, read_option, read_u32, sub_of}
use Rattle.wenc_view.proofs.Tables.{made_of_both}
use Rattle.wenc_base.specs.Prelude.{option_lawful, option_sound, u32_lawful, u32_sound}
use Rattle.wenc_view.specs.CoreTypes.{composite_lists}
use Rattle.wenc_view.specs.laws.Lists.{behind}
use Rattle.wenc_view.proofs.composites.open.Goals as goal

pub returns-clause-found : goal.returns-clause-found
returns-clause-found c =
    made_of_both (λ n d. sub_of false n d) (read_option read_u32) read_composite _ _ _ _ _ (rw (option_map_id c.in_ok-supertype_idx.supertype_idx)
    at c.in_ok-supertype_idx.ensures.found) c.in_ok-composite_type.ensures.found

pub returns-clause-counted : goal.returns-clause-counted
returns-clause-counted c =
    behind (option_sound u32_sound) (option_lawful u32_lawful) _ _ _ (composite_lists c.in_ok-composite_type.composite_type) _
    c.in_ok-supertype_idx.ensures.found c.in_ok-composite_type.ensures.counted
