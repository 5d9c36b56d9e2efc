use Rattle.wenc_base.specs.laws.Serves.{serves_itself}
use Rattle.wenc_builder.specs.Item.{TypeItem}
use Rattle.wenc_builder.proofs.Texts.{item_piece}
use Rattle.wenc_builder.proofs.builder.ComponentBuilder.ty.Goals as goal

pub new-requires-clause-whole : goal.new-requires-clause-whole
new-requires-clause-whole g c t fits = rw c.in_ok-index.ensures.ok (item_piece (TypeItem t) serves_itself fits)
