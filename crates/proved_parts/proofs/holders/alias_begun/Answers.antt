use Rattle.std.proofs.Common.{[], ◌∷◌}
use Rattle.wenc_base.specs.Piece.{HasForm}
use Rattle.wenc_parts.specs.Aliases.{alias}
use Rattle.proved_parts.proofs.Kept.{still_has}
use Rattle.proved_parts.proofs.holders.alias_begun.Goals as goal

pub returns : goal.returns
returns g c =
    let o = c.in_ok-open.ensures.opened in
    rw o.ok (still_has (HasForm alias) c.in_ok-holder.holder _ (0x03 ∷ []) o.unfinished_first c.in_ok-holder.ensures)
