use Rattle.wenc_read.proofs.number.+short_groups.Given as goal

abbrev pub decreases-short_groups : goal.decreases-short_groups
decreases-short_groups l = l.room
