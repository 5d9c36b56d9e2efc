use Rattle.wenc_read.proofs.number.+long_groups.Given as goal

abbrev pub decreases-long_groups : goal.decreases-long_groups
decreases-long_groups l = l.room
