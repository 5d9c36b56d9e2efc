use Rattle.wenc_sections.proofs.canon_tree.Operands.encode_behind.Goals as goal

pub returns-in-Lifted-clause-appended : goal.returns-in-Lifted-clause-appended
returns-in-Lifted-clause-appended g c = rw c.in-Lifted.is c.lifted.ensures.appended
