use Rattle.wenc_sections.proofs.counted.parent.CountedParent.append_value.Goals as goal

pub returns-clause-appended : goal.returns-clause-appended
returns-clause-appended g c = rw (← c.self.view_is) c.append_encoded.ensures.appended
