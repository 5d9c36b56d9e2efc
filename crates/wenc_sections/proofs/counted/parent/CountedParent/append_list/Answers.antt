use Rattle.wenc_sections.proofs.counted.parent.CountedParent.append_list.Goals as goal

pub returns : goal.returns
returns g c = rw (← c.self.view_is) c.append_listed.ensures
