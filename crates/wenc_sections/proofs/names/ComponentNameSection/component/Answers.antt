use Rattle.wenc_sections.proofs.Appended.{no_room_for_name}
use Rattle.wenc_sections.proofs.names.ComponentNameSection.component.Goals as goal

pub append-requires : goal.append-requires
append-requires g c = no_room_for_name c.args.self.now c.args.name.now
