use Rattle.dr_declared.proofs.UniqueLaws.{text_sound}
use Rattle.dr_desk.proofs.answering.answer_command.Goals as goal

pub show_groups-requires-clause-sound : goal.show_groups-requires-clause-sound
show_groups-requires-clause-sound g c = text_sound c.requires.declared.bytes c.args.declared.now.estate c.requires.declared.declares.text
