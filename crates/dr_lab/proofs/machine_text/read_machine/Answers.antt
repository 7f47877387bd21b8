use Rattle.dr_lab.proofs.Whole.{more_left, none_taken, is_some}
use Rattle.dr_lab.proofs.machine_text.read_machine.Goals as goal

pub returns-else-is_empty : goal.returns-else-is_empty
returns-else-is_empty c = more_left c.in-Some.ensures (is_some c.in-Some.rest.now c.is_empty.result c.if-is_empty.false c.is_empty.ensures)

pub returns-in-None : goal.returns-in-None
returns-in-None c = none_taken c.in-None.ensures
