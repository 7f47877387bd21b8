use Rattle.dr_lab.proofs.Whole.{more_left, is_some}
use Rattle.dr_lab.proofs.pair_text.read_pair.Goals as goal

pub returns-in_default : goal.returns-in_default
returns-in_default c = more_left c.in-Some.ensures (is_some c.in-Some.rest.now c.is_empty.result c.if-is_empty.false c.is_empty.ensures)
