use Rattle.dr_lab.proofs.Pairs.{none_snapshot, no_snapshot, a_snapshot, half_snapshot}
use Rattle.dr_lab.proofs.pair_text.snapshot.Goals as goal

pub returns-in-None : goal.returns-in-None
returns-in-None c = none_snapshot c.in-None.ensures

pub returns-in-Some-None-default : goal.returns-in-Some-None-default
returns-in-Some-None-default c = no_snapshot (rw c.in-Some-None-default.field-0-0-is at c.in-Some-None-default.ensures)

pub returns-in-Some : goal.returns-in-Some
returns-in-Some c = a_snapshot (rw c.in-Some-Some-default.field-0-0-is at c.in-Some-Some-default.ensures) c.in-Some.ensures

pub returns-in-None-content : goal.returns-in-None-content
returns-in-None-content c = half_snapshot (rw c.in-Some-Some-default.field-0-0-is at c.in-Some-Some-default.ensures) c.in-None-content.ensures
