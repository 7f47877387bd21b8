use Rattle.dr_lab.proofs.Machines.{place_alone, a_machine, no_placement, no_post}
use Rattle.dr_lab.proofs.machine_text.post.Goals as goal

pub returns-in-None : goal.returns-in-None
returns-in-None c = no_post c.args.front.now c.in-None.ensures

pub returns-in-Some-None-default : goal.returns-in-Some-None-default
returns-in-Some-None-default c = place_alone c.args.front.now (rw c.in-Some-None-default.field-0-0-is at c.in-Some-None-default.ensures)

pub returns-in-Some : goal.returns-in-Some
returns-in-Some c = rw c.post_of.ensures (a_machine c.args.front.now (rw c.in-Some-Some-default.field-0-0-is at c.in-Some-Some-default.ensures) c.in-Some.ensures)

pub returns-in-None-placed : goal.returns-in-None-placed
returns-in-None-placed c = no_placement c.args.front.now (rw c.in-Some-Some-default.field-0-0-is at c.in-Some-Some-default.ensures) c.in-None-placed.ensures
