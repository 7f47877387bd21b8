use Rattle.std.specs.Prelude.{codes}
use Rattle.dr_lab.specs.MachineText.{IsPost, post_text}
use Rattle.dr_lab.proofs.Joins.{joined, first_none, second_none}
use Rattle.dr_lab.proofs.Machines.{machine_made, machine_none}
use Rattle.dr_lab.proofs.machine_text.posts.Goals as goal

pub returns-in_default : goal.returns-in_default
returns-in_default c = machine_none (first_none IsPost (post_text (codes "B ")) c.in_default.ensures)

pub returns-in-Some-post : goal.returns-in-Some-post
returns-in-Some-post c = machine_made (joined c.in-Some.ensures c.in-Some-post.ensures)

pub returns-in-None : goal.returns-in-None
returns-in-None c = machine_none (second_none c.in-Some.ensures c.in-None.ensures)
