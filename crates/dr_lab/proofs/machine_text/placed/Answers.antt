use Rattle.dr_lab.proofs.Joins.{Any, joined, first_none, second_none}
use Rattle.dr_lab.proofs.Machines.{IsRest, IsPool, folder_text, pool_text, bubble_line, placed_made, placed_none}
use Rattle.dr_lab.proofs.machine_text.placed.Goals as goal

pub returns-in_default : goal.returns-in_default
returns-in_default c = placed_none (first_none IsRest folder_text c.in_default.ensures)

pub returns-in_default-path : goal.returns-in_default-path
returns-in_default-path c = placed_none (second_none c.in-Some.ensures (first_none IsPool pool_text c.in_default-path.ensures))

pub returns-in_default-name : goal.returns-in_default-name
returns-in_default-name c = placed_none (second_none c.in-Some.ensures (second_none c.in-Some-path.ensures (first_none Any bubble_line c.in_default-name.ensures)))

pub returns-in-Some-either : goal.returns-in-Some-either
returns-in-Some-either c = rw c.from_texts.ensures (placed_made (joined c.in-Some.ensures (joined c.in-Some-path.ensures (joined c.in-Some-name.ensures c.in-Some-either.ensures))))

pub returns-in-None : goal.returns-in-None
returns-in-None c = placed_none (second_none c.in-Some.ensures (second_none c.in-Some-path.ensures (second_none c.in-Some-name.ensures c.in-None.ensures)))
