use Rattle.dr_lab.specs.MachineText.{IsName}
use Rattle.dr_lab.proofs.Joins.{joined, first_none, second_none}
use Rattle.dr_lab.proofs.KeptOnes.{IsRest, IsSide, code_text, side_text, name_field, kept_made, kept_none}
use Rattle.dr_lab.proofs.kept_text.read_kept.Goals as goal

pub returns-in_default : goal.returns-in_default
returns-in_default c = kept_none (first_none IsRest code_text c.in_default.ensures)

pub returns-in_default-number : goal.returns-in_default-number
returns-in_default-number c = kept_none (second_none c.in-Some.ensures (first_none IsSide side_text c.in_default-number.ensures))

pub returns-in_default-whose : goal.returns-in_default-whose
returns-in_default-whose c = kept_none (second_none c.in-Some.ensures (second_none c.in-Some-number.ensures (first_none IsName name_field c.in_default-whose.ensures)))

pub returns-in-Some-name : goal.returns-in-Some-name
returns-in-Some-name c = rw c.kept_of.ensures (kept_made (joined c.in-Some.ensures (joined c.in-Some-number.ensures (joined c.in-Some-whose.ensures c.in-Some-name.ensures))))

pub returns-in-None : goal.returns-in-None
returns-in-None c = kept_none (second_none c.in-Some.ensures (second_none c.in-Some-number.ensures (second_none c.in-Some-whose.ensures c.in-None.ensures)))
