use Rattle.dr_lab.specs.PairText.{IsLarge, number_line}
use Rattle.std.specs.Prelude.{codes}
use Rattle.dr_lab.proofs.Joins.{Both, joined, first_none, second_none}
use Rattle.dr_lab.proofs.Pairs.{last_two, content_made, content_none}
use Rattle.dr_lab.proofs.pair_text.content.Goals as goal

pub returns-in_default : goal.returns-in_default
returns-in_default c = content_none (first_none (Both IsLarge IsLarge) last_two c.in_default.ensures)

pub returns-in_default-number : goal.returns-in_default-number
returns-in_default-number c = content_none (second_none c.in-Some.ensures (first_none IsLarge (number_line (codes "  writes ")) c.in_default-number.ensures))

pub returns-in-Some-number-2 : goal.returns-in-Some-number-2
returns-in-Some-number-2 c = content_made (joined c.in-Some.ensures (joined c.in-Some-number.ensures c.in-Some-number-2.ensures))

pub returns-in-None : goal.returns-in-None
returns-in-None c = content_none (second_none c.in-Some.ensures (second_none c.in-Some-number.ensures c.in-None.ensures))
