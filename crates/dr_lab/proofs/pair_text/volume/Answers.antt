use Rattle.dr_lab.specs.PairText.{IsContent, content_text}
use Rattle.dr_lab.proofs.Joins.{joined, first_none, second_none}
use Rattle.dr_lab.proofs.Pairs.{volume_made, volume_none}
use Rattle.dr_lab.proofs.pair_text.volume.Goals as goal

pub returns-in_default : goal.returns-in_default
returns-in_default c = volume_none c.args.front.now (first_none IsContent content_text c.in_default.ensures)

pub returns-in-Some-content : goal.returns-in-Some-content
returns-in-Some-content c = volume_made c.args.front.now (joined c.in-Some.ensures c.in-Some-content.ensures)

pub returns-in-None : goal.returns-in-None
returns-in-None c = volume_none c.args.front.now (second_none c.in-Some.ensures c.in-None.ensures)
