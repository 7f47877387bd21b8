use Rattle.dr_lab.specs.PairText.{AreVolumes, IsSnapshot, snapshot_text}
use Rattle.dr_lab.proofs.Joins.{Any, Both, joined, first_none, second_none}
use Rattle.dr_lab.proofs.Pairs.{link_text, rest_text, pair_made, pair_none}
use Rattle.dr_lab.proofs.pair_text.pair.Goals as goal

pub returns-in_default : goal.returns-in_default
returns-in_default c = pair_none (first_none (Both Any (Both AreVolumes IsSnapshot)) link_text c.in_default.ensures)

pub returns-in_default-link : goal.returns-in_default-link
returns-in_default-link c = pair_none (second_none c.in-Some.ensures (first_none (Both AreVolumes IsSnapshot) rest_text c.in_default-link.ensures))

pub returns-in_default-volumes : goal.returns-in_default-volumes
returns-in_default-volumes c = pair_none (second_none c.in-Some.ensures (second_none c.in-Some-link.ensures (first_none IsSnapshot snapshot_text c.in_default-volumes.ensures)))

pub returns-in-Some-snapshot : goal.returns-in-Some-snapshot
returns-in-Some-snapshot c = pair_made (joined c.in-Some.ensures (joined c.in-Some-link.ensures (joined c.in-Some-volumes.ensures c.in-Some-snapshot.ensures)))

pub returns-in-None : goal.returns-in-None
returns-in-None c = pair_none (second_none c.in-Some.ensures (second_none c.in-Some-link.ensures (second_none c.in-Some-volumes.ensures c.in-None.ensures)))
