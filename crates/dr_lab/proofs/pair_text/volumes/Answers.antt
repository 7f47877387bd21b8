use Rattle.std.specs.Prelude.{codes}
use Rattle.dr_lab.specs.PairText.{volume_text}
use Rattle.dr_lab.proofs.Joins.{joined, first_none, second_none}
use Rattle.dr_lab.proofs.Pairs.{IsVolume, volumes_made, volumes_none}
use Rattle.dr_lab.proofs.pair_text.volumes.Goals as goal

pub returns-in_default : goal.returns-in_default
returns-in_default c = volumes_none (first_none IsVolume (volume_text (codes "B ")) c.in_default.ensures)

pub returns-in-Some-volume : goal.returns-in-Some-volume
returns-in-Some-volume c = volumes_made (joined c.in-Some.ensures c.in-Some-volume.ensures)

pub returns-in-None : goal.returns-in-None
returns-in-None c = volumes_none (second_none c.in-Some.ensures c.in-None.ensures)
