use Rattle.dr_expected.proofs.frames.over_visit.Goals as goal

pub returns : goal.returns
returns c = rw (c.kind_at-kind.ensures, c.is_complete.ensures) at c.over_stage.ensures
