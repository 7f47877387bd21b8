use Rattle.std.proofs.Common.{sym, ◌∙◌}
use Rattle.dr_walk.proofs.NextLaws.{begun_undone}
use Rattle.dr_walk.proofs.walk.Walk.least_undone.Goals as goal

pub returns-in-Some : goal.returns-in-Some
returns-in-Some c = λ run w. sym (begun_undone c.args.self.now run w c.in-Some.stage (sym w.keeps.stages.begun ∙ c.in-Some.is))
