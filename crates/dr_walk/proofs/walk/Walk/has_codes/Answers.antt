use Rattle.std.proofs.Common.{sym, ◌∙◌}
use Rattle.dr_meaning.specs.Runs.{stages_of}
use Rattle.dr_meaning.specs.Stages.{stage_at}
use Rattle.dr_walk.proofs.TakingLaws.{codes_of_command}
use Rattle.dr_walk.proofs.walk.Walk.has_codes.Goals as goal

pub returns-in-Command : goal.returns-in-Command
returns-in-Command c = λ run same w.
    codes_of_command run (stage_at (stages_of run) c.args.stage) _ c.token_of.result c.is_coded.result
    (sym (c.kind.ensures run w) ∙ c.in-Command.is) (let root_is = c.root.ensures run w in let step_is = c.step.ensures run w in let token_is = c.token_of.ensures in cc) (c.is_coded.ensures run w)
