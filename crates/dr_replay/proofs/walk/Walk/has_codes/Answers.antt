use Rattle.dr_meaning.specs.Runs.{stages_of}
use Rattle.dr_meaning.specs.Stages.{stage_at}
use Rattle.dr_replay.specs.Values.{run_of}
use Rattle.dr_replay.proofs.LawfulSteps.{codes_of_command}
use Rattle.dr_replay.proofs.walk.Walk.has_codes.Goals as goal

pub returns-in-Command : goal.returns-in-Command
returns-in-Command c =
    let run = run_of c.args.self.now.run.now in
    codes_of_command run (stage_at (stages_of run) c.args.stage) _ c.token_of-token.result c.is_coded.result (cc) (cc) (cc)
