use Rattle.std.proofs.Common.{◌≡◌, take, find}
use Rattle.dr_meaning.specs.declared.stage.StageKind.{StageKind}
use Rattle.dr_meaning.specs.Visits.{all, is_excused}
use Rattle.dr_meaning.specs.Stages.{stage_at}
use Rattle.dr_meaning.specs.Runs.{stages_of}
use Rattle.dr_meaning.specs.Meaning.{is_of_kind}
use Rattle.dr_replay.specs.Values.{run_of, visits_told}
use Rattle.dr_expected.proofs.frames.is_prepare_excused.Given as goal

abbrev pub invariant-loop-visit : goal.invariant-loop-visit
invariant-loop-visit l = l.excused ≡ is_excused all (find (λ v. is_of_kind StageKind.Prepare (stage_at (stages_of (run_of l.walk.run.now)) v.stage)) (visits_told (take l.visit-index l.walk.visits.items)))
