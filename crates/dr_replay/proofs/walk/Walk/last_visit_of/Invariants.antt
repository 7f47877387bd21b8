use Rattle.std.proofs.Common.{◌≡◌, take, find}
use Rattle.std.specs.Prelude.{option_map}
use Rattle.dr_meaning.specs.Runs.{stages_of}
use Rattle.dr_meaning.specs.Stages.{stage_at}
use Rattle.dr_meaning.specs.Meaning.{is_wave_of}
use Rattle.dr_replay.specs.Values.{run_of, visit_of, visits_told}
use Rattle.dr_replay.proofs.walk.Walk.last_visit_of.Given as goal

abbrev pub invariant-loop-visit : goal.invariant-loop-visit
invariant-loop-visit l = option_map (λ v. visit_of v.now) l.found ≡ find (λ v. is_wave_of l.kind l.machine (stage_at (stages_of (run_of l.self.run.now)) v.stage)) (visits_told (take l.visit-index l.self.visits.items))
