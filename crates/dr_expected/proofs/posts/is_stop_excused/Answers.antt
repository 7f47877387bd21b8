use Rattle.dr_meaning.specs.declared.stage.StageKind.{StageKind}
use Rattle.dr_meaning.specs.Visits.{Visit}
use Rattle.dr_meaning.specs.Stages.{stage_at}
use Rattle.dr_meaning.specs.Runs.{stages_of}
use Rattle.dr_meaning.specs.Meaning.{is_wave_of}
use Rattle.dr_replay.specs.Values.{run_of}
use Rattle.dr_expected.proofs.ShownLaws.{excused-next, excused-all}
use Rattle.dr_expected.proofs.posts.is_stop_excused.Goals as goal

pub loop-visit-preserved : goal.loop-visit-preserved
loop-visit-preserved c =
    excused-next (λ v. is_wave_of StageKind.Stop c.args.machine (stage_at (stages_of (run_of c.args.walk.now.run.now)) v.stage)) c.args.machine c.args.walk.now.visits.items c.loop-visit.visit-index c.visit-item.result c.loop-visit.excused c.is_excused_after-excused.result
    (rw c.deref-visit-items.ensures.value at c.loop-visit-test.true) (rw c.deref-visit-items.ensures.value at c.visit-item.is) c.loop-visit.invariant c.is_excused_after-excused.ensures

pub returns : goal.returns
returns c =
    excused-all (λ v. is_wave_of StageKind.Stop c.args.machine (stage_at (stages_of (run_of c.args.walk.now.run.now)) v.stage)) c.args.machine c.args.walk.now.visits.items c.loop-visit.visit-index _ c.loop-visit.excused
    (rw c.deref-visit-items.ensures.value at c.loop-visit-test.false) c.args.walk.now.visits_are c.loop-visit.invariant
