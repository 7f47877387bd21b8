use Rattle.std.proofs.Common.{◌≡◌, true, false, sym, ◌∙◌}
use Rattle.dr_meaning.specs.declared.stage.StageKind.{StageKind}
use Rattle.dr_meaning.specs.Stages.{stage_at}
use Rattle.dr_meaning.specs.Runs.{stages_of}
use Rattle.dr_meaning.specs.Reach.{is_complete, PostStep}
use Rattle.dr_replay.specs.Values.{run_of, visit_of}
use Rattle.dr_expected.specs.Standings.{placed_value, PostOver}
use Rattle.dr_expected.proofs.PostLaws.{ok-leads, works_it, leaves_it}
use Rattle.dr_expected.proofs.posts.over_visit.Goals as goal

pub returns-then-works : goal.returns-then-works
returns-then-works c =
    let run = run_of c.args.walk.now.run.now in
    let w = placed_value c.args.wanted.now in
    let visit = visit_of c.args.visit.now in
    ok-leads (PostOver (stage_at (stages_of run) visit.stage).kind w (is_complete c.args.machine visit)) (PostStep run c.args.machine c.args.side w visit) c.args.list.now c.over_stage.result
    (works_it run c.args.machine c.args.side w visit (sym c.works.ensures ∙ c.if-works.true))
    (rw (c.kind_at-kind.ensures, c.is_complete.ensures) at c.over_stage.ensures)

pub returns-else-works : goal.returns-else-works
returns-else-works c =
    let run = run_of c.args.walk.now.run.now in
    let w = placed_value c.args.wanted.now in
    let visit = visit_of c.args.visit.now in
    ok-leads (PostOver StageKind.Sync w true) (PostStep run c.args.machine c.args.side w visit) c.args.list.now c.over_stage-else-works.result
    (leaves_it run c.args.machine c.args.side w visit (sym c.works.ensures ∙ c.if-works.false)) c.over_stage-else-works.ensures
