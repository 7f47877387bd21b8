use Rattle.dr_meaning.specs.Meaning.{MeansPost}
use Rattle.dr_replay.specs.Values.{run_of}
use Rattle.dr_expected.specs.Standings.{placed_value, PostOver, meant_kind, is_sure}
use Rattle.dr_expected.proofs.PostLaws.{ok-leads, means_post}
use Rattle.dr_expected.proofs.posts.meant.Goals as goal

pub returns : goal.returns
returns c =
    let run = run_of c.args.walk.now.run.now in
    let w = placed_value c.args.wanted.now in
    ok-leads (PostOver (meant_kind run c.args.side) w (is_sure run c.args.machine c.args.side)) (MeansPost run c.args.machine c.args.side w) c.args.list.now c.over_stage.result
    (means_post run c.args.machine c.args.side w) (rw (c.meant_kind-kind.ensures, c.is_sure.ensures) at c.over_stage.ensures)
