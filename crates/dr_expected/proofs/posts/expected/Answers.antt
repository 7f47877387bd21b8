use Rattle.std.proofs.Common.{arith}
use Rattle.dr_meaning.specs.Worlds.{IsOpeningPost}
use Rattle.dr_meaning.specs.Runs.{named_side}
use Rattle.dr_meaning.specs.Expected.{LeavesPost, wanted}
use Rattle.dr_expected.specs.Standings.{IsStanding}
use Rattle.dr_expected.proofs.ShownLaws.{after-next}
use Rattle.dr_expected.proofs.posts.expected.Goals as goal

pub loop-run-preserved : goal.loop-run-preserved
loop-run-preserved c =
    after-next IsStanding (λ x. IsOpeningPost (named_side c.args.estate.now c.args.group) c.args.side x) (λ run x y. LeavesPost run c.args.machine c.args.side (wanted c.args.group run c.args.machine) x y)
    c.args.group c.args.runs.now c.loop-run.run-index c.run-item.result c.loop-run.list.items c.in_ok-list.list.items
    (omega arith) c.run-item.is c.loop-run.invariant c.in_ok-list.ensures
