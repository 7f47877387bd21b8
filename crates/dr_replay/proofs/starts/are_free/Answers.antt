use Rattle.std.proofs.Common.{◌≡◌, ◌≢◌, ◌&&◌, true, false, arith}
use Rattle.std.specs.List.{AllByRecursion}
use Rattle.dr_meaning.specs.Runs.{Run, is_open, number, holds}
use Rattle.dr_replay.specs.Values.{run_of}
use Rattle.dr_replay.proofs.EachTold.{all_told_more, and_on, and_off}
use Rattle.dr_replay.proofs.starts.are_free.Goals as goal
use Rattle.dr_replay.proofs.starts.are_free.Goals.{then-leaves_free, else-leaves_free}

pub loop-run-preserved : goal.loop-run-preserved
loop-run-preserved c =
    let P : Run → Type 0 = λ run. is_open run ≡ true → number run ≢ c.args.row.now.over → AllByRecursion (λ g. holds g run ≡ false) c.args.row.now.groups in
    let this = c.leaves_free.result in
    let all = c.loop-run.free in
    let now = c.if-leaves_free.free in
    let is : now ≡ (this && all) =
    elim c.if-leaves_free.branch [
      | then-leaves_free w ↦ and_on this all now w.if-leaves_free.true w.free-is
      | else-leaves_free w ↦ and_off this all now w.if-leaves_free.false w.free-is
    ]
    in
    rw is (all_told_more run_of P c.args.runs.now c.loop-run.run-index c.run-item.result this all (omega arith) c.run-item.is c.leaves_free.ensures c.loop-run.invariant)
