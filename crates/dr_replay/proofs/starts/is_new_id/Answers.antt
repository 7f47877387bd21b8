use Rattle.std.proofs.Common.{◌≡◌, ◌≢◌, ◌&&◌, arith}
use Rattle.dr_meaning.specs.Runs.{Run}
use Rattle.dr_replay.specs.Values.{run_of}
use Rattle.dr_replay.proofs.EachTold.{all_told_more, and_on, and_off}
use Rattle.dr_replay.proofs.starts.is_new_id.Goals as goal
use Rattle.dr_replay.proofs.starts.is_new_id.Goals.{then-differ, else-differ}

pub loop-run-preserved : goal.loop-run-preserved
loop-run-preserved c =
    let P : Run → Type 0 = λ run. run.start.id ≢ c.args.id.now in
    let this = c.differ.result in
    let all = c.loop-run.new in
    let now = c.if-differ.new in
    let is : now ≡ (this && all) =
    elim c.if-differ.branch [
      | then-differ w ↦ and_on this all now w.if-differ.true w.new-is
      | else-differ w ↦ and_off this all now w.if-differ.false w.new-is
    ]
    in
    rw is (all_told_more run_of P c.args.runs.now c.loop-run.run-index c.run-item.result this all (omega arith) c.run-item.is c.differ.ensures c.loop-run.invariant)
