use Rattle.std.proofs.Common.{◌≡◌, ap, length, arith, rules}
use Rattle.dr_meaning.specs.Runs.{take_in}
use Rattle.dr_replay.specs.Values.{run_of}
use Rattle.dr_replay.proofs.FirstOf.{first_step, first_done, given_back}
use Rattle.dr_replay.proofs.runs.take_in_all.Goals as goal

pub loop-run-preserved : goal.loop-run-preserved
loop-run-preserved c =
    first_step (take_in c.args.item.now) run_of _ c.loop-run.run-items c.loop-run.run-index c.take_in.new.run c.run-item.result
    c.loop-run.invariant (omega arith) (search rules)

pub returns : goal.returns
returns c =
    let items = c.args.runs.now.items in
    let same : length c.deref_mut-run-items.result.now ≡ length items = ap length c.deref_mut-run-items.ensures.value in
    let ended : c.loop-run.run-index ≡ length items = omega arith in
    let back = given_back items c.loop-run.run-items c.args.runs.now.len (search rules) (omega arith) in
    rw back (first_done (take_in c.args.item.now) run_of items c.loop-run.run-items c.loop-run.run-index c.loop-run.invariant ended)
