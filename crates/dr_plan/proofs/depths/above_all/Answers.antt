use Rattle.std.proofs.Common.{◌∙◌, ◌+◌, max, get_or, ap, sym}
use Rattle.dr_plan.proofs.DepthLaws.{above_more}
use Rattle.dr_plan.proofs.depths.above_all.Goals as goal

pub loop-machine-preserved : goal.loop-machine-preserved
loop-machine-preserved c =
    let i = c.loop-machine.machine-index in
    let d = get_or c.args.depths.now (get_or c.args.machines.now i 0) 0 in
    c.greater-least.ensures ∙ ap (λ n. max n (d + 1)) c.loop-machine.invariant ∙ sym (above_more c.args.depths.now c.args.machines.now i c.loop-machine-test.true)
