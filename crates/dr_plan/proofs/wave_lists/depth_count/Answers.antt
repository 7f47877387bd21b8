use Rattle.std.proofs.Common.{◌∙◌, ◌<◌, ◌^◌, ◌+◌, max, ap, sym, arith, rules}
use Rattle.dr_plan.proofs.WaveLaws.{depths_more}
use Rattle.dr_plan.proofs.wave_lists.depth_count.Goals as goal

pub loop-machine-preserved : goal.loop-machine-preserved
loop-machine-preserved c =
    let x = c.machine-item.result in
    let fits : x.depth < 2 ^ 32 = search rules in
    record {
      greatest = c.greater-count.ensures ∙ ap (λ n. max n (x.depth + 1)) c.loop-machine.invariant.greatest
          ∙ sym (depths_more c.args.machines.now c.loop-machine.machine-index x c.loop-machine-test.true c.machine-item.is);
      small = omega (arith, c.greater-count.ensures, c.loop-machine.invariant.small, fits);
    }
