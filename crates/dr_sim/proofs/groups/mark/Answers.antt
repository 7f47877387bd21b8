use Rattle.std.proofs.Common.{arith}
use Rattle.dr_sim.specs.Groups.{least_of}
use Rattle.dr_sim.proofs.Marking.{marked_more}
use Rattle.dr_sim.proofs.groups.mark.Goals as goal

pub loop-k-preserved : goal.loop-k-preserved
loop-k-preserved c =
    rw (c.mark_one-left.ensures.marks, c.mark_one-left.ensures.left, c.least_of.ensures.value)
    (marked_more (least_of c.args.entries.now) c.args.list.now c.loop-k.k-index c.args.groups c.loop-k.left c.loop-k.marks c.loop-k-test.true (omega (arith, c.least_of.ensures.within, c.least_of.ensures.value, c.requires.marks, c.loop-k.auto.marks)) c.loop-k.invariant)
