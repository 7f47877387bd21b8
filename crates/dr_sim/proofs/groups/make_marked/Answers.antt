use Rattle.std.proofs.Common.{false, get_or}
use Rattle.dr_outside.proofs.Listed.{not_yet}
use Rattle.dr_sim.specs.Groups.{least_of}
use Rattle.dr_sim.proofs.Marking.{made_where_more}
use Rattle.dr_sim.proofs.groups.make_marked.Goals as goal

pub loop-k-preserved : goal.loop-k-preserved
loop-k-preserved c =
    made_where_more c.args.call c.args.list.now (λ k. get_or c.args.marks.now (least_of c.args.entries.now k) false) c.args.pairs.now c.loop-k.pairs c.make_if.new.pairs c.loop-k.k-index c.loop-k-test.true (not_yet c.args.list.now c.requires.list.ascending c.loop-k.k-index c.loop-k-test.true) c.loop-k.invariant (rw c.least_of.ensures.value at c.make_if.ensures)
