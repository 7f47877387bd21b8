use Rattle.std.proofs.Common.{◌∙◌}
use Rattle.dr_outside.proofs.Drifts.{Drift-trans}
use Rattle.dr_sim.proofs.Writing.{writes_more}
use Rattle.dr_sim.proofs.production.write_before.Goals as goal

pub loop-write-preserved : goal.loop-write-preserved
loop-write-preserved c = record {
  value = λ i. writes_more _ c.args.number c.args.writer.now c.loop-write.write-index _ i _ _ c.loop-write-test.true (rw c.loop-write.auto.pairs at (c.write_one.ensures.value i)) ∙ c.loop-write.invariant.value i;
  drift = λ i. Drift-trans _ _ _ (c.loop-write.invariant.drift i) (c.write_one.ensures.drift i);
}
