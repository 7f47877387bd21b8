use Rattle.dr_sim.proofs.Writing.{one_drifts}
use Rattle.dr_sim.proofs.production.write_one.Goals as goal

pub returns-then-place-pairs-clause-drift : goal.returns-then-place-pairs-clause-drift
returns-then-place-pairs-clause-drift c = one_drifts c.args.pairs.now c.args.write.now.pair c.after_write.result _ c.if-place-pairs.true c.after_write.ensures.drift
