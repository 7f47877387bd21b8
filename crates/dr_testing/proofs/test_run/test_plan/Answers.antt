use Rattle.std.proofs.Common.{sym, ◌∙◌, subst}
use Rattle.dr_plan.specs.Orders.{AreWaves}
use Rattle.dr_testing.proofs.WavesOf.{waves_are}
use Rattle.dr_testing.proofs.test_run.test_plan.Goals as goal

pub run_test-requires-clause-in_order : goal.run_test-requires-clause-in_order
run_test-requires-clause-in_order g c = subst (AreWaves c.args.plan.now) (sym (c.deref.ensures.value ∙ c.in-Ok.ensures)) (waves_are c.args.plan.now c.requires.ordered)
