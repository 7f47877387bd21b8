use Rattle.std.proofs.Common.{refl}
use Rattle.dr_sim.specs.Runners.{state_of, next_fault, after_command}
use Rattle.dr_sim.proofs.Commanding.{runner_call}
use Rattle.dr_sim.proofs.sim_runner.SimRunnerRunner.call.Goals as goal

pub returns-clause-step : goal.returns-clause-step
returns-clause-step c =
    let runner = c.args.self.now in
    rw (c.call_exactly.ensures.answer, c.call_exactly.ensures.left)
    (runner_call (next_fault runner) c.args.token c.args.name runner.codes (state_of runner) (state_of (after_command c.args.token c.args.name runner)) refl refl)
