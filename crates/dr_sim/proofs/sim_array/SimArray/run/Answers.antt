use Rattle.dr_sim.proofs.Ending.{list_step}
use Rattle.dr_sim.proofs.sim_array.SimArray.run.Goals as goal

pub returns-clause-step : goal.returns-clause-step
returns-clause-step c = list_step c.args.call c.args.list.now c.args.self.now c.run_exactly.new.self c.run_exactly.result c.run_exactly.ensures.drift c.run_exactly.ensures.exact
