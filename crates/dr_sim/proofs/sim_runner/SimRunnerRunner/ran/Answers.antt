use Rattle.std.specs.Prelude.{ℕ, List, Option, Some, None}
use Rattle.std.proofs.Common.{refl, sym}
use Rattle.dr_outside.specs.Runners.{RanRead}
use Rattle.dr_outside.specs.Commands.{code_of}
use Rattle.dr_outside.proofs.TokenLaws.{first_same}
use Rattle.dr_sim.specs.Runners.{SimRunnerState, state_of, next_fault, reading, after_reading}
use Rattle.dr_sim.proofs.sim_runner.SimRunnerRunner.ran.Goals as goal

read : (runner : SimRunnerState) (token : ℕ) (fault : Option ℕ) → RanRead token (state_of runner) (state_of (after_reading runner)) (reading fault (code_of runner.codes.kept token))
read runner token (Some leaves) = refl
read runner token None = (sym (first_same runner.codes.kept token), refl)

pub returns-clause-step : goal.returns-clause-step
returns-clause-step c = rw (c.read_exactly.ensures.answer, c.read_exactly.ensures.left) (read c.args.self.now c.args.token (next_fault c.args.self.now))
