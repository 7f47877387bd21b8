-- A simulated runner of plans' commands: which of its calls fail, what each answers and what it leaves.
use Rattle.std.specs.Prelude.{ℕ, ◌≡◌, false, is_some, List, [], Option, Some, None, Result, Ok, Err}
use Rattle.dr_base.specs.Causes.{count_after}
use Rattle.dr_outside.specs.declared.runner.RunnerFail.{RunnerFail}
use Rattle.dr_outside.specs.declared.runner.RunnerFail.TheVariants.{Failed}
use Rattle.dr_outside.specs.Commands.{HasTokensOnce}
use Rattle.dr_outside.specs.FirstCodes.{first_codes, first_once}
use Rattle.dr_outside.specs.Runners.{RunnerState}
use Rattle.dr_sim.specs.declared.faults.PortFault.{PortFault}
use Rattle.dr_sim.specs.declared.meter.Meter.{Meter}
use Rattle.dr_sim.specs.Commands.{Codes, no_codes, codes_after, answer_of, is_fault}
use Rattle.dr_sim.specs.Faults.{port_fault}
use Rattle.dr_sim.specs.Meters.{unused, is_spent, counted}

-- the codes it keeps, its calls and fuse, the faults that are listed, and the count of its faults
pub record SimRunnerState : Type 0 where
  pub codes : Codes
  pub meter : Meter
  pub faults : List PortFault
  pub count : ℕ

-- what it holds, as of any runner: of several codes for one token the first
abbrev pub state_of : SimRunnerState → RunnerState
state_of runner = record { kept = first_codes runner.codes.kept; faults = runner.count }

-- it keeps one code for a token
pub each_once : (runner : SimRunnerState) → HasTokensOnce (state_of runner).kept
each_once runner = first_once runner.codes.kept

-- a runner at first
abbrev pub new_runner : List PortFault → SimRunnerState
new_runner faults = record { codes = no_codes; meter = unused; faults = faults; count = 0 }

-- the fault of the next call, as what it leaves
abbrev pub next_fault : SimRunnerState → Option ℕ
next_fault runner = port_fault runner.meter runner.faults

-- a runner after a reading
abbrev pub after_reading : SimRunnerState → SimRunnerState
after_reading runner = record runner { meter = counted runner.meter; count = count_after (is_some (next_fault runner)) runner.count }

-- what a reading answers, by its fault
abbrev pub reading : Option ℕ → Option ℕ → Result (Option ℕ) RunnerFail
reading (Some leaves) seen = Err Failed
reading None seen = Ok seen

-- a runner after a command
abbrev pub after_command : ℕ → List ℕ → SimRunnerState → SimRunnerState
after_command token name runner =
    record runner {
      codes = codes_after (next_fault runner) None token name runner.codes;
      meter = counted runner.meter;
      count = count_after (is_fault (answer_of (next_fault runner) token name runner.codes)) runner.count;
    }

-- no fault is listed, and the fuse isn't spent
pub record IsQuiet (runner : SimRunnerState) : Type 0 where
  pub faults : runner.faults ≡ []
  pub fuse : is_spent runner.meter.fuse ≡ false
