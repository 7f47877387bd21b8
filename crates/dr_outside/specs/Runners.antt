-- The runner of a plan's commands.
use Rattle.std.specs.Prelude.{ℕ, ◌≡◌, ◌≤◌, ◌⊎◌, List, Option, Some, None, Result, Ok, Err}
use Rattle.dr_base.specs.Causes.{Rose}
use Rattle.dr_outside.specs.declared.machine.Kept.{Kept}
use Rattle.dr_outside.specs.declared.runner.RunnerFail.{RunnerFail}
use Rattle.dr_outside.specs.declared.runner.RunnerFail.TheVariants.{Failed, Ran}
use Rattle.dr_outside.specs.Commands.{code_of, RunsOnce}

-- a runner: the codes it keeps, and its faults
pub record RunnerState : Type 0 where
  pub kept : List Kept
  pub faults : ℕ

-- what holds after every call: the count doesn't fall, and a failed call raised it
pub record RunnerCause {T : Type 0} (old new : RunnerState) (result : Result T RunnerFail) : Type 0 where
  pub later : old.faults ≤ new.faults
  pub failed : result ≡ Err Failed → Rose old.faults new.faults

-- a reading of a kept code
abbrev pub RanRead : ℕ → RunnerState → RunnerState → Result (Option ℕ) RunnerFail → Type 0
RanRead token old new (Ok code) = (code ≡ code_of old.kept token) × (new.kept ≡ old.kept)
RanRead token old new (Err e) = new.kept ≡ old.kept

-- what a command does, by its answer; a failed one leaves the state before or after it
abbrev pub CallStep : ℕ → List ℕ → RunnerState → RunnerState → Result ℕ RunnerFail → Type 0
CallStep token name old new (Ok code) = RunsOnce None token name old.kept new.kept code
CallStep token name old new (Err (Ran code)) = (code_of old.kept token ≡ Some code) × (new.kept ≡ old.kept)
CallStep token name old new (Err Failed) = (new.kept ≡ old.kept) ⊎ ((code : ℕ) × RunsOnce None token name old.kept new.kept code)
