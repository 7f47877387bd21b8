use Rattle.std.proofs.Common.{◌≡◌, ◌==◌, take, find}
use Rattle.std.specs.Option.{option_map}
use Rattle.dr_replay.specs.Values.{run_of, runs_told}
use Rattle.dr_replay.proofs.lawful.last_of_plan.Given as goal

abbrev pub invariant-loop-run : goal.invariant-loop-run
invariant-loop-run l = option_map (λ r. run_of r.now) l.found ≡ find (λ r. r.start.plan == l.plan) (runs_told (take l.run-index l.runs))
