use Rattle.std.proofs.Common.{◌≡◌, take}
use Rattle.std.specs.Prelude.{option_map}
use Rattle.dr_meaning.specs.Runs.{run_at}
use Rattle.dr_replay.specs.Values.{run_of, runs_told}
use Rattle.dr_replay.proofs.runs.run_at.Given as goal

abbrev pub invariant-loop-run : goal.invariant-loop-run
invariant-loop-run l = option_map (λ r. run_of r.now) l.found ≡ run_at l.number (runs_told (take l.run-index l.runs))
