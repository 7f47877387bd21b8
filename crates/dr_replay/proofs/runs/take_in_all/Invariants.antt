use Rattle.std.proofs.Common.{◌≡◌, map}
use Rattle.dr_meaning.specs.Runs.{take_in}
use Rattle.dr_replay.specs.Values.{run_of}
use Rattle.dr_replay.proofs.FirstOf.{first_of}
use Rattle.dr_replay.proofs.runs.take_in_all.Given as goal

abbrev pub invariant-loop-run : goal.invariant-loop-run
invariant-loop-run l = map run_of l.run-items ≡ first_of (take_in l.item) l.run-index (map run_of l.fn.runs.items)
