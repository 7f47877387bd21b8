use Rattle.std.proofs.Common.{take}
use Rattle.std.specs.Prelude.{IsTrue, ◌↔◌}
use Rattle.dr_meaning.specs.Lawful.{AreFree}
use Rattle.dr_replay.specs.Values.{runs_told}
use Rattle.dr_replay.proofs.starts.are_free.Given as goal

abbrev pub invariant-loop-run : goal.invariant-loop-run
invariant-loop-run l = IsTrue l.free ↔ AreFree (runs_told (take l.run-index l.runs)) l.row.over l.row.groups
