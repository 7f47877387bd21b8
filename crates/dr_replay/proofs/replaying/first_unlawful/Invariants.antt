use Rattle.std.proofs.Common.{◌≡◌, [], take}
use Rattle.dr_meaning.specs.Runs.{runs_of}
use Rattle.dr_meaning.specs.Lawful.{LawfulAfter}
use Rattle.dr_replay.specs.Values.{runs_told, in_force}
use Rattle.dr_replay.proofs.replaying.first_unlawful.Given as goal

abbrev pub invariant-loop-i : goal.invariant-loop-i
invariant-loop-i l = record {
  told : runs_told l.runs.items ≡ runs_of (in_force l.estate l.plans) (take l.i l.records);
  lawful : LawfulAfter (in_force l.estate l.plans) [] (take l.i l.records);
}
