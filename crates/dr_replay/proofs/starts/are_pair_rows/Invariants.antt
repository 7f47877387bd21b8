use Rattle.std.proofs.Common.{take}
use Rattle.std.specs.Prelude.{IsTrue, ◌↔◌}
use Rattle.std.specs.List.{AllByRecursion}
use Rattle.dr_meaning.specs.Lawful.{IsPairRow}
use Rattle.dr_replay.proofs.starts.are_pair_rows.Given as goal

abbrev pub invariant-loop-pair : goal.invariant-loop-pair
invariant-loop-pair l = IsTrue l.all ↔ AllByRecursion (IsPairRow l.row) (take l.pair-index l.pair-items)
