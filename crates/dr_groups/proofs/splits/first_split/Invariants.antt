use Rattle.std.proofs.Common.{◌<◌, ℕ}
use Rattle.dr_groups.specs.Groups.{IsClosed}
use Rattle.dr_groups.proofs.splits.first_split.Given as goal

abbrev pub invariant-loop-group : goal.invariant-loop-group
invariant-loop-group l = (k : ℕ) → k < l.group → IsClosed l.estate k
