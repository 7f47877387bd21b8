use Rattle.std.proofs.Common.{◌<◌, ◌≤◌, ℕ}
use Rattle.dr_groups.specs.Groups.{IsInGroup}
use Rattle.dr_groups.proofs.shared.group_with.Given as goal

abbrev pub invariant-loop-group : goal.invariant-loop-group
invariant-loop-group l = (k : ℕ) → l.from ≤ k → k < l.group → ¬ IsInGroup l.estate k l.datastore
