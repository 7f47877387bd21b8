use Rattle.std.proofs.Common.{◌<◌, ℕ}
use Rattle.dr_groups.specs.Trees.{HasEntry, IsLed}
use Rattle.dr_groups.proofs.leaders.lead_all.Given as goal

abbrev pub invariant-loop-datastore : goal.invariant-loop-datastore
invariant-loop-datastore l = (d entry : ℕ) → d < l.datastore → HasEntry l.estate d entry → IsLed l.estate l.leaders entry
