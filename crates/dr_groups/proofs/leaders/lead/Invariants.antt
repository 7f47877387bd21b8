use Rattle.std.proofs.Common.{◌<◌, ℕ, get_or}
use Rattle.dr_groups.specs.Trees.{IsLed}
use Rattle.dr_groups.proofs.leaders.lead.Given as goal

abbrev pub invariant-loop-device : goal.invariant-loop-device
invariant-loop-device l = record {
  kept : (entry : ℕ) → IsLed l.estate l.initial.leaders entry → IsLed l.estate l.leaders entry;
  led : (k : ℕ) → k < l.device-index → IsLed l.estate l.leaders (get_or l.consistency (get_or l.devices k 0) 0);
}
