use Rattle.std.proofs.Common.{◌≡◌, false, take}
use Rattle.std.specs.List.{list_any}
use Rattle.dr_desk.specs.Decisions.{protects_b}
use Rattle.dr_desk.proofs.plans.protect_b.Given as goal

abbrev pub invariant-loop-group : goal.invariant-loop-group
invariant-loop-group l = list_any (protects_b l.estate) (take l.group-index l.groups) ≡ false
