use Rattle.std.proofs.Common.{◌≡◌, [], replicate}
use Rattle.dr_plan.specs.Lists.{items_of}
use Rattle.dr_plan.proofs.wave_lists.empty_lists.Given as goal

abbrev pub invariant-loop : goal.invariant-loop
invariant-loop l = items_of l.lists.items ≡ replicate l.counter []
