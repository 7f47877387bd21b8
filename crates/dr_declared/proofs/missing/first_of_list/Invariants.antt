use Rattle.std.proofs.Common.{◌≡◌, ◌<◌, ℕ, get_or}
use Rattle.std.specs.Prelude.{None}
use Rattle.dr_declared.specs.Missing.{missing}
use Rattle.dr_declared.proofs.missing.first_of_list.Given as goal

abbrev pub invariant-loop-machine : goal.invariant-loop-machine
invariant-loop-machine l = (k : ℕ) → k < l.machine-index → missing l.estate (get_or l.machines k 0) l.home ≡ None
