use Rattle.std.proofs.Common.{◌≡◌, ℕ, ◌-◌, drop, length, get_or}
use Rattle.dr_base.specs.declared.side.Side.TheVariants.{A}
use Rattle.dr_sim.specs.Openings.{protected_at}
use Rattle.dr_sim.proofs.opening.protect_all.Given as goal

abbrev pub invariant-loop-later : goal.invariant-loop-later
invariant-loop-later l = (i : ℕ) → get_or l.sides i A ≡ protected_at l.estate (drop (length l.groups - l.later) l.groups) i
