use Rattle.std.proofs.Common.{◌≡◌, ℕ, take, get_or, if◌then◌else◌}
use Rattle.std.specs.Prelude.{slice_get}
use Rattle.std.specs.List.{list_any}
use Rattle.dr_base.specs.declared.side.Side.TheVariants.{A}
use Rattle.dr_base.specs.Lists.{has}
use Rattle.dr_sim.specs.Openings.{devices_in}
use Rattle.dr_sim.proofs.opening.protect_group.Given as goal

abbrev pub invariant-loop-datastore : goal.invariant-loop-datastore
invariant-loop-datastore l =
    (i : ℕ) → get_or l.sides i A
    ≡ (if list_any (λ d. has (devices_in (slice_get l.estate.datastores d)) i) (take l.datastore-index l.datastores) then l.group.protects else get_or l.initial.sides i A)
