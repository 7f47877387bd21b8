-- Where the machines of a test run, and in which wave each starts.
use Rattle.std.specs.Prelude.{ℕ, ◌≡◌, ◌<◌, ◌==◌, Bool, true, List, [], length, Some, slice_get, IsOk, All}
use Rattle.std.specs.List.{list_any, position_or_len}
use Rattle.std.specs.List.Sorted.{IsStrictlyIncreasing}
use Rattle.std.specs.Result.{result_unwrap_or}
use Rattle.dr_base.specs.declared.side.Side.TheVariants.{A, B}
use Rattle.dr_base.specs.declared.placement.Placement.{Placement}
use Rattle.dr_inventory.specs.declared.estate.Estate.{Estate}
use Rattle.dr_mappings.specs.Placements.{place_of}
use Rattle.dr_plan.specs.declared.plan.Plan.{Plan}
use Rattle.dr_plan.specs.declared.plan.Wave.{Wave}
use Rattle.dr_outside.specs.declared.machine.Placed.{Placed}
use Rattle.dr_base.specs.Lists.{has}
use Rattle.dr_meaning.specs.Expected.{no_place}
use Rattle.dr_meaning.specs.Testing.{in_bubble}

-- where a test runs a machine: at B, in a bubble, where A is protected
abbrev pub wanted_place : Estate → ℕ → Placement
wanted_place estate machine = result_unwrap_or (place_of estate machine A B true) no_place

-- the same, with its bubble
abbrev pub wanted_at : Estate → ℕ → Placed
wanted_at estate machine = in_bubble (wanted_place estate machine)

-- whether this machine has a place in a test
abbrev pub IsPlaced : Estate → ℕ → Type 0
IsPlaced estate machine = IsOk (place_of estate machine A B true)

-- whether a machine is one of the plan
abbrev pub is_planned : Plan → ℕ → Bool
is_planned plan machine = list_any (λ m. m.machine == machine) plan.machines

-- the number of the first wave that has this machine, or how many waves there are
abbrev pub wave_of : List Wave → ℕ → ℕ
wave_of waves machine = position_or_len (λ w. has w.machines machine) waves

-- machines that can be started one after another: they ascend, are the estate's, and each has its place
pub record IsStartable (estate : Estate) (machines : List ℕ) : Type 0 where
  pub ascending : IsStrictlyIncreasing machines
  pub within : All (λ k. k < length estate.machines) machines
  pub placed : All (IsPlaced estate) machines

-- each wave can be started, and no machine is in two
pub record AreStartable (estate : Estate) (waves : List Wave) : Type 0 where
  pub each : All (λ w. IsStartable estate w.machines) waves
  pub apart : (n machine : ℕ) (w : Wave) → slice_get waves n ≡ Some w → has w.machines machine ≡ true → wave_of waves machine ≡ n
