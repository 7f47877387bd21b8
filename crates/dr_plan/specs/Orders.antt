-- What holds of each plan that was read, and of its waves.
use Rattle.std.specs.Prelude.{ℕ, ◌≡◌, ◌≢◌, ◌<◌, ◌≤◌, ◌⊎◌, List, [], map, Contains, Some, slice_get, All}
use Rattle.std.specs.List.Sorted.{IsStrictlyIncreasing}
use Rattle.dr_plan.specs.declared.plan.PlanMachine.{PlanMachine}
use Rattle.dr_plan.specs.declared.plan.Wave.{Wave}
use Rattle.dr_plan.specs.declared.plan.Plan.{Plan}

-- a priority from 1 to 5
pub record IsPriority (priority : ℕ) : Type 0 where
  pub least : 1 ≤ priority
  pub greatest : priority ≤ 5

-- this machine is in the plan, with this priority and a depth below this one
pub record IsShallower (plan : Plan) (priority depth machine : ℕ) : Type 0 where
  pub entry : PlanMachine
  pub listed : Contains plan.machines entry
  pub number : entry.machine ≡ machine
  pub same_priority : entry.priority ≡ priority
  pub lower : entry.depth < depth

-- machines ascend and their priorities are 1 to 5; a dependency is in the plan, with the same priority and a lower depth; steps come before a priority
pub record IsOrdered (plan : Plan) : Type 0 where
  pub ascending : IsStrictlyIncreasing (map (λ m. m.machine) plan.machines)
  pub priorities : All (λ m. IsPriority m.priority) plan.machines
  pub dependencies : (m : PlanMachine) (k : ℕ) → Contains plan.machines m → Contains m.after k → IsShallower plan m.priority m.depth k
  pub steps : All (λ s. IsPriority s.before) plan.steps

-- the first wave comes before the second: it has a lower priority, or the same and a lower depth
abbrev pub IsEarlierWave : Wave → Wave → Type 0
IsEarlierWave v w = (v.priority < w.priority) ⊎ ((v.priority ≡ w.priority) × (v.depth < w.depth))

-- the machine of the plan that this number names has this priority and this depth
pub record IsAt (plan : Plan) (priority depth machine : ℕ) : Type 0 where
  pub entry : PlanMachine
  pub listed : Contains plan.machines entry
  pub number : entry.machine ≡ machine
  pub same_priority : entry.priority ≡ priority
  pub same_depth : entry.depth ≡ depth

-- a wave of the plan: all machines of its priority and its depth, ascending, at least one
pub record IsWave (plan : Plan) (wave : Wave) : Type 0 where
  pub ascending : IsStrictlyIncreasing wave.machines
  pub only : (k : ℕ) → Contains wave.machines k → IsAt plan wave.priority wave.depth k
  pub all : (k : ℕ) → IsAt plan wave.priority wave.depth k → Contains wave.machines k
  pub some : wave.machines ≢ []

-- one of these waves has this priority and depth, and has this machine
pub record HasIn (list : List Wave) (priority depth machine : ℕ) : Type 0 where
  pub wave : Wave
  pub listed : Contains list wave
  pub same_priority : wave.priority ≡ priority
  pub same_depth : wave.depth ≡ depth
  pub of_wave : Contains wave.machines machine

-- each wave before the next, each a wave of the plan, and each machine in the wave of its priority and depth
pub record AreWaves (plan : Plan) (list : List Wave) : Type 0 where
  pub in_order : (i j : ℕ) (v w : Wave) → i < j → slice_get list i ≡ Some v → slice_get list j ≡ Some w → IsEarlierWave v w
  pub each : All (IsWave plan) list
  pub complete : (m : PlanMachine) → Contains plan.machines m → HasIn list m.priority m.depth m.machine
