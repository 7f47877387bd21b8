-- The machines of a plan by priority and depth.
use Rattle.std.specs.Prelude.{ℕ, ◌+◌, ◌==◌, ◌&&◌, max, List, [], ◌∷◌, map, filter, flat_map}
use Rattle.std.specs.List.{range_with_len}
use Rattle.dr_plan.specs.declared.plan.PlanMachine.{PlanMachine}
use Rattle.dr_plan.specs.declared.plan.Wave.{Wave}
use Rattle.dr_plan.specs.declared.plan.Plan.{Plan}

-- 0 of no numbers, else one more than the greatest of them
abbrev pub above : List ℕ → ℕ
above [] = 0
above (n ∷ ns) = max (n + 1) (above ns)

-- the machines of this priority and this depth, in the order in which they stand
abbrev pub machines_at : List PlanMachine → ℕ → ℕ → List ℕ
machines_at machines priority depth = map (λ m. m.machine) (filter (λ m. (m.priority == priority) && (m.depth == depth)) machines)

-- the wave of these machines, if there are any
abbrev pub wave_of : ℕ → ℕ → List ℕ → List Wave
wave_of priority depth [] = []
wave_of priority depth (k ∷ ks) = record { priority = priority; depth = depth; machines = k ∷ ks } ∷ []

-- the wave of this priority and this depth, if a machine has both
abbrev pub wave_at : List PlanMachine → ℕ → ℕ → List Wave
wave_at machines priority depth = wave_of priority depth (machines_at machines priority depth)

-- the depths that machines have, from 0 to the greatest
abbrev pub depths_in : List PlanMachine → List ℕ
depths_in machines = range_with_len 0 (above (map (λ m. m.depth) machines))

-- the waves of this priority, by ascending depth
abbrev pub waves_at : List PlanMachine → ℕ → List Wave
waves_at machines priority = flat_map (wave_at machines priority) (depths_in machines)

-- the priorities
abbrev pub priorities : List ℕ
priorities = 1 ∷ 2 ∷ 3 ∷ 4 ∷ 5 ∷ []

-- the waves of these machines, by ascending priority and depth
abbrev pub waves_in : List PlanMachine → List Wave
waves_in machines = flat_map (waves_at machines) priorities

-- the waves of a plan, by ascending priority and depth
abbrev pub waves_of : Plan → List Wave
waves_of plan = waves_in plan.machines
