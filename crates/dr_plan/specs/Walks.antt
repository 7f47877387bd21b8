-- Walks along dependencies, and what the search for cycles keeps on its way.
use Rattle.std.specs.Prelude.{ℕ, ◌≡◌, ◌≢◌, ◌<◌, ◌≤◌, ◌+◌, ◌⊎◌, ◌↔◌, Bool, cond, List, length, take, sum_by, Contains, slice_index}
use Rattle.dr_groups.specs.Marks.{IsMarked}
use Rattle.dr_plan.specs.Cycles.{DependsOn, IsDependencyChain, IsOnCycle}

-- a chain of dependencies leads from the one machine to the other, or they are the same
pub record LeadsTo (graph : List (List ℕ)) (a b : ℕ) : Type 0 where
  pub machines : List ℕ
  pub chain : IsDependencyChain graph a machines b

-- the other graph gives each machine those that depend on it
pub record IsTurned (graph dependents : List (List ℕ)) : Type 0 where
  pub one_each : length dependents ≡ length graph
  pub turned : (a b : ℕ) → DependsOn dependents a b ↔ DependsOn graph b a

-- how many machines aren't marked
abbrev pub unmarked : List Bool → ℕ
unmarked marks = sum_by (λ mark. cond mark 0 1) marks

-- the machine leads to one that isn't among these
pub record LeadsOutside (graph : List (List ℕ)) (finished : List ℕ) (machine : ℕ) : Type 0 where
  pub end : ℕ
  pub outside : ¬ Contains finished end
  pub leads : LeadsTo graph machine end

-- what leads to the machine is led to by it, or leads out of these
abbrev pub IsSettled : List (List ℕ) → List ℕ → ℕ → Type 0
IsSettled graph finished machine = (a : ℕ) → LeadsTo graph a machine → LeadsTo graph machine a ⊎ LeadsOutside graph finished a

-- an order in which each machine is settled among those up to itself
abbrev pub IsFinishOrder : List (List ℕ) → List ℕ → Type 0
IsFinishOrder graph order = (k : ℕ) → k < length order → IsSettled graph (take (k + 1) order) (slice_index order k)

-- a walk: finished machines are seen, and all that they depend on; they finished in order
pub record IsWalk (graph : List (List ℕ)) (seen : List Bool) (finished : List ℕ) : Type 0 where
  pub one_each : length seen ≡ length graph
  pub marked : (k : ℕ) → Contains finished k → IsMarked seen k
  pub followed : (k d : ℕ) → Contains finished k → DependsOn graph k d → IsMarked seen d
  pub in_order : IsFinishOrder graph finished

-- the machine wasn't seen, and one of the starts leads to it
pub record IsReached (graph : List (List ℕ)) (starts : List ℕ) (seen : List Bool) (machine : ℕ) : Type 0 where
  pub unseen : ¬ IsMarked seen machine
  pub start : ℕ
  pub among : Contains starts start
  pub leads : LeadsTo graph start machine

-- a walk that went on from each of the starts: what it saw has finished, and is what it reached
pub record WentOn (graph : List (List ℕ)) (starts : List ℕ) (seen : List Bool) (finished : List ℕ) (seen_after : List Bool) (finished_after : List ℕ) : Type 0 where
  pub all : (k : ℕ) → Contains starts k → IsMarked seen_after k
  pub kept : (k : ℕ) → IsMarked seen k → IsMarked seen_after k
  pub ended : (k : ℕ) → IsMarked seen_after k → IsMarked seen k ⊎ Contains finished_after k
  pub stays : (k : ℕ) → Contains finished k → Contains finished_after k
  pub reached : (k : ℕ) → Contains finished_after k → Contains finished k ⊎ IsReached graph starts seen k
  pub fewer : unmarked seen_after ≤ unmarked seen

-- some of these machines is another one
pub record HasOther (machines : List ℕ) (machine : ℕ) : Type 0 where
  pub other : ℕ
  pub listed : Contains machines other
  pub apart : other ≢ machine

-- what leads to a seen machine is seen, and of the seen machines exactly those on a cycle are marked
pub record IsDecided (graph : List (List ℕ)) (seen marks : List Bool) : Type 0 where
  pub one_each : length seen ≡ length graph
  pub one_mark_each : length marks ≡ length graph
  pub closed : (a b : ℕ) → DependsOn graph a b → IsMarked seen b → IsMarked seen a
  pub within : (k : ℕ) → IsMarked marks k → IsMarked seen k
  pub exactly : (k : ℕ) → IsMarked seen k → IsMarked marks k ↔ IsOnCycle graph k

-- each of these machines, from this place on, is seen
abbrev pub AreSeenFrom : List Bool → List ℕ → ℕ → Type 0
AreSeenFrom seen order place = (k : ℕ) → place ≤ k → k < length order → IsMarked seen (slice_index order k)
