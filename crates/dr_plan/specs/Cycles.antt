-- Dependencies, chains of them, and cycles. A graph gives each machine the machines that it depends on.
use Rattle.std.specs.Prelude.{ℕ, ◌≡◌, List, [], ◌∷◌, length, All, Contains, Some, slice_get}
use Rattle.dr_inventory.specs.Sound.{AllBelow}

-- each number in a graph is one of its machines
abbrev pub IsGraph : List (List ℕ) → Type 0
IsGraph graph = All (AllBelow (length graph)) graph

-- the one machine depends on the other
pub record DependsOn (graph : List (List ℕ)) (a b : ℕ) : Type 0 where
  pub row : List ℕ
  pub found : slice_get graph a ≡ Some row
  pub named : Contains row b

-- a chain of machines that begins at `a` and ends at `b`, and after `a` has these, in which each one depends on the next
abbrev pub IsDependencyChain : List (List ℕ) → ℕ → List ℕ → ℕ → Type 0
IsDependencyChain graph a [] b = a ≡ b
IsDependencyChain graph a (next ∷ rest) b = DependsOn graph a next × IsDependencyChain graph next rest b

-- a chain of one or more dependencies leads from the machine to itself
pub record IsOnCycle (graph : List (List ℕ)) (machine : ℕ) : Type 0 where
  pub next : ℕ
  pub rest : List ℕ
  pub chain : IsDependencyChain graph machine (next ∷ rest) machine
