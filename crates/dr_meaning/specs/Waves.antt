-- Waves picked from a list.
use Rattle.std.specs.Prelude.{ℕ, ◌==◌, List, filter}
use Rattle.dr_meaning.specs.Types.{Wave}

-- those of one priority
abbrev pub of_priority : ℕ → List Wave → List Wave
of_priority priority waves = filter (λ w. w.priority == priority) waves
