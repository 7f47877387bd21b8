-- Lists of numbers.
use Rattle.std.specs.Prelude.{ℕ, ◌==◌, Bool, List}
use Rattle.std.specs.List.{list_any}

-- whether a list has this number
abbrev pub has : List ℕ → ℕ → Bool
has numbers n = list_any (λ x. x == n) numbers
