-- Lists of machines by depth, on their way to waves.
use Rattle.std.specs.Prelude.{ℕ, ◌+◌, List, [], ◌∷◌, ◌++◌, map, Vec}
use Rattle.std.specs.Global.{Global}
use Rattle.dr_plan.specs.declared.plan.Wave.{Wave}
use Rattle.dr_plan.specs.Waves.{wave_of}

-- what each list holds
abbrev pub items_of : List (Vec ℕ Global) → List (List ℕ)
items_of lists = map (λ list. list.items) lists

-- the waves of these lists, where the first one has this depth and each other one more than the one before
unfoldable pub waves_from : ℕ → ℕ → List (List ℕ) → List Wave
waves_from priority depth [] = []
waves_from priority depth (list ∷ lists) = wave_of priority depth list ++ waves_from priority (depth + 1) lists
