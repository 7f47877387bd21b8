-- The two sites.
use Rattle.std.specs.Prelude.{Bool, true, false}
use Rattle.dr_base.specs.declared.side.Side.{Side}
use Rattle.dr_base.specs.declared.side.Side.TheVariants.{A, B}

-- the other site
abbrev pub other : Side → Side
other A = B
other B = A

-- whether two sites are one
abbrev pub same_side : Side → Side → Bool
same_side A A = true
same_side A B = false
same_side B A = false
same_side B B = true
