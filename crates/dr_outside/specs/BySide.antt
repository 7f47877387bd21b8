-- Values by side.
use Rattle.std.specs.Prelude.{Bool, true, false}
use Rattle.dr_base.specs.declared.side.Side.{Side}
use Rattle.dr_base.specs.declared.side.Side.TheVariants.{A, B}
use Rattle.dr_outside.specs.declared.sides.Sides.{Sides}

-- what stands at a side
abbrev pub at : {T : Type 0} → Side → Sides T → T
at A sides = sides.a
at B sides = sides.b

-- the same, but for x at this side
abbrev pub put : {T : Type 0} → Side → T → Sides T → Sides T
put A x sides = record sides { a = x }
put B x sides = record sides { b = x }

-- true at this side alone
abbrev pub only : Side → Sides Bool
only A = record { a = true; b = false }
only B = record { a = false; b = true }
