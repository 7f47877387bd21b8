-- A value that is put at one side.
use Rattle.std.proofs.Common.{◌≡◌, refl}
use Rattle.dr_base.specs.declared.side.Side.{Side}
use Rattle.dr_base.specs.declared.side.Side.TheVariants.{A, B}
use Rattle.dr_base.specs.Sides.{other}
use Rattle.dr_outside.specs.declared.sides.Sides.{Sides}
use Rattle.dr_outside.specs.BySide.{at, put}

pub at-put_same : {T : Type 0} (side : Side) (x : T) (sides : Sides T) → at side (put side x sides) ≡ x
at-put_same A x sides = refl
at-put_same B x sides = refl

pub at-put_other : {T : Type 0} (side : Side) (x : T) (sides : Sides T) → at (other side) (put side x sides) ≡ at (other side) sides
at-put_other A x sides = refl
at-put_other B x sides = refl
