-- Counts by side.
use Rattle.std.specs.Prelude.{ℕ}
use Rattle.dr_base.specs.declared.side.Side.{Side}
use Rattle.dr_base.specs.Causes.{one_more}
use Rattle.dr_outside.specs.declared.sides.Sides.{Sides}
use Rattle.dr_outside.specs.BySide.{at, put}

-- one more at this side
abbrev pub one_more_at : Side → Sides ℕ → Sides ℕ
one_more_at side counts = put side (one_more (at side counts)) counts
