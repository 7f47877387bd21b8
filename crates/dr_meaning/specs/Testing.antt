-- What a test leaves of pairs and machines.
use Rattle.std.specs.Prelude.{ℕ, ◌≡◌, ◌≤◌, true, Some}
use Rattle.dr_base.specs.declared.side.Side.{Side}
use Rattle.dr_base.specs.Sides.{other}
use Rattle.dr_base.specs.declared.placement.Placement.{Placement}
use Rattle.dr_outside.specs.declared.pair.Content.{Content}
use Rattle.dr_outside.specs.declared.pair.Pair.{Pair}
use Rattle.dr_outside.specs.declared.machine.Placed.{Placed}
use Rattle.dr_outside.specs.declared.machine.Post.TheVariants.{Ready}
use Rattle.dr_outside.specs.BySide.{at}
use Rattle.dr_outside.specs.Pairs.{Frame, Drift}
use Rattle.dr_outside.specs.Machines.{PortState}

-- a frame with a snapshot of this run
abbrev pub with_snapshot : ℕ → Frame → Frame
with_snapshot run frame = record frame { snapshot = Some run }

-- a pair differs by drift and by its snapshot alone
abbrev pub DriftsButSnapshot : Pair → Pair → Type 0
DriftsButSnapshot old new = Drift old (record new { snapshot = old.snapshot })

-- a pair after a finished test: it drifted, and has a snapshot of this run, of its source's line, with at least the writes that the source had, and no more than it has
pub record HasTestSnapshot (run : ℕ) (old new : Pair) : Type 0 where
  pub rest : DriftsButSnapshot old new
  pub content : Content
  pub snapshot : new.snapshot ≡ Some (record { run = run; content = content })
  pub line : content.line ≡ (at old.source old.content).line
  pub at_least : (at old.source old.content).writes ≤ content.writes
  pub at_most : content.writes ≤ (at old.source new.content).writes

-- a placement in a test bubble
abbrev pub in_bubble : Placement → Placed
in_bubble place = record { place = place; bubble = true }

-- a machine without commands after a finished test, of which this side is the recovery side: ready there as wanted, and otherwise as it was
pub record IsTestedMachine (recovery : Side) (wanted : Placed) (old new : PortState) : Type 0 where
  pub ready : at recovery new.post ≡ Ready wanted
  pub protected : at (other recovery) new.post ≡ at (other recovery) old.post
  pub kept : new.kept ≡ old.kept
