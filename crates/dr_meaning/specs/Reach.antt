-- What a run that isn't finished, open or taken over, may have made of a frame or a post so far.
use Rattle.std.specs.Prelude.{◌≡◌, ℕ, Bool, ◌&&◌, not, List, [], ◌∷◌}
use Rattle.std.specs.Bool.{MatchBool}
use Rattle.dr_meaning.specs.Types.{Side, Op, Placed, Post, StageKind, Stage}
use Rattle.dr_outside.specs.Pairs.{Frame}
use Rattle.dr_base.specs.Sides.{other, same_side}
use Rattle.dr_base.specs.Lists.{has}
use Rattle.dr_meaning.specs.Stages.{stage_at}
use Rattle.dr_meaning.specs.Visits.{Visit, visits, all}
use Rattle.dr_meaning.specs.Runs.{Run, op, stages_of}
use Rattle.dr_meaning.specs.Outcomes.{made_frame, FrameOutcome, made_post, PostOutcome}

-- y comes from x over these visits, newest first, one step for each
abbrev pub Through : {X : Type 0} → (Visit → X → X → Type 0) → List Visit → X → X → Type 0
Through Step [] x y = y ≡ x
Through {X} Step (visit ∷ earlier) x y = (mid : X) × Through Step earlier x mid × Step visit mid y

-- whether a visit is done, and doesn't excuse this machine, or all pairs
abbrev pub is_complete : ℕ → Visit → Bool
is_complete machine visit = visit.done && not (has visit.excused machine)

-- the stage that a visit works
abbrev pub stage_of : Run → Visit → Stage
stage_of run visit = stage_at (stages_of run) visit.stage

-- y is left over a visit: what its stage makes, if the visit is complete, and else one of the stage's outcomes
abbrev pub MadeOr : {X : Type 0} → (complete : Bool) → (made : X) → (Outcome : X → Type 0) → X → Type 0
MadeOr complete made Outcome y = MatchBool complete (y ≡ made) (Outcome y)

-- a frame over one visit
abbrev pub FrameStep : Run → Visit → Frame → Frame → Type 0
FrameStep run visit x y = MadeOr (is_complete all visit) (made_frame run (stage_of run visit).kind x) (FrameOutcome run (stage_of run visit).kind x) y

-- what the run may have made of a frame
abbrev pub ReachFrame : Run → Frame → Frame → Type 0
ReachFrame run x y = Through (FrameStep run) (visits run.log) x y

-- the side at which machines are removed: after a test the new one, in a reprotect the old one; no other operation removes any
abbrev pub side_of_clear : Op → (old : Side) → Side
side_of_clear Op.Cleanup old = other old
side_of_clear Op.Testing old = old
side_of_clear Op.Migrate old = old
side_of_clear Op.Failover old = old
side_of_clear Op.Reprotect old = old

-- the side at which a stage works machines: it starts them at the new side, stops them at the old one, and removes them as above; any other stage has none
abbrev pub side_of_wave : Op → (old : Side) → StageKind → Side
side_of_wave op old StageKind.Start = other old
side_of_wave op old StageKind.Clear = side_of_clear op old
side_of_wave op old StageKind.Sync = old
side_of_wave op old StageKind.FinalSync = old
side_of_wave op old StageKind.TestStart = old
side_of_wave op old StageKind.TestStop = old
side_of_wave op old StageKind.Prepare = old
side_of_wave op old StageKind.Split = old
side_of_wave op old StageKind.Reverse = old
side_of_wave op old StageKind.Stop = old
side_of_wave op old StageKind.Command = old
side_of_wave op old StageKind.Prompt = old

-- whether the stage works the machine at this side
abbrev pub works : Run → Stage → ℕ → Side → Bool
works run stage machine side = has stage.machines machine && same_side side (side_of_wave (op run) run.old stage.kind)

-- a post over one visit of a stage that works the machine there
abbrev pub WorkedPost : Run → ℕ → Placed → Visit → Post → Post → Type 0
WorkedPost run machine wanted visit x y =
    MadeOr (is_complete machine visit) (made_post (stage_of run visit).kind wanted x) (PostOutcome (stage_of run visit).kind wanted x) y

-- a post over one visit: any other stage leaves it
abbrev pub PostStep : Run → ℕ → Side → Placed → Visit → Post → Post → Type 0
PostStep run machine side wanted visit x y =
    MatchBool (works run (stage_of run visit) machine side) (WorkedPost run machine wanted visit x y) (y ≡ x)

-- what the run may have made of a machine's post at a side
abbrev pub ReachPost : Run → ℕ → Side → Placed → Post → Post → Type 0
ReachPost run machine side wanted x y = Through (PostStep run machine side wanted) (visits run.log) x y
