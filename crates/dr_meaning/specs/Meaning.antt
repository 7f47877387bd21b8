-- What a finished run makes of a frame or a post.
use Rattle.std.specs.Prelude.{◌≡◌, ℕ, ◌==◌, Bool, true, false, ◌&&◌, ◌||◌, ◌⊎◌, IsTrue, List, Option, None, find}
use Rattle.std.specs.Bool.{MatchBool}
use Rattle.dr_meaning.specs.Types.{Side, Op, Placed, Post, StageKind, Stage, Record}
use Rattle.dr_outside.specs.Pairs.{Frame}
use Rattle.dr_base.specs.Sides.{same_side}
use Rattle.dr_meaning.specs.Testing.{with_snapshot}
use Rattle.dr_base.specs.Lists.{has}
use Rattle.dr_meaning.specs.Stages.{stage_at}
use Rattle.dr_meaning.specs.Visits.{Visit, visits, all, is_excused}
use Rattle.dr_meaning.specs.Runs.{Run, number, op, stages_of}
use Rattle.dr_meaning.specs.Outcomes.{split_frame, frozen_frame, reversed_frame, stopped, PostOutcome}

-- a number for each kind of stage
abbrev pub kind_number : StageKind → ℕ
kind_number StageKind.Sync = 0
kind_number StageKind.FinalSync = 1
kind_number StageKind.TestStart = 2
kind_number StageKind.TestStop = 3
kind_number StageKind.Prepare = 4
kind_number StageKind.Split = 5
kind_number StageKind.Reverse = 6
kind_number StageKind.Start = 7
kind_number StageKind.Stop = 8
kind_number StageKind.Clear = 9
kind_number StageKind.Command = 10
kind_number StageKind.Prompt = 11

-- whether two kinds are one
abbrev pub same_kind : StageKind → StageKind → Bool
same_kind a b = kind_number a == kind_number b

-- the last visit of a stage that passes the test, by a run's stages and log
abbrev pub last_visit_in : List Stage → List Record → (Stage → Bool) → Option Visit
last_visit_in stages log test = find (λ visit. test (stage_at stages visit.stage)) (visits log)

-- the same of a run
abbrev pub last_visit_of : Run → (Stage → Bool) → Option Visit
last_visit_of run test = last_visit_in (stages_of run) run.log test

-- whether a stage is a wave of this kind that has the machine
abbrev pub is_wave_of : StageKind → ℕ → Stage → Bool
is_wave_of kind machine stage = same_kind stage.kind kind && has stage.machines machine

-- whether a stage is of this kind
abbrev pub is_of_kind : StageKind → Stage → Bool
is_of_kind kind stage = same_kind stage.kind kind

-- whether a machine is left: an Aside of it is later than the last Begin of its Start stage
abbrev pub is_left : Run → ℕ → Bool
is_left run machine = is_excused machine (last_visit_of run (is_wave_of StageKind.Start machine))

-- whether a machine's stop was skipped; a forced failover counts as having skipped all work at the old side
abbrev pub is_stop_skipped : Run → ℕ → Bool
is_stop_skipped run machine = run.start.forced || is_excused machine (last_visit_of run (is_wave_of StageKind.Stop machine))

-- whether the freezing of the old side was skipped, alike
abbrev pub is_prepare_skipped : Run → Bool
is_prepare_skipped run = run.start.forced || is_excused all (last_visit_of run (is_of_kind StageKind.Prepare))

-- what a run makes of a frame
abbrev pub FrameMeaning : Op → Bool → Run → Frame → Frame → Type 0
FrameMeaning Op.Testing forced run x y = y ≡ with_snapshot (number run) x
FrameMeaning Op.Cleanup forced run x y = y ≡ record x { snapshot = None }
FrameMeaning Op.Migrate forced run x y = y ≡ split_frame run (frozen_frame run x)
FrameMeaning Op.Failover true run x y = y ≡ split_frame run x
FrameMeaning Op.Failover false run x y =
    (y ≡ split_frame run (frozen_frame run x))
    ⊎ (IsTrue (is_prepare_skipped run) × (y ≡ split_frame run x))
FrameMeaning Op.Reprotect forced run x y = y ≡ reversed_frame run (frozen_frame run x)

-- what a run makes of a machine's post at the old side
abbrev pub OldPostMeaning : Op → Bool → Run → ℕ → Post → Post → Type 0
OldPostMeaning Op.Testing forced run machine x y = y ≡ x
OldPostMeaning Op.Cleanup forced run machine x y = y ≡ x
OldPostMeaning Op.Migrate forced run machine x y = y ≡ stopped x
OldPostMeaning Op.Failover true run machine x y = y ≡ x
OldPostMeaning Op.Failover false run machine x y =
    (y ≡ stopped x) ⊎ (IsTrue (is_stop_skipped run machine) × (y ≡ x))
OldPostMeaning Op.Reprotect forced run machine x y = y ≡ Post.Placeholder

-- what a run makes of a machine's post at the new side
abbrev pub NewPostMeaning : Op → Run → ℕ → Placed → Post → Post → Type 0
NewPostMeaning Op.Testing run machine wanted x y = y ≡ Post.Ready wanted
NewPostMeaning Op.Cleanup run machine wanted x y = y ≡ Post.Placeholder
NewPostMeaning Op.Migrate run machine wanted x y = y ≡ Post.Ready wanted
NewPostMeaning Op.Failover run machine wanted x y =
    (y ≡ Post.Ready wanted) ⊎ (IsTrue (is_left run machine) × PostOutcome StageKind.Start wanted x y)
NewPostMeaning Op.Reprotect run machine wanted x y = y ≡ x

-- what a finished run means for a frame
abbrev pub MeansFrame : Run → Frame → Frame → Type 0
MeansFrame run x y = FrameMeaning (op run) run.start.forced run x y

-- what a finished run means for a machine's post at a side
abbrev pub MeansPost : Run → ℕ → Side → Placed → Post → Post → Type 0
MeansPost run machine side wanted x y =
    MatchBool (same_side side run.old)
    (OldPostMeaning (op run) run.start.forced run machine x y)
    (NewPostMeaning (op run) run machine wanted x y)
