-- In a lawful journal: what is expected stays so at a Begin and at a Finish, and a call at a machine leads to what is expected.
use Rattle.std.specs.Prelude.{◌≡◌, ℕ, ◌==◌, true, false, List, [], ◌∷◌, Some}
use Rattle.std.proofs.Common.{◌∙◌}
use Rattle.dr_groups.specs.Groups.{IsMachineOf as IsOfGroup}
use Rattle.dr_outside.specs.Pairs.{Frame}
use Rattle.dr_meaning.specs.Types.{Side, Post, Record}
use Rattle.dr_meaning.specs.Stages.{stage_at}
use Rattle.dr_meaning.specs.Visits.{visits, begun}
use Rattle.dr_meaning.specs.Runs.{Setting, Run, number, stages_of, is_finished, last_of_group, add_record, runs_of}
use Rattle.dr_meaning.specs.Outcomes.{PostOutcome}
use Rattle.dr_meaning.specs.Reach.{works}
use Rattle.dr_meaning.specs.Expected.{wanted, ExpectedFrame, ExpectedPost}
use Rattle.dr_meaning.specs.Lawful.{MayCome, LawfulAfter}
use Rattle.dr_meaning.specs.Backing.{HasRegularPlans}
use Rattle.dr_meaning.proofs.Lists.{each-find}
use Rattle.dr_model.proofs.ReachLaws.{begun_visit}
use Rattle.dr_model.proofs.PostWalk.{post-call}
use Rattle.dr_model.proofs.TableLaws.{table_falls}
use Rattle.dr_model.proofs.ChainLaws.{HasPlan}
use Rattle.dr_model.proofs.JournalLaws.{plain_frame}
use Rattle.dr_model.proofs.FinishLaws.{lawful-finish_frame, lawful-finish_post}
use Rattle.dr_model.proofs.SoundAppend.{well_of, gone_of, rightly_of}
use Rattle.dr_model.proofs.Regular.{planned_machine}
use Rattle.dr_model.proofs.LawSteps.{IsUnderWay, under_way}

-- a Begin leaves each expected frame expected
pub begin_keeps_frames : (setting : Setting) (records : List Record) (n stage g : ℕ) (y : Frame) → LawfulAfter setting [] records → MayCome setting (runs_of setting records) (Record.Begin n stage) → ExpectedFrame setting.estate g (runs_of setting records) y → ExpectedFrame setting.estate g (add_record setting (runs_of setting records) (Record.Begin n stage)) y
begin_keeps_frames setting records n stage g y lawful may = plain_frame setting (runs_of setting records) (well_of setting records lawful) (Record.Begin n stage) tt may g y

-- a Finish leaves each expected frame expected
pub finish_keeps_frames : (setting : Setting) (records : List Record) (n moment : ℕ) (machines : List ℕ) (g : ℕ) (y : Frame) → LawfulAfter setting [] records → MayCome setting (runs_of setting records) (Record.Finish n moment machines) → ExpectedFrame setting.estate g (runs_of setting records) y → ExpectedFrame setting.estate g (add_record setting (runs_of setting records) (Record.Finish n moment machines)) y
finish_keeps_frames setting records n moment machines g y lawful may =
    lawful-finish_frame setting (runs_of setting records) (well_of setting records lawful).table (gone_of setting records lawful) (rightly_of setting records lawful) n moment machines may g y

-- and each expected post of a machine of the group
pub finish_keeps_posts : (setting : Setting) (records : List Record) (n moment : ℕ) (machines : List ℕ) (g m : ℕ) (side : Side) (y : Post) → LawfulAfter setting [] records → HasRegularPlans setting → MayCome setting (runs_of setting records) (Record.Finish n moment machines) → IsOfGroup setting.estate g m → ExpectedPost setting.estate g m side (runs_of setting records) y → ExpectedPost setting.estate g m side (add_record setting (runs_of setting records) (Record.Finish n moment machines)) y
finish_keeps_posts setting records n moment machines g m side y lawful plans may of_group =
    let well = well_of setting records lawful in
    lawful-finish_post setting (runs_of setting records) well.table (gone_of setting records lawful) (rightly_of setting records lawful) n moment machines may g m side y
    (λ r at_n held. planned_machine setting plans r (each-find (HasPlan setting) (λ run. number run == n) (runs_of setting records) r well.plans at_n) g m held of_group)

-- a call of the begun stage at a machine leads from a post that is expected to one that is
pub call_keeps_post : (setting : Setting) (records : List Record) (g m : ℕ) (side : Side) (r : Run) (stage : ℕ) (y z : Post) → LawfulAfter setting [] records → last_of_group g (runs_of setting records) ≡ Some r → is_finished r ≡ false → begun r.log ≡ Some stage → works r (stage_at (stages_of r) stage) m side ≡ true → ExpectedPost setting.estate g m side (runs_of setting records) y → PostOutcome (stage_at (stages_of r) stage).kind (wanted g r m) y z → ExpectedPost setting.estate g m side (runs_of setting records) z
call_keeps_post setting records g m side r stage y z lawful last going its worked expected out = go (under_way r.log stage its)
  where
    go : IsUnderWay r.log stage → ExpectedPost setting.estate g m side (runs_of setting records) z
    go way =
        let shape : visits r.log ≡ begun_visit stage way.visit.excused ∷ way.earlier = way.shape ∙ (λ i. record { stage = way.of_stage i; done = way.undone i; excused = way.visit.excused } ∷ way.earlier) in
        post-call setting.estate g m side (runs_of setting records) r (table_falls (runs_of setting records) (well_of setting records lawful).table) last going stage way.visit.excused way.earlier y z shape worked out expected
