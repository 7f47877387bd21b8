-- In a lawful journal, where a Finish of a run may come: what the run may have made of an object is what it means.
use Rattle.std.specs.Prelude.{◌≡◌, ◌↔◌, ℕ, ◌==◌, true, false, List, [], Some}
use Rattle.std.proofs.Common.{sym, ap, ◌∙◌, subst}
use Rattle.dr_meaning.specs.Types.{Side, Op, Placed, Post, PlanMachine, Record}
use Rattle.dr_meaning.specs.declared.stage.StageKind.{StageKind}
use Rattle.dr_outside.specs.Pairs.{Frame}
use Rattle.dr_base.specs.Sides.{same_side}
use Rattle.dr_meaning.specs.Stages.{stages}
use Rattle.dr_meaning.specs.Runs.{Setting, Run, number, op, stages_of, run_at, runs_of}
use Rattle.dr_meaning.specs.Reach.{ReachFrame, ReachPost}
use Rattle.dr_meaning.specs.Meaning.{is_wave_of, is_left, MeansFrame, MeansPost}
use Rattle.dr_meaning.specs.Lawful.{MayFinish, LawfulAfter}
use Rattle.dr_meaning.specs.Backing.{HasRegularPlans}
use Rattle.dr_meaning.proofs.Lists.{each-find}
use Rattle.dr_model.proofs.StageLaws.{IsMachineOf}
use Rattle.dr_model.proofs.LogLaws.{IsGoneThrough, gone-lawful}
use Rattle.dr_model.proofs.ExcuseLaws.{ExcusesRightly, excuses-lawful}
use Rattle.dr_model.proofs.SequenceLaws.{IsInSequence, sequence-lawful}
use Rattle.dr_model.proofs.FinishLaws.{finish_frame, finish_post}
use Rattle.dr_model.proofs.ChainLaws.{HasPlan, kept-lawful}
use Rattle.dr_model.proofs.PostLaws.{empty_kept}
use Rattle.dr_model.proofs.EqualLaws.{IsSingle, frame_reached, post_reached}
use Rattle.dr_model.proofs.StopWaves.{stop_single}

module _ (setting : Setting) (records : List Record) (n : ℕ) (r : Run) (machines : List ℕ) (lawful : LawfulAfter setting [] records) (at_n : run_at n (runs_of setting records) ≡ Some r) (may : MayFinish r machines) where
  its_gone : IsGoneThrough r
  its_gone = each-find IsGoneThrough (λ q. number q == n) (runs_of setting records) r (gone-lawful setting [] records lawful tt tt) at_n

  its_excuses : ExcusesRightly r
  its_excuses = each-find ExcusesRightly (λ q. number q == n) (runs_of setting records) r (excuses-lawful setting records lawful) at_n

  its_sequence : IsInSequence r
  its_sequence = each-find IsInSequence (λ q. number q == n) (runs_of setting records) r (sequence-lawful setting records lawful) at_n

  -- frames: equal as sets
  pub frames_equal : (x y : Frame) → ReachFrame r x y ↔ MeansFrame r x y
  frames_equal x y = (finish_frame r machines its_gone its_excuses may x y, frame_reached r machines its_gone its_excuses may its_sequence x y)

  -- posts of a machine of the plan: equal as sets at the old side, in a failover that isn't forced by regular plans, and at the new side, where the machine isn't left
  pub posts_equal : (m : PlanMachine) → IsMachineOf r.plan m → (w : Placed) (side : Side) → (same_side side r.old ≡ true → op r ≡ Op.Failover → r.start.forced ≡ false → HasRegularPlans setting) → (same_side side r.old ≡ false → is_left r m.machine ≡ false) → (x y : Post) → ReachPost r m.machine side w x y ↔ MeansPost r m.machine side w x y
  posts_equal m of_plan w side regular kept x y =
      (finish_post r machines its_gone its_excuses may m of_plan w x y side, post_reached r machines its_gone its_excuses may m of_plan its_sequence w side single kept x y)
    where
      its_plan : HasPlan setting r
      its_plan = each-find (HasPlan setting) (λ q. number q == n) (runs_of setting records) r (kept-lawful setting [] records lawful (empty_kept setting)).plans at_n

      single : same_side side r.old ≡ true → op r ≡ Op.Failover → r.start.forced ≡ false → IsSingle (stages_of r) (is_wave_of StageKind.Stop m.machine)
      single s e f =
          subst (λ ss. IsSingle ss (is_wave_of StageKind.Stop m.machine)) (sym (ap (λ o. stages r.plan o r.start.forced) e ∙ ap (λ b. stages r.plan Op.Failover b) f))
          (stop_single r.plan (regular s e f r.start.plan r.plan its_plan.plan).ordered m.machine)
