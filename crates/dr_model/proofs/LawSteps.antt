-- The laws of runs as contracts name them: of a lawful list of records behind the Estate.
use Rattle.std.specs.Prelude.{◌≡◌, ℕ, ◌<◌, ◌==◌, ◌⊎◌, Bool, true, false, List, [], ◌∷◌, Option, Some, None, IsSomeAnd, IfSome, map, slice_get, Contains, if◌then◌else◌}
use Rattle.std.proofs.Common.{refl, sym, ap, ◌∙◌, inl, inr, subst}
use Rattle.dr_groups.specs.Groups.{IsPairOf}
use Rattle.dr_outside.specs.BySide.{at}
use Rattle.dr_outside.specs.declared.pair.Half.{Half}
use Rattle.dr_base.specs.Lists.{has}
use Rattle.dr_outside.specs.Arrays.{IsWrong}
use Rattle.dr_outside.specs.Pairs.{frame_of, is_fit, Drift, Made}
use Rattle.dr_meaning.specs.Types.{Side, Op, Link, ArrayCall, Pair, Placed, Post, Plan, PlanMachine, StartRow, Record}
use Rattle.dr_meaning.specs.declared.stage.StageKind.{StageKind}
use Rattle.dr_meaning.specs.StartUp.{is_started}
use Rattle.dr_meaning.specs.Worlds.{World}
use Rattle.dr_meaning.specs.Stages.{stage_at}
use Rattle.dr_meaning.specs.Visits.{Visit, visits, open_stage, begun, all}
use Rattle.dr_meaning.specs.Runs.{Setting, Run, number, op, new, stages_of, holds, is_finished, is_open, run_at, last_of_group, take_in, take_over, begin_run, add_record, runs_of}
use Rattle.dr_meaning.specs.Outcomes.{made_frame}
use Rattle.dr_meaning.specs.Lawful.{MayStart, MayFinish, MayCome, LawfulAfter}
use Rattle.dr_meaning.specs.Fits.{FitsPair}
use Rattle.dr_meaning.specs.InOrder.{is_start_up, InOrder}
use Rattle.dr_meaning.specs.Calls.{call_of, Called, IsLeftOut, IsForCall, MadeBy, IsWorked}
use Rattle.dr_meaning.specs.Sound.{IsKept, IsSoundBy}
use Rattle.dr_meaning.specs.Backing.{IsRegularPlan, HasRegularPlans, IsEntry, IsPlain, ShowsDone, BacksPair, BacksDone, BacksStart}
use Rattle.dr_meaning.proofs.Lists.{Each, each-find}
use Rattle.dr_model.proofs.ChainLaws.{IsWellKept, HasPlan, kept-lawful, fresh_run}
use Rattle.dr_model.proofs.PostLaws.{empty_kept}
use Rattle.dr_model.proofs.SequenceLaws.{IsInSequence, sequence-lawful}
use Rattle.dr_model.proofs.FitsDrift.{drift_fits}
use Rattle.dr_model.proofs.CallSteps.{AtCall, MayWork, made_step, called_step}
use Rattle.dr_model.proofs.ShowLaws.{IsReplication}
use Rattle.dr_model.proofs.FitsCall.{fits_at_call, made_at_call}
use Rattle.dr_model.proofs.DoneFacts.{shown_after}
use Rattle.dr_model.proofs.HeldLaws.{other_shows}
use Rattle.dr_model.proofs.TookLaws.{TookFor, took-lawful}
use Rattle.dr_model.proofs.FitCalls.{snapshot_own, fit_unless_left_out}
use Rattle.dr_model.proofs.LeftOut.{left_out_drifts, left_out_made, left_out_shows}
use Rattle.dr_model.proofs.OrderStart.{asides-lawful, in_order-start, none_there}
use Rattle.dr_model.proofs.SoundAppend.{plain_adds, sound-plain, sound-done, sound-finish}
use Rattle.dr_model.proofs.LogLaws.{IsGoneThrough, gone-lawful, unfinished}
use Rattle.dr_model.proofs.TableLaws.{open_is_last, table-lawful}
use Rattle.dr_model.proofs.ExcuseLaws.{ExcusesRightly, excuses-lawful}
use Rattle.dr_model.proofs.FinishLaws.{finish_post}
use Rattle.dr_meaning.specs.Reach.{ReachPost, stage_of}
use Rattle.dr_meaning.specs.Meaning.{MeansPost}
use Rattle.dr_model.proofs.SoundStart.{sound-start}
use Rattle.dr_meaning.proofs.Elements.{each-contains, has-contains}
use Rattle.dr_model.proofs.Regular.{as_entry, planned_machine}

-- the visit of the begun stage
pub record IsUnderWay (log : List Record) (stage : ℕ) : Type 0 where
  pub visit : Visit
  pub earlier : List Visit
  pub shape : visits log ≡ visit ∷ earlier
  pub undone : visit.done ≡ false
  pub of_stage : visit.stage ≡ stage

pub under_way : (log : List Record) (stage : ℕ) → begun log ≡ Some stage → IsUnderWay log stage
under_way log stage e = go (visits log) refl e
  where
    go : (vs : List Visit) → visits log ≡ vs → open_stage vs ≡ Some stage → IsUnderWay log stage
    go [] shape f = absurd cc
    go (v ∷ earlier) shape f = by_done v.done refl f
      where
        by_done : (b : Bool) → v.done ≡ b → (if b then None else Some v.stage) ≡ Some stage → IsUnderWay log stage
        by_done true d h = absurd cc
        by_done false d h = record { visit = v; earlier = earlier; shape = shape; undone = d; of_stage = let is : v.stage ≡ stage = cc in is }

module _ (setting : Setting) (records : List Record) (lawful : LawfulAfter setting [] records) where
  abbrev pub runs : List Run
  runs = runs_of setting records

  well : IsWellKept setting runs
  well = kept-lawful setting [] records lawful (empty_kept setting)

  ordered : Each IsInSequence runs
  ordered = sequence-lawful setting records lawful

  module _ (g : ℕ) (r : Run) (last : last_of_group g runs ≡ Some r) (going : is_finished r ≡ false) where
    -- a call of the begun stage leads from a pair that fits to one that fits
    pub call_keeps_fit : (stage : ℕ) → begun r.log ≡ Some stage → (k : ℕ) (p q : Pair) → FitsPair setting.estate runs g k p → Called r (stage_at (stages_of r) stage).kind p q → FitsPair setting.estate runs g k q
    call_keeps_fit stage its k p q fits called =
        let way = under_way r.log stage its in
        go way (called_step r (stage_of r way.visit).kind p q (subst (λ n. Called r (stage_at (stages_of r) n).kind p q) (sym way.of_stage) called))
      where
        go : (way : IsUnderWay r.log stage) → AtCall r (stage_of r way.visit).kind p q ⊎ Drift p q → FitsPair setting.estate runs g k q
        go way (inl call) = fits_at_call setting runs well ordered g r last going way.visit way.earlier way.shape way.undone k p q fits call
        go way (inr drift) = drift_fits p q drift setting.estate runs g k fits

    -- a pair that a call of the begun stage doesn't leave out is as the call needs it
    pub called_fit : (stage : ℕ) → begun r.log ≡ Some stage → (k : ℕ) (p : Pair) (call : ArrayCall) → FitsPair setting.estate runs g k p → call_of r (stage_at (stages_of r) stage).kind ≡ Some call → (IsLeftOut r (stage_at (stages_of r) stage).kind p → ⊥) → is_fit call p ≡ true
    called_fit stage its k p call fits of_stage out =
        let way = under_way r.log stage its in
        fit_unless_left_out setting runs well g r last going k p fits ordered way.visit way.earlier way.shape call
        (subst (λ n. call_of r (stage_at (stages_of r) n).kind ≡ Some call) (sym way.of_stage) of_stage)
        (subst (λ n. IsLeftOut r (stage_at (stages_of r) n).kind p → ⊥) (sym way.of_stage) out)

    -- a pair that has a snapshot under a test has the test's
    pub own_snapshot : op r ≡ Op.Testing → (k : ℕ) (p : Pair) → FitsPair setting.estate runs g k p → IfSome p.snapshot (λ s. s.run ≡ number r)
    own_snapshot test k p fits = snapshot_own setting runs well g r last going k p fits test

    -- a pair that the call of the last visit's stage left out backs its Done
    pub left_out_backs : (v : Visit) (earlier : List Visit) → visits r.log ≡ v ∷ earlier → (w : World) (k : ℕ) (p : Pair) → FitsPair setting.estate runs g k p → IsLeftOut r (stage_at (stages_of r) v.stage).kind p → Drift p (w.pair k) → BacksPair w r v k
    left_out_backs v earlier shape w k p fits out drift = record {
      made = inr (left_out_made setting runs well ordered g took r last going v earlier shape k (w.pair k) now still);
      shows = λ e. left_out_shows setting runs well ordered g took r last going v earlier shape k (w.pair k) now still;
    }
      where
        took : TookFor g runs
        took = took-lawful setting records lawful g

        now : FitsPair setting.estate runs g k (w.pair k)
        now = drift_fits p (w.pair k) drift setting.estate runs g k fits

        still : IsLeftOut r (stage_of r v).kind (w.pair k)
        still = left_out_drifts r (stage_of r v).kind p (w.pair k) drift out

    module _ (v : Visit) (earlier : List Visit) (shape : visits r.log ≡ v ∷ earlier) (undone : v.done ≡ false) (w : World) (k : ℕ) where
      sequence : IsInSequence r
      sequence = each-find IsInSequence (holds g) runs r ordered last

      -- a pair that the stage's call made backs its Done
      pub made_backs : (call : ArrayCall) (p : Pair) → FitsPair setting.estate runs g k p → call_of r (stage_at (stages_of r) v.stage).kind ≡ Some call → Made call p (w.pair k) → BacksPair w r v k
      made_backs call p fits of_stage made = record { made = inr (made_at_call setting runs well ordered g r last going v earlier shape undone k p (w.pair k) fits step refl); shows = λ e. shows (stage_of r v).kind refl }
        where
          step : AtCall r (stage_of r v).kind p (w.pair k)
          step = made_step r (stage_of r v).kind call p (w.pair k) of_stage made

          at_moment : FitsPair setting.estate runs g k made.moment
          at_moment = drift_fits p made.moment made.before setting.estate runs g k fits

          replicated : IsReplication (stage_of r v).kind → made.moment.link ≡ Link.Live → ShowsDone k (w.pair k) r (stage_of r v).kind
          replicated is live = shown_after setting runs well ordered g r last going v earlier shape k made.moment at_moment live is (w.pair k) step.drifts_on

          shows : (kind : StageKind) → (stage_of r v).kind ≡ kind → ShowsDone k (w.pair k) r (stage_of r v).kind
          shows StageKind.Sync e = replicated (inl e) (subst (λ (s : StageKind). MayWork s made.moment) e step.may)
          shows StageKind.FinalSync e = replicated (inr e) (subst (λ (s : StageKind). MayWork s made.moment) e step.may)
          shows _ e = other_shows r v earlier shape sequence (λ is. elim is [ inl a ↦ (let wrong = sym e ∙ a in cc) | inr a ↦ (let wrong = sym e ∙ a in cc) ]) k (w.pair k)

      -- a pair that was found made, by a stage that doesn't replicate
      pub found_backs : (IsReplication (stage_at (stages_of r) v.stage).kind → ⊥) → made_frame r (stage_at (stages_of r) v.stage).kind (frame_of (w.pair k)) ≡ frame_of (w.pair k) → BacksPair w r v k
      found_backs other made = record { made = inr made; shows = λ e. other_shows r v earlier shape sequence other k (w.pair k) }

  -- a Finish keeps the outside sound
  pub finish_sound : HasRegularPlans setting → (w : World) (n moment : ℕ) (machines : List ℕ) → MayCome setting runs (Record.Finish n moment machines) → IsSoundBy setting runs w → IsSoundBy setting (map (take_in (Record.Finish n moment machines)) runs) w
  finish_sound plans w n moment machines may =
      sound-finish setting records w lawful n moment machines may
      (λ g m of_group r at_n held. planned_machine setting plans r (each-find (HasPlan setting) (λ run. number run == n) runs r well.plans at_n) g m held of_group)

  -- a Start keeps the machines in order, where the outside has each machine of its plan
  start_in_order : HasRegularPlans setting → (w : World) → IsSoundBy setting runs w → (row : StartRow) (plan : Plan) → slice_get setting.plans row.plan ≡ Some plan → MayStart setting runs row plan → ((m : PlanMachine) → Contains plan.machines m → m.machine < w.machine_count) → InOrder w (fresh_run setting runs row plan ∷ map (take_over row) runs)
  start_in_order plans w s row plan at_plan may there =
      in_order-start setting runs well row plan may at_plan (asides-lawful setting records lawful) w s.in_order
      (λ none up. idle plan at_plan may there none up)
    where
      idle : (plan : Plan) (at_plan : slice_get setting.plans row.plan ≡ Some plan) (may : MayStart setting runs row plan) → ((m : PlanMachine) → Contains plan.machines m → m.machine < w.machine_count) → row.over ≡ 0 → is_start_up row.op ≡ true → Each (λ m. is_started (at (new (fresh_run setting runs row plan)) (w.post m.machine)) ≡ false) plan.machines
      idle plan at_plan may there none up =
          each-contains (λ m. is_started (at (new (fresh_run setting runs row plan)) (w.post m.machine)) ≡ false) plan.machines
          (λ m listed.
          let regular : IsRegularPlan setting.estate plan = plans row.plan plan at_plan in
          let (g, in_plan, of_group) = regular.machines m listed in
          let held : has row.groups g ≡ true = subst (λ gs. has gs g ≡ true) (sym may.groups) (has-contains plan.groups g in_plan) in
          ap is_started (none_there setting runs well row plan may at_plan (asides-lawful setting records lawful) w s.in_order g held none up m.machine _ (s.machines g m.machine of_group (there m listed) (new (fresh_run setting runs row plan)))))

  -- a Start keeps the outside sound, where it reads truly and the outside has each machine of its plan
  pub start_sound : HasRegularPlans setting → (w : World) (row : StartRow) → MayCome setting runs (Record.Start row) → BacksStart setting runs w row → ((plan : Plan) (m : PlanMachine) → slice_get setting.plans row.plan ≡ Some plan → Contains plan.machines m → m.machine < w.machine_count) → IsSoundBy setting runs w → IsSoundBy setting (add_record setting runs (Record.Start row)) w
  start_sound plans w row may reads there s =
      sound-start setting records w lawful row may reads (order (slice_get setting.plans row.plan) refl may) s
    where
      order : (o : Option Plan) → slice_get setting.plans row.plan ≡ o → IsSomeAnd o (MayStart setting runs row) → InOrder w (begin_run setting row o runs)
      order None at_plan m = elim m [ ]
      order (Some plan) at_plan m = start_in_order plans w s row plan at_plan m (λ x listed. there plan x at_plan listed)

-- where a run may be finished, what it may have made of a post of its plan lies within what it means
pub posts_within : (setting : Setting) (records : List Record) (n : ℕ) (r : Run) (machines : List ℕ) → LawfulAfter setting [] records → run_at n (runs_of setting records) ≡ Some r → MayFinish r machines → (m : PlanMachine) → IsEntry r.plan m → (w : Placed) (side : Side) (x y : Post) → ReachPost r m.machine side w x y → MeansPost r m.machine side w x y
posts_within setting records n r machines lawful at_n may m entry w side x y =
    finish_post r machines (each-find IsGoneThrough (λ q. number q == n) (runs_of setting records) r (gone-lawful setting [] records lawful tt tt) at_n) (each-find ExcusesRightly (λ q. number q == n) (runs_of setting records) r (excuses-lawful setting records lawful) at_n) may m (as_entry r.plan m entry) w x y side

-- records that ask nothing of the outside keep it sound
pub plain_sound : (setting : Setting) (records : List Record) (w : World) (item : Record) → LawfulAfter setting [] records → IsPlain item → MayCome setting (runs_of setting records) item → IsKept w item → IsSoundBy setting (runs_of setting records) w → IsSoundBy setting (add_record setting (runs_of setting records) item) w
plain_sound setting records w item lawful plain may kept s =
    subst (λ rs. IsSoundBy setting rs w) (sym (plain_adds setting records w lawful item plain)) (sound-plain setting records w lawful item plain may kept s)

-- a Done keeps the outside sound, where that shows what it says
pub done_sound : (setting : Setting) (records : List Record) (w : World) (r : Run) (v : Visit) (earlier : List Visit) (stage : ℕ) → LawfulAfter setting [] records → run_at (number r) (runs_of setting records) ≡ Some r → is_open r ≡ true → visits r.log ≡ v ∷ earlier → v.done ≡ false → BacksDone setting (runs_of setting records) w r v → IsSoundBy setting (runs_of setting records) w → IsSoundBy setting (add_record setting (runs_of setting records) (Record.Done (number r) stage)) w
done_sound setting records w r v earlier stage lawful at_n going shape undone = sound-done setting records w lawful r stage at_n going v earlier shape undone

-- where the begun stage's calls left out or made each pair of the run's groups, or all pairs were skipped, the pairs back its Done
pub worked_back : (setting : Setting) (records : List Record) → (r : Run) (v : Visit) (earlier : List Visit) (old now : World) → LawfulAfter setting [] records → is_finished r ≡ false → visits r.log ≡ v ∷ earlier → v.done ≡ false → IsSoundBy setting (runs_of setting records) old → now.pair_count ≡ old.pair_count → (has v.excused all ≡ false → (g p : ℕ) → IsPairOf setting.estate g p → p < now.pair_count → last_of_group g (runs_of setting records) ≡ Some r → IsWorked r (stage_at (stages_of r) v.stage).kind (old.pair p) (now.pair p)) → (g p : ℕ) → IsPairOf setting.estate g p → p < now.pair_count → last_of_group g (runs_of setting records) ≡ Some r → BacksPair now r v p
worked_back setting records r v earlier old now lawful going shape undone s count worked g p of_group within last =
    by_skip (has v.excused all) refl
  where
    fits : FitsPair setting.estate (runs_of setting records) g p (old.pair p)
    fits = s.pairs g p of_group (subst (λ n. p < n) count within)

    by_call : (o : Option ArrayCall) → call_of r (stage_at (stages_of r) v.stage).kind ≡ o → MadeBy o (old.pair p) (now.pair p) → BacksPair now r v p
    by_call None e made = elim made [ ]
    by_call (Some call) e made = made_backs setting records lawful g r last going v earlier shape undone now p call (old.pair p) fits e made

    go : IsWorked r (stage_at (stages_of r) v.stage).kind (old.pair p) (now.pair p) → BacksPair now r v p
    go (inl (out, drift)) = left_out_backs setting records lawful g r last going v earlier shape now p (old.pair p) fits out drift
    go (inr made) = by_call (call_of r (stage_at (stages_of r) v.stage).kind) refl made

    by_skip : (b : Bool) → has v.excused all ≡ b → BacksPair now r v p
    by_skip true e = record { made = inl e; shows = λ f. absurd (let wrong : true ≡ false = sym e ∙ f in cc) }
    by_skip false e = go (worked e g p of_group within last)

-- from a sound start no call of the begun stage is refused
pub not_wrong : (setting : Setting) (records : List Record) (r : Run) (stage : ℕ) (call : ArrayCall) (list : List ℕ) (w : World) (now : ℕ → Pair) (k : ℕ) (half : Half) → LawfulAfter setting [] records → run_at (number r) (runs_of setting records) ≡ Some r → is_open r ≡ true → begun r.log ≡ Some stage → call_of r (stage_at (stages_of r) stage).kind ≡ Some call
    → ((p : ℕ) → has list p ≡ true → IsForCall setting.estate r (stage_at (stages_of r) stage).kind w p) → IsSoundBy setting (runs_of setting records) w → IsWrong call list w.pair now k half → ⊥
not_wrong setting records r stage call list w now k half lawful at_n going its of_stage each s wrong =
    let it = each k wrong.first.listed in
    let last : last_of_group it.group (runs_of setting records) ≡ Some r = open_is_last (number r) it.group r (runs_of setting records) (table-lawful setting [] records lawful tt) at_n going it.held in
    let fit : is_fit call (w.pair k) ≡ true = called_fit setting records lawful it.group r last (unfinished (is_finished r) (r.by == 0) going) stage its k (w.pair k) call (s.pairs it.group k it.of_group it.there) of_stage it.needed in
    let both : true ≡ false = sym fit ∙ wrong.first.unfit in
    cc
