-- Start-up in order: what stands before a wave when it is begun, and which changes of the outside keep all machines in order.
use Rattle.std.specs.Prelude.{Contains, ◌≡◌, ℕ, ◌+◌, ◌<◌, ◌≤◌, ◌⊎◌, Bool, true, false, ◌&&◌, IsTrue, List, [], ◌∷◌, Some, find}
use Rattle.std.specs.List.{list_any}
use Rattle.std.proofs.Common.{refl, inl, inr, subst}
use Rattle.dr_meaning.specs.Types.{Placed, Post, Callout, Step, PlanMachine, Record}
use Rattle.dr_meaning.specs.declared.stage.StageKind.{StageKind}
use Rattle.dr_meaning.specs.declared.stage.Stage.{Stage}
use Rattle.dr_meaning.specs.Worlds.{World}
use Rattle.dr_outside.specs.BySide.{at}
use Rattle.dr_base.specs.Lists.{has}
use Rattle.dr_meaning.specs.Stages.{stage_at, stage_from}
use Rattle.dr_meaning.specs.Visits.{Visit, visits}
use Rattle.dr_meaning.specs.Runs.{Setting, Run, op, new, stages_of, holds, is_finished, last_of_group, runs_of}
use Rattle.dr_meaning.specs.Reach.{works, PostStep, ReachPost, stage_of}
use Rattle.dr_meaning.specs.Meaning.{same_kind, is_wave_of, is_left}
use Rattle.dr_meaning.specs.Expected.{wanted, ExpectedPost}
use Rattle.dr_meaning.specs.Lawful.{LawfulAfter}
use Rattle.dr_meaning.specs.StartUp.{is_started}
use Rattle.dr_meaning.specs.InOrder.{is_ready, is_aside, has_code, is_start_up, is_ready_at_new, StepTaken, StepsTaken, MayRun, InOrder}
use Rattle.dr_meaning.specs.Backing.{KeepsOrder}
use Rattle.dr_meaning.proofs.Elements.{each-contains, at-contains}
use Rattle.dr_meaning.proofs.Lists.{Each, each-map, each-find, find-passes, all_each, Some_of, some_of-map}
use Rattle.dr_model.proofs.StageLaws.{IsMachineOf, stage_from-each, counted}
use Rattle.dr_model.proofs.ThroughLaws.{Holds, Makes, through_from, some_of-find, find-some_of, visited}
use Rattle.dr_model.proofs.WholeTest.{same_side_itself}
use Rattle.dr_model.proofs.ExpectedLaws.{filter-find}
use Rattle.dr_model.proofs.LogLaws.{DoneBefore}
use Rattle.dr_model.proofs.NumberLaws.{kind-same}
use Rattle.dr_model.proofs.ChainLaws.{and_left, and_right}
use Rattle.dr_model.proofs.PostPhase.{StageHolds, post_step-holds}
use Rattle.dr_model.proofs.SequenceLaws.{IsInSequence, sequence-lawful}
use Rattle.dr_model.proofs.ReadyLaws.{TellsAsides, tells-lawful, ready_holds, ready_or_aside, below_done}
use Rattle.dr_model.proofs.WaveOrder.{IsEarlier, StartsIt, earlier_number}

-- a stage that starts machines has a number from n on
pub number_above : (n : ℕ) (ss : List Stage) (k : ℕ) → (stage_from n ss k).kind ≡ StageKind.Start → n ≤ k
number_above n ss k e = counted (λ s. s.kind ≡ StageKind.Start) (λ f. let wrong : StageKind.Prompt ≡ StageKind.Start = f in cc) n ss k e

module _ (run : Run) (up : is_start_up (op run) ≡ true) (v : Visit) (earlier : List Visit) (shape : visits run.log ≡ v ∷ earlier) (begun : (stage_of run v).kind ≡ StageKind.Start) (sequence : IsInSequence run) (x : PlanMachine) (of_plan : IsMachineOf run.plan x) (before : IsEarlier x (stage_of run v)) (w : Placed) (y0 y : Post) (reach : ReachPost run x.machine (new run) w y0 y) where
  its_number : (i : ℕ) × (1 ≤ i) × (i < v.stage) × StartsIt x (stage_at (stages_of run) i)
  its_number = earlier_number run.plan x (op run) run.start.forced up of_plan v.stage (number_above 1 (stages_of run) v.stage begun) begun before

  -- each machine of an earlier wave is Ready, or has an Aside
  pub earlier_waves : TellsAsides run → (is_ready y ≡ true) ⊎ (list_any (is_aside x.machine) run.log ≡ true)
  earlier_waves tells =
      let (i, above, below, starts) = its_number in
      ready_or_aside run x.machine w up tells i (below_done run v earlier shape sequence i above below) starts.0 starts.1 y0 y reach

  abbrev starts_x : Visit → Bool
  starts_x u = is_wave_of StageKind.Start x.machine (stage_at (stages_of run) u.stage)

  -- and Ready, where it isn't left and isn't of the begun wave too
  makes_ready : (u : Visit) → u.done ≡ true → has u.excused x.machine ≡ false → (stage_of run u).kind ≡ StageKind.Start → has (stage_of run u).machines x.machine ≡ true → Makes (PostStep run x.machine (new run) w) (λ z. is_ready z ≡ true) u
  makes_ready u d none kind listed a b step =
      let worked : works run (stage_of run u) x.machine (new run) ≡ true = rw (listed, kind) (same_side_itself (new run)) in
      let made : b ≡ Post.Ready w = rw (worked, d, none, kind) at step in
      rw made refl

  ready_by : is_wave_of StageKind.Start x.machine (stage_of run v) ≡ false → is_left run x.machine ≡ false → (u : Visit) → find starts_x (visits run.log) ≡ Some u → is_ready y ≡ true
  ready_by apart kept u found =
      let unexcused : has u.excused x.machine ≡ false = rw found at kept in
      let in_whole : find starts_x (v ∷ earlier) ≡ Some u = subst (λ vs. find starts_x vs ≡ Some u) shape found in
      let in_earlier : find starts_x earlier ≡ Some u = rw apart at in_whole in
      let done : u.done ≡ true = each-find (λ q. q.done ≡ true) starts_x earlier u (subst DoneBefore shape sequence.gone.before) in_earlier in
      let wave : same_kind (stage_of run u).kind StageKind.Start && has (stage_of run u).machines x.machine ≡ true = find-passes starts_x (visits run.log) u found in
      through_from (PostStep run x.machine (new run) w) (λ z. is_ready z ≡ true) (visits run.log)
      (some_of-find (Makes (PostStep run x.machine (new run) w) (λ z. is_ready z ≡ true)) starts_x (visits run.log) u found (makes_ready u done unexcused (kind-same _ StageKind.Start (and_left _ _ wave)) (and_right (same_kind (stage_of run u).kind StageKind.Start) _ wave)))
      (all_each (Holds (PostStep run x.machine (new run) w) (λ z. is_ready z ≡ true)) (λ q a b step p. post_step-holds run x.machine (new run) w (λ z. is_ready z ≡ true) q (stage_from-each (StageHolds run x.machine (new run) w (λ z. is_ready z ≡ true)) 1 (stages_of run) q.stage (λ t x y p o. absurd cc) (ready_holds run x.machine w up)) a b step p) (visits run.log))
      y0 y reach

  -- and Ready, where it isn't left and isn't of the begun wave too
  pub kept_ready : is_wave_of StageKind.Start x.machine (stage_of run v) ≡ false → is_left run x.machine ≡ false → is_ready y ≡ true
  kept_ready apart kept =
      let (i, above, below, starts) = its_number in
      let was : Some_of (λ u. u.stage ≡ i) (visits run.log) = visited i (visits run.log) (below_done run v earlier shape sequence i above below) in
      let (u, found) = find-some_of starts_x (visits run.log) (some_of-map (λ u. u.stage ≡ i) (λ u. starts_x u ≡ true) (λ u e. rw (e, starts.0, starts.1) refl) (visits run.log) was) in
      ready_by apart kept u found

-- In a lawful journal: when a Start wave is begun, each machine of an earlier wave is Ready at the new side, or has an Aside.
pub waves_in_order : (setting : Setting) (records : List Record) (g : ℕ) (r : Run) (v : Visit) (earlier : List Visit) (x : PlanMachine) (y : Post) → LawfulAfter setting [] records → last_of_group g (runs_of setting records) ≡ Some r → is_finished r ≡ false → is_start_up (op r) ≡ true → visits r.log ≡ v ∷ earlier → (stage_of r v).kind ≡ StageKind.Start → IsMachineOf r.plan x → IsEarlier x (stage_of r v) → ExpectedPost setting.estate g x.machine (new r) (runs_of setting records) y → (is_ready y ≡ true) ⊎ (list_any (is_aside x.machine) r.log ≡ true)
waves_in_order setting records g r v earlier x y lawful last going up shape begun of_plan before expected =
    let (others, e) = filter-find (holds g) (runs_of setting records) r last in
    let (y0, expected_before, leaves) = rw e at expected in
    let reach : ReachPost r x.machine (new r) (wanted g r x.machine) y0 y = rw going at leaves in
    earlier_waves r up v earlier shape begun (each-find IsInSequence (holds g) (runs_of setting records) r (sequence-lawful setting records lawful) last) x of_plan before (wanted g r x.machine) y0 y reach
    (each-find TellsAsides (holds g) (runs_of setting records) r (tells-lawful setting records lawful) last)

-- Changes of the outside

module _ (w z : World) (run : Run) (h : KeepsOrder w z run) where
  steps_grow : (priority k : ℕ) (steps : List Step) → StepsTaken w.runner run priority k steps → StepsTaken z.runner run priority k steps
  steps_grow priority k [] s = tt
  steps_grow priority k (step ∷ steps) s = (λ le. taken step.what (s.0 le), steps_grow priority (k + 1) steps s.1)
    where
      taken : (what : Callout) → StepTaken w.runner run k what → StepTaken z.runner run k what
      taken (Callout.Command name) t = h.runner _ t
      taken (Callout.Prompt text) t = t

  may_run_grows : (m : PlanMachine) → Contains run.plan.machines m → MayRun w run m → MayRun z run m
  may_run_grows m listed r = record {
    dependencies = each-contains (λ d. IsTrue (is_ready_at_new z run d)) m.after (λ d after. h.ready d (m, listed, inr after) (at-contains (λ d. IsTrue (is_ready_at_new w run d)) m.after d r.dependencies after));
    priorities = each-contains (λ q. q.priority < m.priority → (is_ready_at_new z run q.machine ≡ true) ⊎ (list_any (is_aside q.machine) run.log ≡ true)) run.plan.machines (λ q in_plan below. ready q in_plan (at-contains (λ q. q.priority < m.priority → (is_ready_at_new w run q.machine ≡ true) ⊎ (list_any (is_aside q.machine) run.log ≡ true)) run.plan.machines q r.priorities in_plan below));
    commands = each-map (λ t. IsTrue (has_code (w.kept m.machine) t)) (λ t. IsTrue (has_code (z.kept m.machine) t)) (h.kept m.machine) _ r.commands;
    steps = steps_grow m.priority 1 run.plan.steps r.steps;
    serving = λ p on. h.serving m p listed on (r.serving p on);
  }
    where
      ready : (q : PlanMachine) → Contains run.plan.machines q → (is_ready_at_new w run q.machine ≡ true) ⊎ (list_any (is_aside q.machine) run.log ≡ true) → (is_ready_at_new z run q.machine ≡ true) ⊎ (list_any (is_aside q.machine) run.log ≡ true)
      ready q in_plan (inl e) = inl (h.ready q.machine (q, in_plan, inl refl) e)
      ready q in_plan (inr e) = inr e

-- A change of the outside in which each machine that runs anew may, keeps all in order.
pub in_order-grows : (w z : World) (runs : List Run) → ((g : ℕ) (run : Run) → last_of_group g runs ≡ Some run → Each (λ h. last_of_group h runs ≡ Some run) run.start.groups → is_start_up (op run) ≡ true → KeepsOrder w z run) → InOrder w runs → InOrder z runs
in_order-grows w z runs grows h g run last all_last up =
    let keep : KeepsOrder w z run = grows g run last all_last up in
    each-contains (λ m. is_started (at (new run) (z.post m.machine)) ≡ true → MayRun z run m) run.plan.machines
    (λ m listed running. one keep m listed (at-contains _ run.plan.machines m keep.starts listed running))
  where
    one : KeepsOrder w z run → (m : PlanMachine) → Contains run.plan.machines m → (is_started (at (new run) (w.post m.machine)) ≡ true) ⊎ MayRun z run m → MayRun z run m
    one keep m listed (inl was) = may_run_grows w z run keep m listed (at-contains _ run.plan.machines m (h g run last all_last up) listed was)
    one keep m listed (inr may) = may
