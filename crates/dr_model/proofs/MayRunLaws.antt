-- A machine of the begun Start wave may be started.
use Rattle.std.specs.Prelude.{◌≡◌, ℕ, ◌+◌, ◌<◌, ◌≤◌, ◌==◌, ◌⊎◌, Bool, true, false, IsTrue, List, [], ◌∷◌, Option, Some, None, Contains, find, take}
use Rattle.std.specs.List.{list_any}
use Rattle.std.proofs.Common.{refl, sym, ap, ◌∙◌, inl, inr, arith, subst}
use Rattle.std.proofs.lemmas.Bool.{eqb-true}
use Rattle.std.proofs.lemmas.List.Elements.{All-contains}
use Rattle.dr_outside.specs.BySide.{at}
use Rattle.dr_outside.specs.Pairs.{Frame, frame_of}
use Rattle.dr_plan.specs.Orders.{IsPriority}
use Rattle.dr_meaning.specs.Types.{Op, Link, Pair, Placed, Post, Callout, Step, PlanMachine, Record}
use Rattle.dr_meaning.specs.declared.stage.StageKind.{StageKind}
use Rattle.dr_meaning.specs.declared.stage.Stage.{Stage}
use Rattle.dr_meaning.specs.Worlds.{World}
use Rattle.dr_base.specs.Lists.{has}
use Rattle.dr_meaning.specs.Stages.{step_stage, stage_at}
use Rattle.dr_meaning.specs.Visits.{Visit, visits, all, last_visit, is_visit_done, is_done}
use Rattle.dr_meaning.specs.Runs.{Setting, Run, number, op, new, root, migration, stages_of, holds, is_finished, is_open, run_at, last_of_group, runs_of}
use Rattle.dr_meaning.specs.Reach.{ReachFrame, ReachPost, stage_of}
use Rattle.dr_meaning.specs.Meaning.{is_wave_of, is_left}
use Rattle.dr_meaning.specs.Expected.{wanted}
use Rattle.dr_meaning.specs.Lawful.{LawfulAfter, token_of, tokens_from, is_coded, is_answered}
use Rattle.dr_meaning.specs.Fits.{is_recovery}
use Rattle.dr_meaning.specs.InOrder.{is_ready, is_aside, is_start_up, is_ready_at_new, has_code, IsPairOfMachine, IsServing, StepTaken, StepsTaken, MayRun}
use Rattle.dr_meaning.specs.Sound.{IsKept, IsSoundBy}
use Rattle.dr_meaning.specs.Backing.{IsRegularPlan, HasRegularPlans, IsEarlier}
use Rattle.dr_meaning.proofs.Lists.{Each, each-find, find-passes}
use Rattle.dr_meaning.proofs.Elements.{each-contains, at-contains, has-contains}
use Rattle.dr_model.proofs.ExpectedLaws.{filter-find}
use Rattle.dr_model.proofs.LogLaws.{unfinished}
use Rattle.dr_model.proofs.TableLaws.{open_is_last}
use Rattle.dr_model.proofs.ChainLaws.{IsWellKept, HasPlan}
use Rattle.dr_model.proofs.ExcuseLaws.{ExcusesRightly, excuses-lawful}
use Rattle.dr_model.proofs.SequenceLaws.{IsInSequence, sequence-lawful}
use Rattle.dr_model.proofs.ReadyLaws.{TellsAsides, tells-lawful, below_done}
use Rattle.dr_model.proofs.StartLaws.{number_above, earlier_waves, kept_ready}
use Rattle.dr_model.proofs.ServingLaws.{split_at_start, snapshot_at_start}
use Rattle.dr_model.proofs.SoundAppend.{well_of}
use Rattle.dr_model.proofs.Regular.{entry_of}
use Rattle.dr_model.proofs.CallSound.{pair_of_group}
use Rattle.dr_model.proofs.StepOrder.{EachFrom, IsBefore, steps-listed, step_number}
use Rattle.dr_model.proofs.WaveEntries.{one_place, in_wave, starts_up}
use Rattle.dr_model.proofs.CalloutLaws.{IsCodedAt, IsAnsweredAt, TakesSteps, steps-lawful, coded_kept}

-- but for a failover, no machine is left
pub none_left : (run : Run) → Each (λ v. v.excused ≡ []) (visits run.log) → (d : ℕ) → is_left run d ≡ false
none_left run none d = go (find (λ v. is_wave_of StageKind.Start d (stage_of run v)) (visits run.log)) refl
  where
    go : (o : Option Visit) → find (λ v. is_wave_of StageKind.Start d (stage_of run v)) (visits run.log) ≡ o → is_left run d ≡ false
    go None e = rw e refl
    go (Some v) e = let free : v.excused ≡ [] = each-find (λ v. v.excused ≡ []) (λ v. is_wave_of StageKind.Start d (stage_of run v)) (visits run.log) v none e in rw (e, free) refl

-- the last visit of a done stage
done_visit : (log : List Record) (i : ℕ) → is_done log i ≡ true → (u : Visit) × (last_visit i log ≡ Some u) × (u.done ≡ true)
done_visit log i done = go (last_visit i log) refl done
  where
    go : (o : Option Visit) → last_visit i log ≡ o → is_visit_done o ≡ true → (u : Visit) × (last_visit i log ≡ Some u) × (u.done ≡ true)
    go None e d = absurd cc
    go (Some u) e d = (u, e, d)

-- a pair serves by its frame
serves : (o : Op) (n : ℕ) (p q : Pair) → is_start_up o ≡ true → frame_of q ≡ frame_of p → (is_recovery o ≡ true → p.link ≡ Link.Split) → (o ≡ Op.Testing → (frame_of p).snapshot ≡ Some n) → IsServing o n q
serves Op.Testing n p q up same split snapshot = ap (λ f. f.snapshot) same ∙ snapshot refl
serves Op.Migrate n p q up same split snapshot = ap (λ f. f.link) same ∙ split refl
serves Op.Failover n p q up same split snapshot = ap (λ f. f.link) same ∙ split refl
serves Op.Cleanup n p q up same split snapshot = absurd cc
serves Op.Reprotect n p q up same split snapshot = absurd cc

module _ (setting : Setting) (records : List Record) (lawful : LawfulAfter setting [] records) (plans : HasRegularPlans setting) (run : Run) (at_n : run_at (number run) (runs_of setting records) ≡ Some run) (going : is_open run ≡ true) (v : Visit) (earlier : List Visit) (shape : visits run.log ≡ v ∷ earlier) (starts : (stage_at (stages_of run) v.stage).kind ≡ StageKind.Start) (m : PlanMachine) (listed : Contains run.plan.machines m) (worked : has (stage_at (stages_of run) v.stage).machines m.machine ≡ true) (old now : World) (sound : IsSoundBy setting (runs_of setting records) old) where
  abbrev runs : List Run
  runs = runs_of setting records

  well : IsWellKept setting runs
  well = well_of setting records lawful

  abbrev is_it : Run → Bool
  is_it q = number q == number run

  own : HasPlan setting run
  own = each-find (HasPlan setting) is_it runs run well.plans at_n

  regular : IsRegularPlan setting.estate run.plan
  regular = plans run.start.plan run.plan own.plan

  sequence : IsInSequence run
  sequence = each-find IsInSequence is_it runs run (sequence-lawful setting records lawful) at_n

  up : is_start_up (op run) ≡ true
  up = starts_up run.plan (op run) run.start.forced v.stage m.machine starts worked

  unfin : is_finished run ≡ false
  unfin = unfinished (is_finished run) (run.by == 0) going

  last_for : (g : ℕ) → Contains run.plan.groups g → last_of_group g runs ≡ Some run
  last_for g in_plan = open_is_last (number run) g run runs well.table at_n going (has-contains run.start.groups g (subst (λ gs. Contains gs g) (sym own.groups) in_plan))

  -- the place of a machine of the wave
  place : (x : PlanMachine) → Contains run.plan.machines x → has (stage_of run v).machines x.machine ≡ true → (x.priority ≡ (stage_of run v).priority) × (x.depth ≡ (stage_of run v).depth)
  place x of_plan its =
      one_place run.plan regular.ordered x.priority x.depth (stage_of run v).priority (stage_of run v).depth x.machine (record { entry = x; listed = of_plan; number = refl; same_priority = refl; same_depth = refl })
      (in_wave run.plan (op run) run.start.forced up v.stage starts x.machine its)

  here : (m.priority ≡ (stage_of run v).priority) × (m.depth ≡ (stage_of run v).depth)
  here = place m listed worked

  -- a machine of an earlier wave isn't of this one
  outside : (x : PlanMachine) → Contains run.plan.machines x → IsEarlier x (stage_of run v) → has (stage_of run v).machines x.machine ≡ false
  outside x of_plan before = go (has (stage_of run v).machines x.machine) refl before
    where
      go : (b : Bool) → has (stage_of run v).machines x.machine ≡ b → IsEarlier x (stage_of run v) → has (stage_of run v).machines x.machine ≡ false
      go false e _ = e
      go true e (inl lower) = absurd (omega (arith, lower, (place x of_plan e).0))
      go true e (inr same) = absurd (omega (arith, same.1, (place x of_plan e).1))

  -- The machines that it rests on

  module _ (there : (x : PlanMachine) → Contains run.plan.machines x → x.machine < old.machine_count) (readies : (d : ℕ) → has (stage_at (stages_of run) v.stage).machines d ≡ false → is_ready_at_new old run d ≡ true → is_ready_at_new now run d ≡ true) where
    -- what the run has made of the post of a machine of its plan
    reached : (x : PlanMachine) → Contains run.plan.machines x → (placed : Placed) × (y : Post) × ReachPost run x.machine (new run) placed y (at (new run) (old.post x.machine))
    reached x of_plan =
        let (g, in_plan, of_group) = regular.machines x of_plan in
        let (others, e) = filter-find (holds g) runs run (last_for g in_plan) in
        let (y, before, leaves) = rw e at (sound.machines g x.machine of_group (there x of_plan) (new run)) in
        (wanted g run x.machine, y, rw unfin at leaves)

    ready_or_aside : (x : PlanMachine) → Contains run.plan.machines x → x.priority < m.priority → (is_ready_at_new now run x.machine ≡ true) ⊎ (list_any (is_aside x.machine) run.log ≡ true)
    ready_or_aside x of_plan below =
        let (placed, y, reach) = reached x of_plan in
        on (earlier_waves run up v earlier shape starts sequence x (entry_of setting.estate run.plan regular x of_plan) before placed y (at (new run) (old.post x.machine)) reach
        (each-find TellsAsides is_it runs run (tells-lawful setting records lawful) at_n))
      where
        before : IsEarlier x (stage_of run v)
        before = inl (omega (arith, below, here.0))

        on : (is_ready_at_new old run x.machine ≡ true) ⊎ (list_any (is_aside x.machine) run.log ≡ true) → (is_ready_at_new now run x.machine ≡ true) ⊎ (list_any (is_aside x.machine) run.log ≡ true)
        on (inl ready) = inl (readies x.machine (outside x of_plan before) ready)
        on (inr aside) = inr aside

    kept : (op run ≡ Op.Failover → Each (λ d. is_left run d ≡ false) m.after) → (d : ℕ) → Contains m.after d → is_left run d ≡ false
    kept none_of_failover d depends = go (op run) refl
      where
        go : (o : Op) → op run ≡ o → is_left run d ≡ false
        go Op.Failover e = at-contains (λ d. is_left run d ≡ false) m.after d (none_of_failover e) depends
        go Op.Testing e = none_left run (sequence.gone.none_excused (λ f. let wrong : Op.Testing ≡ Op.Failover = sym e ∙ f in cc)) d
        go Op.Migrate e = none_left run (sequence.gone.none_excused (λ f. let wrong : Op.Migrate ≡ Op.Failover = sym e ∙ f in cc)) d
        go Op.Cleanup e = none_left run (sequence.gone.none_excused (λ f. let wrong : Op.Cleanup ≡ Op.Failover = sym e ∙ f in cc)) d
        go Op.Reprotect e = none_left run (sequence.gone.none_excused (λ f. let wrong : Op.Reprotect ≡ Op.Failover = sym e ∙ f in cc)) d

    depended : (op run ≡ Op.Failover → Each (λ d. is_left run d ≡ false) m.after) → (d : ℕ) → Contains m.after d → is_ready_at_new now run d ≡ true
    depended none d depends =
        let on = regular.ordered.dependencies m d listed depends in
        let (placed, y, reach) = reached on.entry on.listed in
        let before : IsEarlier on.entry (stage_of run v) = inr (on.same_priority ∙ here.0, omega (arith, on.lower, here.1)) in
        let apart : has (stage_of run v).machines on.entry.machine ≡ false = outside on.entry on.listed before in
        let left : is_left run on.entry.machine ≡ false = ap (is_left run) on.number ∙ kept none d depends in
        let ready : is_ready (at (new run) (old.post on.entry.machine)) ≡ true = kept_ready run up v earlier shape starts sequence on.entry (entry_of setting.estate run.plan regular on.entry on.listed) before placed y (at (new run) (old.post on.entry.machine)) reach (rw (starts, apart) refl) left in
        ap (is_ready_at_new now run) (sym on.number) ∙ readies on.entry.machine apart ready

  -- The steps

  takes : TakesSteps run
  takes = each-find TakesSteps is_it runs run (steps-lawful setting records lawful) at_n

  logged : Each (IsKept old) run.log
  logged = each-find (λ (q : Run). Each (IsKept old) q.log) is_it runs run sound.codes at_n

  module _ (runner : (t : ℕ) → has_code old.runner t ≡ true → has_code now.runner t ≡ true) where
    -- a done stage has taken its step
    done_taken : (k : ℕ) (what : Callout) (before i : ℕ) → is_done run.log i ≡ true → stage_at (stages_of run) i ≡ step_stage k (record { before = before; what = what }) → StepTaken now.runner run k what
    done_taken k what before i done its = go what (done_visit run.log i done) its
      where
        of_visit : (u : Visit) → find (λ u. u.stage == i) (visits run.log) ≡ Some u → (stage : Stage) → stage_at (stages_of run) i ≡ stage → stage_at (stages_of run) u.stage ≡ stage
        of_visit u found stage is = ap (stage_at (stages_of run)) (eqb-true u.stage i (find-passes (λ u. u.stage == i) (visits run.log) u found)) ∙ is

        go : (what : Callout) → (u : Visit) × (last_visit i run.log ≡ Some u) × (u.done ≡ true) → stage_at (stages_of run) i ≡ step_stage k (record { before = before; what = what }) → StepTaken now.runner run k what
        go (Callout.Command name) (u, found, d) its =
            let at_u = of_visit u found (step_stage k (record { before = before; what = Callout.Command name })) its in
            let coded : is_coded run (token_of (root run) (stage_at (stages_of run) u.stage).step) all ≡ true = each-find (IsCodedAt (root run) (stages_of run) run.log) (λ u. u.stage == i) (visits run.log) u takes.coded found d (ap (λ (s : Stage). s.kind) at_u) in
            runner (token_of (root run) k) (coded_kept old (token_of (root run) k) run.log logged (ap (λ (s : Stage). is_coded run (token_of (root run) s.step) all) (sym at_u) ∙ coded))
        go (Callout.Prompt text) (u, found, d) its =
            let at_u = of_visit u found (step_stage k (record { before = before; what = Callout.Prompt text })) its in
            let answered : is_answered run (stage_at (stages_of run) u.stage).step ≡ true = each-find (IsAnsweredAt (migration run) (stages_of run) run.log) (λ u. u.stage == i) (visits run.log) u takes.answered found (ap (λ (s : Stage). s.kind) at_u) in
            ap (λ (s : Stage). is_answered run s.step) (sym at_u) ∙ answered

    taken : (k : ℕ) (step : Step) → IsPriority step.before → IsBefore 1 run.plan.steps k step → step.before ≤ m.priority → StepTaken now.runner run k step.what
    taken k step priority h before =
        let (i, above, below, its) = step_number run.plan (op run) run.start.forced up v.stage (number_above 1 (stages_of run) v.stage starts) starts k step priority.least priority.greatest h (omega (arith, before, here.0)) in
        done_taken k step.what step.before i (below_done run v earlier shape sequence i above below) its

    steps_taken : StepsTaken now.runner run m.priority 1 run.plan.steps
    steps_taken =
        go 1 run.plan.steps
        (each-contains (λ s. IsPriority s.before) run.plan.steps (λ s c. All-contains (λ (s : Step). IsPriority s.before) run.plan.steps s regular.ordered.steps c))
        (steps-listed 1 run.plan.steps)
      where
        go : (n : ℕ) (steps : List Step) → Each (λ s. IsPriority s.before) steps → EachFrom (IsBefore 1 run.plan.steps) n steps → StepsTaken now.runner run m.priority n steps
        go n [] p h = tt
        go n (step ∷ steps) p h = (taken n step p.0 h.0, go (n + 1) steps p.1 h.1)

  -- The pairs

  module _ (has_pairs : (p : ℕ) → IsPairOfMachine run.estate m.machine p → p < old.pair_count) (frames : (p : ℕ) → IsPairOfMachine run.estate m.machine p → frame_of (now.pair p) ≡ frame_of (old.pair p)) where
    served : (p : ℕ) → IsPairOfMachine run.estate m.machine p → IsServing (op run) (number run) (now.pair p)
    served p on =
        let (g, in_plan, of_group) = regular.machines m listed in
        let (others, e) = filter-find (holds g) runs run (last_for g in_plan) in
        let fits = sound.pairs g p (pair_of_group setting.estate g m.machine p of_group (subst (λ estate. IsPairOfMachine estate m.machine p) own.estate on)) (has_pairs p on) in
        let (x, before, leaves) = rw e at fits.frame in
        by_frame x (rw unfin at leaves)
      where
        by_frame : (x : Frame) → ReachFrame run x (frame_of (old.pair p)) → IsServing (op run) (number run) (now.pair p)
        by_frame x reach =
            serves (op run) (number run) (old.pair p) (now.pair p) up (frames p on)
            (λ is. split_at_start run sequence (each-find ExcusesRightly is_it runs run (excuses-lawful setting records lawful) at_n) is v earlier shape starts x (frame_of (old.pair p)) reach)
            (λ test. snapshot_at_start run sequence test v earlier shape starts x (frame_of (old.pair p)) reach)

  -- A machine of the begun wave may be started: since the outside was sound nothing that it rests on was lost.
  pub may_run : ((x : PlanMachine) → Contains run.plan.machines x → x.machine < old.machine_count) → ((p : ℕ) → IsPairOfMachine run.estate m.machine p → p < old.pair_count) → (op run ≡ Op.Failover → Each (λ d. is_left run d ≡ false) m.after) → ((d : ℕ) → has (stage_at (stages_of run) v.stage).machines d ≡ false → is_ready_at_new old run d ≡ true → is_ready_at_new now run d ≡ true) → ((t : ℕ) → has_code old.runner t ≡ true → has_code now.runner t ≡ true) → ((p : ℕ) → IsPairOfMachine run.estate m.machine p → frame_of (now.pair p) ≡ frame_of (old.pair p)) → Each (λ t. has_code (now.kept m.machine) t ≡ true) (tokens_from (root run) 0 (take 2 m.commands)) → MayRun now run m
  may_run there has_pairs none readies runner frames commands = record {
    dependencies = each-contains (λ d. IsTrue (is_ready_at_new now run d)) m.after (depended there readies none);
    priorities = each-contains (λ x. x.priority < m.priority → (is_ready_at_new now run x.machine ≡ true) ⊎ (list_any (is_aside x.machine) run.log ≡ true)) run.plan.machines (ready_or_aside there readies);
    commands = commands;
    steps = steps_taken runner;
    serving = served has_pairs frames;
  }
