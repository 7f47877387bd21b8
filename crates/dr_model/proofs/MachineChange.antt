-- What a stage's work on machines, and commands alone, change of the outside.
use Rattle.std.specs.Prelude.{◌≡◌, ℕ, ◌==◌, ◌⊎◌, Bool, true, false, List, [], ◌∷◌, Contains, Some}
use Rattle.std.specs.List.{list_any}
use Rattle.std.proofs.Common.{refl, sym, ap, ◌∙◌, inl, inr, subst}
use Rattle.dr_base.specs.Lists.{has}
use Rattle.dr_groups.specs.Groups.{IsMachineOf}
use Rattle.dr_outside.specs.BySide.{at}
use Rattle.dr_outside.specs.Pairs.{Drift}
use Rattle.dr_outside.proofs.Drifts.{Drift-refl}
use Rattle.dr_plan.specs.Orders.{IsAt}
use Rattle.dr_plan.specs.Waves.{machines_at, wave_of, wave_at, waves_at, waves_of, depths_in, priorities}
use Rattle.dr_meaning.specs.Types.{Side, Sides, Op, Post, Plan, PlanMachine, Record}
use Rattle.dr_meaning.specs.declared.stage.StageKind.{StageKind}
use Rattle.dr_meaning.specs.declared.stage.Stage.{Stage}
use Rattle.dr_meaning.specs.Worlds.{World}
use Rattle.dr_meaning.specs.Stages.{stages, array_stage, wave_stage, recovery, start_priority, steps_before, start_up, wind_down, stage_at}
use Rattle.dr_meaning.specs.Runs.{Setting, Run, number, op, stages_of, holds, is_open, run_at, group_state}
use Rattle.dr_meaning.specs.Reach.{works}
use Rattle.dr_meaning.specs.Expected.{wanted}
use Rattle.dr_meaning.specs.Outcomes.{PostOutcome}
use Rattle.dr_meaning.specs.Calls.{CallsMachines, OnlyKeepsCodes}
use Rattle.dr_meaning.specs.Journals.{Stands}
use Rattle.dr_meaning.specs.Backing.{IsRegularPlan}
use Rattle.dr_meaning.specs.Changes.{is_of_run, is_touched, is_only_tested, IsMachineCommand, IsStepCommand, GrowsBy, ChangesWorld}
use Rattle.dr_meaning.proofs.Lists.{Each, each-find, each-append, each-map, each-flat_map, each-of-map, each-reverse}
use Rattle.dr_model.proofs.StageLaws.{IsCallout, steps_before-kind, stage_from-each}
use Rattle.dr_model.proofs.WaveEntries.{at_from}
use Rattle.dr_model.proofs.ChainLaws.{HasPlan, and_left}
use Rattle.dr_model.proofs.FitsDrift.{writes_rise}
use Rattle.dr_model.proofs.GrowsOn.{but_of, grows_same}
use Rattle.dr_model.proofs.Standing.{well_kept_of, regular_of}
use Rattle.dr_model.proofs.ChangedOn.{Rises}
use Rattle.dr_model.proofs.TestCalls.{LeavesOld, test_leaves_old}
use Rattle.dr_model.proofs.CallChange.{touched, is_tested, old_protected}

-- The machines of a stage are the plan's ---------------------------------------------------------------------------

-- each machine of a stage has an entry in the plan
abbrev HasEntry : Plan → Stage → Type 0
HasEntry plan s = (k : ℕ) → has s.machines k ≡ true → (x : PlanMachine) × Contains plan.machines x × (x.machine ≡ k)

module _ (plan : Plan) where
  of_array : (kind : StageKind) → HasEntry plan (array_stage kind)
  of_array kind k h = absurd cc

  of_wave : (kind : StageKind) (p d : ℕ) (ks : List ℕ) → ((k : ℕ) → has ks k ≡ true → IsAt plan p d k) → Each (λ w. HasEntry plan (wave_stage kind w)) (wave_of p d ks)
  of_wave kind p d [] f = tt
  of_wave kind p d (k ∷ ks) f = (λ n h. let a = f n h in (a.entry, a.listed, a.number), tt)

  of_priority : (kind : StageKind) (p : ℕ) → Each (λ w. HasEntry plan (wave_stage kind w)) (waves_at plan.machines p)
  of_priority kind p = each-flat_map (λ w. HasEntry plan (wave_stage kind w)) (wave_at plan.machines p) (λ d. of_wave kind p d (machines_at plan.machines p d) (at_from plan p d)) (depths_in plan.machines)

  of_start_up : Each (HasEntry plan) (start_up plan)
  of_start_up =
      each-flat_map (HasEntry plan) (start_priority plan)
      (λ p. each-append (HasEntry plan) (steps_before p 1 plan.steps) _
      (each-map IsCallout (HasEntry plan) (λ s c k h. absurd (let wrong : has [] k ≡ true = rw c.1 at h in cc)) _ (steps_before-kind p 1 plan.steps))
      (each-of-map (HasEntry plan) (wave_stage StageKind.Start) (waves_at plan.machines p) (of_priority StageKind.Start p)))
      priorities

  of_wind_down : (kind : StageKind) → Each (HasEntry plan) (wind_down kind plan)
  of_wind_down kind = each-reverse (HasEntry plan) _ (each-of-map (HasEntry plan) (wave_stage kind) (waves_of plan) (each-flat_map (λ w. HasEntry plan (wave_stage kind w)) (waves_at plan.machines) (of_priority kind) priorities))

  of_recovery : Each (HasEntry plan) (recovery plan)
  of_recovery = (
    of_array StageKind.Sync,
    each-append (HasEntry plan) (wind_down StageKind.Stop plan) _ (of_wind_down StageKind.Stop)
        (of_array StageKind.Prepare, (of_array StageKind.FinalSync, (of_array StageKind.Split, of_start_up))),
  )

  of_stages : (o : Op) (forced : Bool) → Each (HasEntry plan) (stages plan o forced)
  of_stages Op.Testing forced = (of_array StageKind.Sync, (of_array StageKind.TestStart, of_start_up))
  of_stages Op.Cleanup forced = each-append (HasEntry plan) (wind_down StageKind.Clear plan) _ (of_wind_down StageKind.Clear) (of_array StageKind.TestStop, tt)
  of_stages Op.Migrate forced = of_recovery
  of_stages Op.Failover false = of_recovery
  of_stages Op.Failover true = (of_array StageKind.Split, of_start_up)
  of_stages Op.Reprotect forced =
      each-append (HasEntry plan) (wind_down StageKind.Clear plan) _ (of_wind_down StageKind.Clear) (of_array StageKind.Prepare, (of_array StageKind.Reverse, (of_array StageKind.FinalSync, tt)))

-- The stage's work -----------------------------------------------------------------------------------------------------

both_sides : (p q : Sides Post) → at Side.A q ≡ at Side.A p → at Side.B q ≡ at Side.B p → q ≡ p
both_sides p q a b = λ i. record { a = a i; b = b i }

module _ (setting : Setting) (records : List Record) (runs : List Run) (stand : Stands setting records runs) (r : Run) (at_n : run_at (number r) runs ≡ Some r) (going : is_open r ≡ true) (stage : ℕ) (old now : World) (calls : CallsMachines setting.estate r (stage_at (stages_of r) stage) old now) (more : List Record) (new : list_any (is_of_run (number r)) more ≡ true) where
  -- a machine that the stage works is of a group
  grouped : (m : ℕ) (side : Side) → works r (stage_at (stages_of r) stage) m side ≡ true → (g : ℕ) × IsMachineOf setting.estate g m
  grouped m side e =
      let own : HasPlan setting r = each-find (HasPlan setting) (λ run. number run == number r) runs r (well_kept_of setting records runs stand).plans at_n in
      let regular : IsRegularPlan setting.estate r.plan = regular_of setting records runs stand r.start.plan r.plan own.plan in
      let listed : has (stage_at (stages_of r) stage).machines m ≡ true = and_left (has (stage_at (stages_of r) stage).machines m) _ e in
      let entries = stage_from-each (HasEntry r.plan) 1 (stages_of r) stage (λ k h. absurd cc) (of_stages r.plan (op r) r.start.forced) in
      let (x, in_plan, is) = entries m listed in
      let (g, in_groups, of_group) = regular.machines x in_plan in
      (g, subst (IsMachineOf setting.estate g) is of_group)

  idle_post : (m : ℕ) → ((g : ℕ) → IsMachineOf setting.estate g m → is_touched g more runs ≡ false) → (side : Side) → at side (now.post m) ≡ at side (old.post m)
  idle_post m idle side = go (works r (stage_at (stages_of r) stage) m side) refl
    where
      worked : (g : ℕ) → IsMachineOf setting.estate g m → (at side (now.post m) ≡ at side (old.post m)) ⊎ ((holds g r ≡ true) × PostOutcome (stage_at (stages_of r) stage).kind (wanted g r m) (at side (old.post m)) (at side (now.post m))) → at side (now.post m) ≡ at side (old.post m)
      worked g of_group (inl same) = same
      worked g of_group (inr (held, out)) = absurd (let wrong : true ≡ false = sym (touched runs r at_n more new g held) ∙ idle g of_group in cc)

      go : (b : Bool) → works r (stage_at (stages_of r) stage) m side ≡ b → at side (now.post m) ≡ at side (old.post m)
      go false e = calls.others m side e
      go true e = let (g, of_group) = grouped m side e in worked g of_group (calls.worked g m side of_group e)

  tested_post : (g m : ℕ) → IsMachineOf setting.estate g m → is_only_tested g more runs ≡ true → at (group_state setting.estate g runs).protected (now.post m) ≡ at (group_state setting.estate g runs).protected (old.post m)
  tested_post g m of_group tested = go (works r (stage_at (stages_of r) stage) m (group_state setting.estate g runs).protected) refl
    where
      worked : works r (stage_at (stages_of r) stage) m (group_state setting.estate g runs).protected ≡ true → (at (group_state setting.estate g runs).protected (now.post m) ≡ at (group_state setting.estate g runs).protected (old.post m)) ⊎ ((holds g r ≡ true) × PostOutcome (stage_at (stages_of r) stage).kind (wanted g r m) (at (group_state setting.estate g runs).protected (old.post m)) (at (group_state setting.estate g runs).protected (now.post m))) → at (group_state setting.estate g runs).protected (now.post m) ≡ at (group_state setting.estate g runs).protected (old.post m)
      worked e (inl same) = same
      worked e (inr (held, out)) =
          let leaves : LeavesOld r (stage_at (stages_of r) stage) = stage_from-each (LeavesOld r) 1 (stages_of r) stage (λ k. refl) (test_leaves_old r (is_tested runs r at_n more new g held tested)) in
          let same = old_protected setting records runs stand r at_n going stage g held in
          absurd (let wrong : true ≡ false = sym e ∙ ap (works r (stage_at (stages_of r) stage) m) same ∙ leaves m in cc)

      go : (b : Bool) → works r (stage_at (stages_of r) stage) m (group_state setting.estate g runs).protected ≡ b → at (group_state setting.estate g runs).protected (now.post m) ≡ at (group_state setting.estate g runs).protected (old.post m)
      go false e = calls.others m (group_state setting.estate g runs).protected e
      go true e = worked e (calls.worked g m (group_state setting.estate g runs).protected of_group e)

  pub machines_change : ((m : ℕ) → GrowsBy (IsMachineCommand runs m) (old.kept m) (now.kept m)) → ChangesWorld setting runs more old now
  machines_change kept = record {
    idle_pairs = λ k idle. calls.drifts k;
    idle_posts = λ m idle. both_sides (old.post m) (now.post m) (idle_post m idle Side.A) (idle_post m idle Side.B);
    tested_pairs = λ g k of_group there tested. but_of (old.pair k) (now.pair k) (calls.drifts k);
    tested_posts = tested_post;
    pair_count = ap (λ (w : World). w.pair_count) calls.rest;
    machine_count = ap (λ (w : World). w.machine_count) calls.rest;
    kept = kept;
    runner = grows_same (IsStepCommand runs) old.runner now.runner (ap (λ (w : World). w.runner) calls.rest);
  }

  pub machines_rise : Rises setting runs old now
  machines_rise g k side of_group there quiet = writes_rise (old.pair k) (now.pair k) (calls.drifts k) side

-- Commands alone ---------------------------------------------------------------------------------------------------------

module _ (setting : Setting) (runs : List Run) (more : List Record) (old now : World) (only : OnlyKeepsCodes old now) where
  same_pair : (k : ℕ) → now.pair k ≡ old.pair k
  same_pair k = ap (λ (w : World). w.pair k) only.rest

  drifts : (k : ℕ) → Drift (old.pair k) (now.pair k)
  drifts k = subst (Drift (old.pair k)) (sym (same_pair k)) (Drift-refl (old.pair k))

  pub commands_change : ((m : ℕ) → GrowsBy (IsMachineCommand runs m) (old.kept m) (now.kept m)) → GrowsBy (IsStepCommand runs) old.runner now.runner → ChangesWorld setting runs more old now
  commands_change kept runner = record {
    idle_pairs = λ k idle. drifts k;
    idle_posts = λ m idle. ap (λ (w : World). w.post m) only.rest;
    tested_pairs = λ g k of_group there tested. but_of (old.pair k) (now.pair k) (drifts k);
    tested_posts = λ g m of_group tested. ap (λ (w : World). at (group_state setting.estate g runs).protected (w.post m)) only.rest;
    pair_count = ap (λ (w : World). w.pair_count) only.rest;
    machine_count = ap (λ (w : World). w.machine_count) only.rest;
    kept = kept;
    runner = runner;
  }

  pub commands_rise : Rises setting runs old now
  commands_rise g k side of_group there quiet = writes_rise (old.pair k) (now.pair k) (drifts k) side
