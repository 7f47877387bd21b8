-- The work of the begun stage on machines, whichever calls it made, keeps the outside sound, and so do more codes that are kept.
use Rattle.std.specs.Prelude.{◌≡◌, ℕ, ◌<◌, ◌==◌, ◌⊎◌, Bool, true, false, List, [], Contains, Option, Some, None, cond, is_some}
use Rattle.std.proofs.Common.{refl, sym, ap, ◌∙◌, inl, inr, subst}
use Rattle.dr_groups.specs.Groups.{IsMachineOf as IsOfGroup}
use Rattle.dr_outside.specs.BySide.{at}
use Rattle.dr_outside.specs.Commands.{code_of}
use Rattle.dr_outside.specs.Pairs.{frame_of}
use Rattle.dr_meaning.specs.Types.{Side, Sides, Placed, Pair, Post, Kept, PlanMachine, Record}
use Rattle.dr_meaning.specs.declared.stage.Stage.{Stage}
use Rattle.dr_meaning.specs.StartUp.{is_started}
use Rattle.dr_meaning.specs.Worlds.{World}
use Rattle.dr_base.specs.Lists.{has}
use Rattle.dr_meaning.specs.Stages.{stage_at}
use Rattle.dr_meaning.specs.Visits.{begun, all}
use Rattle.dr_meaning.specs.Runs.{Setting, Run, number, op, new, stages_of, holds, is_finished, is_open, run_at, last_of_group, runs_of}
use Rattle.dr_meaning.specs.Outcomes.{PostOutcome}
use Rattle.dr_meaning.specs.Reach.{works}
use Rattle.dr_meaning.specs.Expected.{wanted, ExpectedPost}
use Rattle.dr_meaning.specs.Lawful.{LawfulAfter}
use Rattle.dr_meaning.specs.Fits.{FitsPair, FitsMachine}
use Rattle.dr_meaning.specs.InOrder.{is_start_up, is_ready, is_ready_at_new, has_code, IsServing, MayRun}
use Rattle.dr_meaning.specs.Calls.{KeepsCodes, CallsMachines, OnlyKeepsCodes}
use Rattle.dr_meaning.specs.Sound.{IsKept, IsSoundBy, IsSound}
use Rattle.dr_meaning.specs.Backing.{IsRegularPlan, HasRegularPlans, Names, KeepsOrder}
use Rattle.dr_meaning.proofs.Lists.{Each, each-map, each-find, all_each}
use Rattle.dr_meaning.proofs.Elements.{each-contains, has-contains, pick}
use Rattle.dr_model.proofs.StageLaws.{stage_from-each}
use Rattle.dr_model.proofs.TableLaws.{open_is_last}
use Rattle.dr_model.proofs.LogLaws.{unfinished}
use Rattle.dr_model.proofs.ChainLaws.{IsWellKept, HasPlan}
use Rattle.dr_model.proofs.PostPhase.{StageHolds}
use Rattle.dr_model.proofs.FitsDrift.{drift_fits}
use Rattle.dr_model.proofs.SoundAppend.{well_of}
use Rattle.dr_model.proofs.ReadyLaws.{ready_holds}
use Rattle.dr_model.proofs.StartLaws.{in_order-grows}
use Rattle.dr_model.proofs.StaysExpected.{call_keeps_post}
use Rattle.dr_model.proofs.CallSound.{serves_drift}

-- Kept codes ---------------------------------------------------------------------------------------------------

-- what keeps each code keeps each token's
keeps_more : (before after : List Kept) → KeepsCodes before after → (token : ℕ) → has_code before token ≡ true → has_code after token ≡ true
keeps_more before after more token h = go (code_of before token) refl h
  where
    go : (o : Option ℕ) → code_of before token ≡ o → is_some o ≡ true → has_code after token ≡ true
    go None e k = absurd cc
    go (Some code) e k = ap is_some (more token code e)

module _ (old now : World) (machines : (m : ℕ) → KeepsCodes (old.kept m) (now.kept m)) (runner : KeepsCodes old.runner now.runner) where
  kept_on : (item : Record) → IsKept old item → IsKept now item
  kept_on (Record.Code run token machine code) h = go (machine == all) h
    where
      go : (b : Bool) → code_of (cond b old.runner (old.kept machine)) token ≡ Some code → code_of (cond b now.runner (now.kept machine)) token ≡ Some code
      go true e = runner token code e
      go false e = machines machine token code e
  kept_on _ h = tt

  -- each code that was recorded is still kept
  codes_kept : (runs : List Run) → Each (λ (run : Run). Each (IsKept old) run.log) runs → Each (λ (run : Run). Each (IsKept now) run.log) runs
  codes_kept runs = each-map (λ (run : Run). Each (IsKept old) run.log) (λ (run : Run). Each (IsKept now) run.log) (λ run. each-map (IsKept old) (IsKept now) kept_on run.log) runs

-- More codes are kept, and nothing else changes ------------------------------------------------------------------

module _ (old now : World) (more : OnlyKeepsCodes old now) where
  same_pairs : now.pair ≡ old.pair
  same_pairs = ap (λ (w : World). w.pair) more.rest

  same_posts : now.post ≡ old.post
  same_posts = ap (λ (w : World). w.post) more.rest

  pair_there : (p : ℕ) → p < now.pair_count → p < old.pair_count
  pair_there p = subst (λ n. p < n) (ap (λ (w : World). w.pair_count) more.rest)

  machine_there : (m : ℕ) → m < now.machine_count → m < old.machine_count
  machine_there m = subst (λ n. m < n) (ap (λ (w : World). w.machine_count) more.rest)

  frames : (p : ℕ) → frame_of (now.pair p) ≡ frame_of (old.pair p)
  frames p = ap (λ (f : ℕ → Pair). frame_of (f p)) same_pairs

  codes_keep_order : (run : Run) → KeepsOrder old now run
  codes_keep_order run = record {
    ready = λ m named h. ap (λ (f : ℕ → Sides Post). is_ready (at (new run) (f m))) same_posts ∙ h;
    kept = λ m. keeps_more (old.kept m) (now.kept m) (more.machines m);
    runner = keeps_more old.runner now.runner more.runner;
    serving = λ m k listed on h. subst (λ (f : ℕ → Pair). IsServing (op run) (number run) (f k)) (sym same_pairs) h;
    starts = all_each (λ m. is_started (at (new run) (now.post m.machine)) ≡ true → (is_started (at (new run) (old.post m.machine)) ≡ true) ⊎ MayRun now run m) (λ m running. inl (ap (λ (f : ℕ → Sides Post). is_started (at (new run) (f m.machine))) (sym same_posts) ∙ running)) run.plan.machines;
  }

  pub kept_sound : (setting : Setting) (runs : List Run) → IsSoundBy setting runs old → IsSoundBy setting runs now
  kept_sound setting runs s = record {
    pairs = λ g p of_group below. subst (λ (f : ℕ → Pair). FitsPair setting.estate runs g p (f p)) (sym same_pairs) (s.pairs g p of_group (pair_there p below));
    machines = λ g m of_group below. subst (λ (f : ℕ → Sides Post). FitsMachine setting.estate runs g m (f m)) (sym same_posts) (s.machines g m of_group (machine_there m below));
    consistent = λ g p q p_of q_of p_there q_there same. frames p ∙ s.consistent g p q p_of q_of (pair_there p p_there) (pair_there q q_there) same ∙ sym (frames q);
    codes = codes_kept old now more.machines more.runner runs s.codes;
    in_order = in_order-grows old now runs (λ g run last all_last up. codes_keep_order run) s.in_order;
  }

  pub file_kept_sound : (file : List ℕ) → IsSound old file → IsSound now file
  file_kept_sound file (inl empty) = inl empty
  file_kept_sound file (inr s) = inr (record { setting = s.setting; runs = s.runs; tells = s.tells; sound = kept_sound s.setting s.runs s.sound })

-- The work of the begun stage on machines --------------------------------------------------------------------------

-- a machine was changed at the new side by this stage of a run
record IsChanged (r : Run) (stage : Stage) (old now : World) (m : ℕ) (run : Run) : Type 0 where
  same : r ≡ run
  worked : works r stage m (new r) ≡ true
  place : Placed
  outcome : PostOutcome stage.kind place (at (new r) (old.post m)) (at (new r) (now.post m))

module _ (setting : Setting) (records : List Record) (lawful : LawfulAfter setting [] records) (plans : HasRegularPlans setting) (r : Run) (at_n : run_at (number r) (runs_of setting records) ≡ Some r) (going : is_open r ≡ true) (stage : ℕ) (its : begun r.log ≡ Some stage) (old now : World) (calls : CallsMachines setting.estate r (stage_at (stages_of r) stage) old now) where
  abbrev runs : List Run
  runs = runs_of setting records

  well : IsWellKept setting runs
  well = well_of setting records lawful

  unfin : is_finished r ≡ false
  unfin = unfinished (is_finished r) (r.by == 0) going

  last_for : (g : ℕ) → holds g r ≡ true → last_of_group g runs ≡ Some r
  last_for g = open_is_last (number r) g r runs well.table at_n going

  same_runner : now.runner ≡ old.runner
  same_runner = ap (λ (w : World). w.runner) calls.rest

  there : (p : ℕ) → p < now.pair_count → p < old.pair_count
  there p = subst (λ n. p < n) (ap (λ (w : World). w.pair_count) calls.rest)

  has_machine : (m : ℕ) → m < now.machine_count → m < old.machine_count
  has_machine m = subst (λ n. m < n) (ap (λ (w : World). w.machine_count) calls.rest)

  -- each post that was expected is followed by one that is
  expected : (g m : ℕ) (side : Side) → IsOfGroup setting.estate g m → ExpectedPost setting.estate g m side runs (at side (old.post m)) → ExpectedPost setting.estate g m side runs (at side (now.post m))
  expected g m side of_group h = go (works r (stage_at (stages_of r) stage) m side) refl
    where
      as_it_was : at side (now.post m) ≡ at side (old.post m) → ExpectedPost setting.estate g m side runs (at side (now.post m))
      as_it_was same = subst (λ y. ExpectedPost setting.estate g m side runs y) (sym same) h

      outcome : works r (stage_at (stages_of r) stage) m side ≡ true → holds g r ≡ true → PostOutcome (stage_at (stages_of r) stage).kind (wanted g r m) (at side (old.post m)) (at side (now.post m)) → ExpectedPost setting.estate g m side runs (at side (now.post m))
      outcome e held out = call_keeps_post setting records g m side r stage (at side (old.post m)) (at side (now.post m)) lawful (last_for g held) unfin its e h out

      go : (b : Bool) → works r (stage_at (stages_of r) stage) m side ≡ b → ExpectedPost setting.estate g m side runs (at side (now.post m))
      go false e = as_it_was (calls.others m side e)
      go true e = worked (calls.worked g m side of_group e)
        where
          worked : (at side (now.post m) ≡ at side (old.post m)) ⊎ ((holds g r ≡ true) × PostOutcome (stage_at (stages_of r) stage).kind (wanted g r m) (at side (old.post m)) (at side (now.post m))) → ExpectedPost setting.estate g m side runs (at side (now.post m))
          worked (inl same) = as_it_was same
          worked (inr (held, out)) = outcome e held out

  -- machines of the last runs stay in order
  module _ (g : ℕ) (run : Run) (last : last_of_group g runs ≡ Some run) (all_last : Each (λ h. last_of_group h runs ≡ Some run) run.start.groups) (up : is_start_up (op run) ≡ true) where
    own : HasPlan setting run
    own = each-find (HasPlan setting) (holds g) runs run well.plans last

    regular : IsRegularPlan setting.estate run.plan
    regular = plans run.start.plan run.plan own.plan

    abbrev Changed : ℕ → Type 0
    Changed m = IsChanged r (stage_at (stages_of r) stage) old now m run

    abbrev HasGroup : ℕ → Type 0
    HasGroup m = (k : ℕ) × (last_of_group k runs ≡ Some run) × IsOfGroup setting.estate k m

    group_of : (m : PlanMachine) → Contains run.plan.machines m → HasGroup m.machine
    group_of m listed =
        let (k, in_plan, of_group) = regular.machines m listed in
        let held : has run.start.groups k ≡ true = subst (λ gs. has gs k ≡ true) (sym own.groups) (has-contains run.plan.groups k in_plan) in
        (k, pick (λ h. last_of_group h runs ≡ Some run) run.start.groups k all_last held, of_group)

    group_of_named : (m : ℕ) → Names run.plan m → HasGroup m
    group_of_named m (entry, listed, inl same) = subst HasGroup (sym same) (group_of entry listed)
    group_of_named m (entry, listed, inr after) =
        let lower = regular.ordered.dependencies entry m listed after in
        subst HasGroup lower.number (group_of lower.entry lower.listed)

    -- a machine that the plan names is as it was at the new side, or the begun stage changed it
    changed : (m : ℕ) → Names run.plan m → (at (new run) (now.post m) ≡ at (new run) (old.post m)) ⊎ Changed m
    changed m named = let (k, at_run, of_group) = group_of_named m named in by_work k at_run of_group (works r (stage_at (stages_of r) stage) m (new run)) refl
      where
        by_work : (k : ℕ) → last_of_group k runs ≡ Some run → IsOfGroup setting.estate k m → (b : Bool) → works r (stage_at (stages_of r) stage) m (new run) ≡ b → (at (new run) (now.post m) ≡ at (new run) (old.post m)) ⊎ Changed m
        by_work k at_run of_group false e = inl (calls.others m (new run) e)
        by_work k at_run of_group true e = go (calls.worked k m (new run) of_group e)
          where
            go : (at (new run) (now.post m) ≡ at (new run) (old.post m)) ⊎ ((holds k r ≡ true) × PostOutcome (stage_at (stages_of r) stage).kind (wanted k r m) (at (new run) (old.post m)) (at (new run) (now.post m))) → (at (new run) (now.post m) ≡ at (new run) (old.post m)) ⊎ Changed m
            go (inl same) = inl same
            go (inr (held, out)) =
                let found : Some r ≡ Some run = sym (last_for k held) ∙ at_run in
                let is : r ≡ run = cc in
                inr (record {
                  same = is;
                  worked = subst (λ q. works r (stage_at (stages_of r) stage) m (new q) ≡ true) (sym is) e;
                  place = wanted k r m;
                  outcome = subst (λ q. PostOutcome (stage_at (stages_of r) stage).kind (wanted k r m) (at (new q) (old.post m)) (at (new q) (now.post m))) (sym is) out;
                })

    -- of what was ready nothing is lost
    stays_ready : (m : ℕ) → Names run.plan m → is_ready_at_new old run m ≡ true → is_ready_at_new now run m ≡ true
    stays_ready m named h = go (changed m named)
      where
        go : (at (new run) (now.post m) ≡ at (new run) (old.post m)) ⊎ Changed m → is_ready_at_new now run m ≡ true
        go (inl same) = ap is_ready same ∙ h
        go (inr c) =
            let up_r : is_start_up (op r) ≡ true = subst (λ q. is_start_up (op q) ≡ true) (sym c.same) up in
            let was : is_ready_at_new old r m ≡ true = subst (λ q. is_ready_at_new old q m ≡ true) (sym c.same) h in
            subst (λ q. is_ready_at_new now q m ≡ true) c.same
            (stage_from-each (StageHolds r m (new r) c.place (λ y. is_ready y ≡ true)) 1 (stages_of r) stage (λ t x y p o. absurd cc) (ready_holds r m c.place up_r)
            c.worked (at (new r) (old.post m)) (at (new r) (now.post m)) was c.outcome)

    -- what runs ran before, or may run
    starts : (m : PlanMachine) → Contains run.plan.machines m → is_started (at (new run) (now.post m.machine)) ≡ true → (is_started (at (new run) (old.post m.machine)) ≡ true) ⊎ MayRun now run m
    starts m listed running = by_old (is_started (at (new run) (old.post m.machine))) refl
      where
        go : is_started (at (new run) (old.post m.machine)) ≡ false → (at (new run) (now.post m.machine) ≡ at (new run) (old.post m.machine)) ⊎ Changed m.machine → MayRun now run m
        go idle (inl same) = absurd (let wrong : true ≡ false = sym running ∙ ap is_started same ∙ idle in cc)
        go idle (inr c) = subst (λ q. Contains q.plan.machines m → is_started (at (new q) (old.post m.machine)) ≡ false → is_started (at (new q) (now.post m.machine)) ≡ true → MayRun now q m) c.same (calls.starts m) listed idle running

        by_old : (b : Bool) → is_started (at (new run) (old.post m.machine)) ≡ b → (is_started (at (new run) (old.post m.machine)) ≡ true) ⊎ MayRun now run m
        by_old true e = inl e
        by_old false e = inr (go e (changed m.machine (m, listed, inl refl)))

    keeps_order : KeepsOrder old now run
    keeps_order = record {
      ready = stays_ready;
      kept = λ m. keeps_more (old.kept m) (now.kept m) (calls.kept m);
      runner = λ t h. ap (λ l. has_code l t) same_runner ∙ h;
      serving = λ m k listed on h. serves_drift (op run) (number run) (old.pair k) (now.pair k) (calls.drifts k) h;
      starts = each-contains (λ m. is_started (at (new run) (now.post m.machine)) ≡ true → (is_started (at (new run) (old.post m.machine)) ≡ true) ⊎ MayRun now run m) run.plan.machines starts;
    }

  pub machines_sound : IsSoundBy setting runs old → IsSoundBy setting runs now
  machines_sound s = record {
    pairs = λ g p of_group below. drift_fits (old.pair p) (now.pair p) (calls.drifts p) setting.estate runs g p (s.pairs g p of_group (there p below));
    machines = λ g m of_group below side. expected g m side of_group (s.machines g m of_group (has_machine m below) side);
    consistent = λ g p q p_of q_of p_there q_there same. (calls.drifts p).frame ∙ s.consistent g p q p_of q_of (there p p_there) (there q q_there) same ∙ sym (calls.drifts q).frame;
    codes = codes_kept old now calls.kept (λ token code h. ap (λ l. code_of l token) same_runner ∙ h) runs s.codes;
    in_order = in_order-grows old now runs keeps_order s.in_order;
  }
