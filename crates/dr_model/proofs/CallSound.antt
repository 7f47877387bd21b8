-- A call of the begun stage, Ok or Failed, keeps the outside sound.
use Rattle.std.specs.Prelude.{◌≡◌, ◌≢◌, ℕ, ◌<◌, ◌==◌, ◌⊎◌, Bool, true, false, List, [], Contains, Some, None, option_map}
use Rattle.std.proofs.Common.{refl, sym, ap, ◌∙◌, inl, subst}
use Rattle.dr_inventory.specs.declared.estate.Machine.{Machine}
use Rattle.dr_groups.specs.Groups.{IsPairOf, IsMachineOf as IsOfGroup}
use Rattle.dr_outside.specs.BySide.{at}
use Rattle.dr_outside.specs.Pairs.{frame_of, Drift, Made, PairStep}
use Rattle.dr_meaning.specs.Types.{Sides, Op, Link, ArrayCall, Pair, Post, PlanMachine, Estate, Record}
use Rattle.dr_meaning.specs.declared.stage.StageKind.{StageKind}
use Rattle.dr_meaning.specs.StartUp.{is_started}
use Rattle.dr_meaning.specs.Worlds.{World}
use Rattle.dr_base.specs.Lists.{has}
use Rattle.dr_meaning.specs.Stages.{stage_at}
use Rattle.dr_meaning.specs.Visits.{begun}
use Rattle.dr_meaning.specs.Runs.{Setting, Run, number, op, new, stages_of, holds, is_finished, is_open, run_at, last_of_group, runs_of}
use Rattle.dr_meaning.specs.Outcomes.{made_frame}
use Rattle.dr_meaning.specs.Lawful.{LawfulAfter}
use Rattle.dr_meaning.specs.Fits.{FitsPair, FitsMachine}
use Rattle.dr_meaning.specs.InOrder.{is_start_up, is_ready, has_code, IsPairOfMachine, IsServing, MayRun}
use Rattle.dr_meaning.specs.Calls.{call_of, CalledBy, Called, CallsPairs}
use Rattle.dr_meaning.specs.Sound.{IsKept, IsSoundBy}
use Rattle.dr_meaning.specs.Backing.{IsRegularPlan, HasRegularPlans, KeepsOrder}
use Rattle.dr_meaning.proofs.Lists.{Each, each-map, each-find, all_each}
use Rattle.dr_meaning.proofs.Elements.{has-contains, pick}
use Rattle.dr_model.proofs.StageLaws.{stage_from-each}
use Rattle.dr_model.proofs.TableLaws.{table-lawful, open_is_last}
use Rattle.dr_model.proofs.LogLaws.{unfinished}
use Rattle.dr_model.proofs.ChainLaws.{IsWellKept, HasPlan, kept-lawful}
use Rattle.dr_model.proofs.PostLaws.{empty_kept}
use Rattle.dr_model.proofs.SequenceLaws.{sequence-lawful}
use Rattle.dr_model.proofs.FitsDrift.{drift_fits}
use Rattle.dr_model.proofs.CallSteps.{MayWork, worked, made_step}
use Rattle.dr_model.proofs.CallFacts.{Within, IsWithin, stages_within}
use Rattle.dr_model.proofs.FitsCall.{frame_made}
use Rattle.dr_model.proofs.StartLaws.{in_order-grows}
use Rattle.dr_model.proofs.LawSteps.{IsUnderWay, under_way, call_keeps_fit}

-- A pair that serves a machine goes on to serve it --------------------------------------------------------------

pub serves_drift : (o : Op) (n : ℕ) (p q : Pair) → Drift p q → IsServing o n p → IsServing o n q
serves_drift Op.Testing n p q d h = ap (option_map (λ s. s.run)) d.snapshot ∙ h
serves_drift _ n p q d h = ap (λ f. f.link) d.frame ∙ h

-- what a start-up's stage makes of a serving pair serves
split_serves : (o : Op) → o ≢ Op.Reprotect → (r : Run) (kind : StageKind) (m : Pair) → Within o kind → MayWork kind m → m.link ≡ Link.Split → (worked r kind m).link ≡ Link.Split
split_serves o ne r StageKind.Sync m within may h = absurd (let wrong : Link.Live ≡ Link.Split = sym may ∙ h in cc)
split_serves o ne r StageKind.FinalSync m within may h = absurd (let wrong : Link.Live ≡ Link.Split = sym may ∙ h in cc)
split_serves o ne r StageKind.TestStart m within may h = h
split_serves o ne r StageKind.TestStop m within may h = h
split_serves o ne r StageKind.Prepare m within may h = h
split_serves o ne r StageKind.Split m within may h = refl
split_serves o ne r StageKind.Reverse m within may h = absurd (ne within)
split_serves o ne r _ m within may h = elim may [ ]

test_serves : (r : Run) (n : ℕ) (kind : StageKind) (m : Pair) → Within Op.Testing kind → MayWork kind m → IsServing Op.Testing n m → IsServing Op.Testing n (worked r kind m)
test_serves r n StageKind.Sync m within may h = h
test_serves r n StageKind.FinalSync m within may h = h
test_serves r n StageKind.TestStart m within may h = absurd (let wrong : None ≡ Some n = ap (option_map (λ s. s.run)) (sym may.1) ∙ h in cc)
test_serves r n StageKind.TestStop m within may h = absurd (let wrong : Op.Testing ≡ Op.Cleanup = within in cc)
test_serves r n StageKind.Prepare m within may h = h
test_serves r n StageKind.Split m within may h = h
test_serves r n StageKind.Reverse m within may h = absurd (let wrong : Op.Testing ≡ Op.Reprotect = within in cc)
test_serves r n _ m within may h = elim may [ ]

serves_work : (o : Op) (r : Run) (n : ℕ) (kind : StageKind) (m : Pair) → is_start_up o ≡ true → Within o kind → MayWork kind m → IsServing o n m → IsServing o n (worked r kind m)
serves_work Op.Testing r n kind m up within may h = test_serves r n kind m within may h
serves_work Op.Migrate r n kind m up within may h = split_serves Op.Migrate (λ e. cc) r kind m within may h
serves_work Op.Failover r n kind m up within may h = split_serves Op.Failover (λ e. cc) r kind m within may h
serves_work Op.Cleanup r n kind m up within may h = absurd cc
serves_work Op.Reprotect r n kind m up within may h = absurd cc

-- A pair of a machine's datastores is one of its group --------------------------------------------------------------

pub pair_of_group : (estate : Estate) (g m k : ℕ) → IsOfGroup estate g m → IsPairOfMachine estate m k → IsPairOf estate g k
pair_of_group estate g m k of_group on =
    let same : Some on.on.row ≡ Some of_group.row = sym on.on.found ∙ of_group.found in
    let is : on.on.row ≡ of_group.row = cc in
    record {
      datastore = on.datastore;
      in_group = of_group.within on.datastore (subst (λ (row : Machine). Contains row.datastores on.datastore) is on.on.named);
      named = on.named;
    }

module _ (setting : Setting) (records : List Record) (lawful : LawfulAfter setting [] records) (plans : HasRegularPlans setting) (r : Run) (at_n : run_at (number r) (runs_of setting records) ≡ Some r) (going : is_open r ≡ true) (stage : ℕ) (its : begun r.log ≡ Some stage) (call : ArrayCall) (makes : call_of r (stage_at (stages_of r) stage).kind ≡ Some call) (old now : World) (calls : CallsPairs setting.estate r call old now) where
  abbrev runs : List Run
  runs = runs_of setting records

  well : IsWellKept setting runs
  well = kept-lawful setting [] records lawful (empty_kept setting)

  unfin : is_finished r ≡ false
  unfin = unfinished (is_finished r) (r.by == 0) going

  last_for : (g : ℕ) → holds g r ≡ true → last_of_group g runs ≡ Some r
  last_for g held = open_is_last (number r) g r runs (table-lawful setting [] records lawful tt) at_n going held

  same_posts : now.post ≡ old.post
  same_posts = ap (λ (w : World). w.post) calls.rest

  same_kept : now.kept ≡ old.kept
  same_kept = ap (λ (w : World). w.kept) calls.rest

  same_runner : now.runner ≡ old.runner
  same_runner = ap (λ (w : World). w.runner) calls.rest

  there : (p : ℕ) → p < now.pair_count → p < old.pair_count
  there p = subst (λ n. p < n) (ap (λ (w : World). w.pair_count) calls.rest)

  machine_there : (m : ℕ) → m < now.machine_count → m < old.machine_count
  machine_there m = subst (λ n. m < n) (ap (λ (w : World). w.machine_count) calls.rest)

  called : (p q : Pair) → Made call p q → Called r (stage_at (stages_of r) stage).kind p q
  called p q m = subst (λ o. CalledBy o p q) (sym makes) (inl m)

  fits : (g p : ℕ) → IsPairOf setting.estate g p → FitsPair setting.estate runs g p (old.pair p) → FitsPair setting.estate runs g p (now.pair p)
  fits g p of_group h = go (calls.which p) refl (calls.each p)
    where
      go : (b : Bool) → calls.which p ≡ b → PairStep call b (old.pair p) (now.pair p) → FitsPair setting.estate runs g p (now.pair p)
      go true e m = call_keeps_fit setting records lawful g r (last_for g (calls.own g p of_group e)) unfin stage its p (old.pair p) (now.pair p) h (called (old.pair p) (now.pair p) m)
      go false e d = drift_fits (old.pair p) (now.pair p) d setting.estate runs g p h

  -- the frame of a pair that was made, by that before
  made_frame_is : (g p : ℕ) → last_of_group g runs ≡ Some r → FitsPair setting.estate runs g p (old.pair p) → Made call (old.pair p) (now.pair p) → frame_of (now.pair p) ≡ made_frame r (stage_at (stages_of r) stage).kind (frame_of (old.pair p))
  made_frame_is g p last h m = go (under_way r.log stage its)
    where
      go : IsUnderWay r.log stage → frame_of (now.pair p) ≡ made_frame r (stage_at (stages_of r) stage).kind (frame_of (old.pair p))
      go way =
          let of_visit : call_of r (stage_at (stages_of r) way.visit.stage).kind ≡ Some call = subst (λ n. call_of r (stage_at (stages_of r) n).kind ≡ Some call) (sym way.of_stage) makes in
          subst (λ n. frame_of (now.pair p) ≡ made_frame r (stage_at (stages_of r) n).kind (frame_of (old.pair p))) way.of_stage
          (frame_made setting runs well (sequence-lawful setting records lawful) g r last unfin way.visit way.earlier way.shape way.undone p (old.pair p) (now.pair p) h (made_step r (stage_at (stages_of r) way.visit.stage).kind call (old.pair p) (now.pair p) of_visit m) refl)

  same_frames : (g p q : ℕ) → IsPairOf setting.estate g p → IsPairOf setting.estate g q → FitsPair setting.estate runs g p (old.pair p) → FitsPair setting.estate runs g q (old.pair q) → frame_of (old.pair p) ≡ frame_of (old.pair q) → calls.which p ≡ calls.which q → frame_of (now.pair p) ≡ frame_of (now.pair q)
  same_frames g p q p_of q_of p_fits q_fits same which = go (calls.which p) (calls.which q) refl refl which (calls.each p) (calls.each q)
    where
      go : (b c : Bool) → calls.which p ≡ b → calls.which q ≡ c → b ≡ c → PairStep call b (old.pair p) (now.pair p) → PairStep call c (old.pair q) (now.pair q) → frame_of (now.pair p) ≡ frame_of (now.pair q)
      go true true e f both m n =
          let last = last_for g (calls.own g p p_of e) in
          made_frame_is g p last p_fits m ∙ ap (made_frame r (stage_at (stages_of r) stage).kind) same ∙ sym (made_frame_is g q last q_fits n)
      go false false e f both d k = d.frame ∙ same ∙ sym k.frame
      go true false e f both m k = absurd cc
      go false true e f both d n = absurd cc

  kept_on : (item : Record) → IsKept old item → IsKept now item
  kept_on (Record.Code run token machine code) h = subst (λ (w : World). IsKept w (Record.Code run token machine code)) (sym calls.rest) h
  kept_on _ h = tt

  -- machines of the last runs stay in order
  keeps_order : (g : ℕ) (run : Run) → last_of_group g runs ≡ Some run → Each (λ h. last_of_group h runs ≡ Some run) run.start.groups → is_start_up (op run) ≡ true → KeepsOrder old now run
  keeps_order g run last all_last up = record {
    ready = λ m named h. ap (λ f. is_ready_of (f m)) same_posts ∙ h;
    kept = λ m t h. ap (λ f. has_code (f m) t) same_kept ∙ h;
    runner = λ t h. ap (λ l. has_code l t) same_runner ∙ h;
    serving = serving;
    starts = all_each (λ m. is_started (at (new run) (now.post m.machine)) ≡ true → (is_started (at (new run) (old.post m.machine)) ≡ true) ⊎ MayRun now run m) (λ m running. inl (ap (λ f. is_started (at (new run) (f m.machine))) (sym same_posts) ∙ running)) run.plan.machines;
  }
    where
      is_ready_of : Sides Post → Bool
      is_ready_of posts = is_ready (at (new run) posts)

      own : HasPlan setting run
      own = each-find (HasPlan setting) (holds g) runs run well.plans last

      serving : (m : PlanMachine) (k : ℕ) → Contains run.plan.machines m → IsPairOfMachine run.estate m.machine k → IsServing (op run) (number run) (old.pair k) → IsServing (op run) (number run) (now.pair k)
      serving m k listed on h = go (calls.which k) refl (calls.each k)
        where
          regular : IsRegularPlan setting.estate run.plan
          regular = plans run.start.plan run.plan own.plan

          by_run : (gk : ℕ) → Contains run.plan.groups gk → IsOfGroup setting.estate gk m.machine → calls.which k ≡ true → r ≡ run
          by_run gk in_plan of_group e =
              let of_pair : IsPairOf setting.estate gk k = pair_of_group setting.estate gk m.machine k of_group (subst (λ e. IsPairOfMachine e m.machine k) own.estate on) in
              let held : has run.start.groups gk ≡ true = subst (λ gs. has gs gk ≡ true) (sym own.groups) (has-contains run.plan.groups gk in_plan) in
              let at_run : last_of_group gk runs ≡ Some run = pick (λ h. last_of_group h runs ≡ Some run) run.start.groups gk all_last held in
              let same : Some r ≡ Some run = sym (last_for gk (calls.own gk k of_pair e)) ∙ at_run in
              cc

          made_serves : r ≡ run → Made call (old.pair k) (now.pair k) → IsServing (op run) (number run) (now.pair k)
          made_serves is made =
              let kind : StageKind = (stage_at (stages_of r) stage).kind in
              let step = made_step r (stage_at (stages_of r) stage).kind call (old.pair k) (now.pair k) makes made in
              let up_r : is_start_up (op r) ≡ true = subst (λ q. is_start_up (op q) ≡ true) (sym is) up in
              let within : Within (op r) (stage_at (stages_of r) stage).kind = stage_from-each (IsWithin (op r)) 1 (stages_of r) stage tt (stages_within r.plan (op r) r.start.forced) in
              let at_moment : IsServing (op r) (number r) made.moment = serves_drift (op r) (number r) (old.pair k) made.moment made.before (subst (λ q. IsServing (op q) (number q) (old.pair k)) (sym is) h) in
              let after : IsServing (op r) (number r) (worked r (stage_at (stages_of r) stage).kind made.moment) = serves_work (op r) r (number r) (stage_at (stages_of r) stage).kind made.moment up_r within step.may at_moment in
              subst (λ q. IsServing (op q) (number q) (now.pair k)) is (serves_drift (op r) (number r) (worked r (stage_at (stages_of r) stage).kind made.moment) (now.pair k) step.drifts_on after)

          go : (b : Bool) → calls.which k ≡ b → PairStep call b (old.pair k) (now.pair k) → IsServing (op run) (number run) (now.pair k)
          go true e made = let (gk, in_plan, of_group) = regular.machines m listed in made_serves (by_run gk in_plan of_group e) made
          go false e d = serves_drift (op run) (number run) (old.pair k) (now.pair k) d h

  pub call_sound : IsSoundBy setting runs old → IsSoundBy setting runs now
  call_sound s = record {
    pairs = λ g p of_group below. fits g p of_group (s.pairs g p of_group (there p below));
    machines = λ g m of_group below. subst (λ f. FitsMachine setting.estate runs g m (f m)) (sym same_posts) (s.machines g m of_group (machine_there m below));
    consistent = λ g p q p_of q_of p_there q_there same.
        let frames = s.consistent g p q p_of q_of (there p p_there) (there q q_there) same in
        same_frames g p q p_of q_of (s.pairs g p p_of (there p p_there)) (s.pairs g q q_of (there q q_there)) frames (calls.alike g p q p_of q_of same frames);
    codes = each-map (λ (run : Run). Each (IsKept old) run.log) (λ (run : Run). Each (IsKept now) run.log) (λ run c. each-map (IsKept old) (IsKept now) kept_on run.log c) runs s.codes;
    in_order = in_order-grows old now runs keeps_order s.in_order;
  }
