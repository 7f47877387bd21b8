-- From what the array's and the machines' calls leave to what a test of a plan leaves.
use Rattle.std.proofs.Common.{◌≡◌, ℕ, ◌≤◌, ◌<◌, inl, inr, Bool, true, false, ◌&&◌, List, [], length, refl, ap, subst, arith}
use Rattle.std.proofs.lemmas.Bool.{cases_order}
use Rattle.std.proofs.lemmas.List.Elements.{All-contains}
use Rattle.dr_base.specs.declared.side.Side.TheVariants.{A, B}
use Rattle.dr_base.specs.Sides.{other}
use Rattle.dr_base.specs.declared.answer.Answer.{Answer}
use Rattle.dr_base.specs.declared.answer.Answer.TheVariants.{ArrayFault, Done, Foreign, PortFault}
use Rattle.dr_base.specs.declared.answer.Thing.TheVariants.{Machine as MachineThing}
use Rattle.dr_inventory.specs.declared.estate.Estate.{Estate}
use Rattle.dr_plan.specs.declared.plan.Plan.{Plan}
use Rattle.dr_plan.specs.declared.plan.PlanMachine.{PlanMachine}
use Rattle.dr_plan.specs.declared.plan.Wave.{Wave}
use Rattle.dr_plan.specs.Orders.{AreWaves, IsShallower}
use Rattle.dr_plan.specs.Waves.{waves_of}
use Rattle.dr_outside.specs.declared.pair.Pair.{Pair}
use Rattle.dr_outside.specs.declared.pair.Half.{Half}
use Rattle.dr_base.specs.Lists.{has}
use Rattle.dr_outside.specs.Arrays.{ArrayState}
use Rattle.dr_outside.specs.declared.machine.Post.TheVariants.{Placeholder, Ready}
use Rattle.dr_outside.specs.Machines.{PortState}
use Rattle.dr_meaning.specs.Opening.{AreOpeningMachines}
use Rattle.dr_meaning.specs.StartUp.{PlanInOrder, is_started}
use Rattle.dr_meaning.specs.Testing.{DriftsButSnapshot}
use Rattle.dr_testing.specs.declared.start_up.StartEnd.{StartEnd}
use Rattle.dr_testing.specs.declared.start_up.StartEnd.TheVariants.{Done as AllDone, Failed, Refused}
use Rattle.dr_testing.specs.Placing.{wanted_place, wanted_at, wave_of, is_planned}
use Rattle.dr_testing.specs.Starts.{ChangesAtB, StandsAsWanted, FailedAt, TriedAt, AllCause, AllTold, AllStep, AllPlaceholders}
use Rattle.dr_testing.specs.Tests.{IsTestable, Outside, RunCause, MachinesDone, AreInOrder, AreTestedPairs, AreTestedByGroup, KeepsPairs, KeepsMachines, PairsDone, IsToldPair, opening_code, refused_code, answer_of}
use Rattle.dr_testing.specs.Storage.{AreFit, PairDone, SomeSnapshots, IsUnfitPair}
use Rattle.dr_testing.proofs.PlanLaws.{IsRowOf, row_of, planned_of, planned_in_wave, in_wave_planned, earlier_wave}
use Rattle.dr_testing.proofs.StorageLaws.{beside}

module _ (estate : Estate) (plan : Plan) (testable : IsTestable estate plan) (waves : List Wave) (are : AreWaves plan waves) where
  planned : (i : ℕ) → wave_of waves i < length waves → is_planned plan i ≡ true
  planned i l = in_wave_planned plan testable.ordered waves are i no_wave l
    where
      no_wave : Wave
      no_wave = record { priority = 0; depth = 0; machines = [] }

  has_wave : (i : ℕ) → is_planned plan i ≡ true → wave_of waves i < length waves
  has_wave = planned_in_wave plan testable.ordered waves are

  -- a machine that isn't the plan's has no wave
  no_wave_of : (i : ℕ) → is_planned plan i ≡ false → length waves ≤ wave_of waves i
  no_wave_of i isnt = elim (cases_order (wave_of waves i) (length waves)) [
    | inl e ↦ omega (arith, e)
    | inr o ↦ elim o [
      | inl lt ↦ absurd (let is : is_planned plan i ≡ true = planned i lt in cc (is, isnt))
      | inr gt ↦ omega (arith, gt)
    ]
  ]

  -- a machine of the plan is one of the estate
  below : (i : ℕ) → is_planned plan i ≡ true → i < length estate.machines
  below i h =
      let r : IsRowOf plan i = row_of plan i h in
      subst (λ k. k < length estate.machines) r.number (All-contains (λ (m : PlanMachine). m.machine < length estate.machines) plan.machines r.row testable.machines r.listed)

  module _ (slots : ℕ) (enough : length estate.machines ≤ slots) (old new : ℕ → PortState) where
    -- before the test each machine of the plan is a placeholder at B
    pub placeholders_before : AreOpeningMachines A slots old → AllPlaceholders waves old
    placeholders_before opening i l = (opening i (omega (arith, below i (planned i l), enough))).there

    pub machines_kept : ((i : ℕ) → ChangesAtB (old i) (new i)) → ((i : ℕ) → length waves ≤ wave_of waves i → new i ≡ old i) → KeepsMachines plan old new
    machines_kept elsewhere others = record { all = elsewhere; others = λ i isnt. others i (no_wave_of i isnt) }

    -- what a finished start leaves
    pub machines_done : (end : StartEnd) → ((i : ℕ) → ChangesAtB (old i) (new i)) → ((i : ℕ) → length waves ≤ wave_of waves i → new i ≡ old i) → AllStep waves (wanted_at estate) old new end → MachinesDone estate plan old new (answer_of end)
    machines_done AllDone elsewhere others step = record {
      tested = λ i h. record { ready = step i (has_wave i h); protected = (elsewhere i).protected; kept = (elsewhere i).kept };
      others = λ i isnt. others i (no_wave_of i isnt);
    }
    machines_done (Failed m) elsewhere others step = tt
    machines_done (Refused refused) elsewhere others step = tt

    module _ (opening : AreOpeningMachines A slots old) where
      -- after a start that was tried, none of a later wave stands anywhere
      later_placeholder : (m : ℕ) → FailedAt waves old new m → (j : ℕ) → is_planned plan j ≡ true → wave_of waves m < wave_of waves j → (new j).post.b ≡ Placeholder
      later_placeholder m failed j h lt = rw (failed.untouched j lt) (placeholders_before opening j (has_wave j h))

      stand_failed : (m : ℕ) → FailedAt waves old new m → TriedAt waves (wanted_at estate) old new m → (i : ℕ) → is_planned plan i ≡ true → StandsAsWanted (wanted_at estate i) (new i).post.b
      stand_failed m failed tried i h = elim (cases_order (wave_of waves i) (wave_of waves m)) [
        | inl e ↦ (tried.tried i e).stands
        | inr o ↦ elim o [
          | inl lt ↦ inr (inr (inr (tried.earlier i lt)))
          | inr gt ↦ inl (later_placeholder m failed i h gt)
        ]
      ]

      -- where a machine was started, each of an earlier wave is ready
      ready_before : (m : ℕ) → FailedAt waves old new m → TriedAt waves (wanted_at estate) old new m → (i j : ℕ) → is_planned plan j ≡ true → wave_of waves i < wave_of waves j → is_started (new j).post.b ≡ true → (new i).post.b ≡ Ready (wanted_at estate i)
      ready_before m failed tried i j h lt started = elim (cases_order (wave_of waves i) (wave_of waves m)) [
        | inl e ↦
            let stopped : is_started (new j).post.b ≡ false = ap is_started (later_placeholder m failed j h (omega (arith, e, lt))) in
            cc (started, stopped)
        | inr o ↦ elim o [
          | inl less ↦ tried.earlier i less
          | inr more ↦
              let stopped : is_started (new j).post.b ≡ false = ap is_started (later_placeholder m failed j h (omega (arith, more, lt))) in
              cc (started, stopped)
        ]
      ]

      -- what is so of waves is so of priorities and dependencies
      in_order : ((i j : ℕ) → is_planned plan i ≡ true → is_planned plan j ≡ true → wave_of waves i < wave_of waves j → is_started (new j).post.b ≡ true → (new i).post.b ≡ Ready (wanted_at estate i)) → PlanInOrder B (wanted_at estate) plan new
      in_order ready = record {
        dependencies = λ m k c started after.
            let shallower : IsShallower plan m.priority m.depth k = testable.ordered.dependencies m k c after in
            let first : wave_of waves shallower.entry.machine < wave_of waves m.machine = earlier_wave plan testable.ordered waves are shallower.entry m shallower.listed c (inr (shallower.same_priority, shallower.lower)) in
            subst (λ i. (new i).post.b ≡ Ready (wanted_at estate i)) shallower.number (ready shallower.entry.machine m.machine (planned_of plan shallower.entry shallower.listed) (planned_of plan m c) first started);
        priorities = λ earlier later ce cl lt started.
            ready earlier.machine later.machine (planned_of plan earlier ce) (planned_of plan later cl) (earlier_wave plan testable.ordered waves are earlier later ce cl (inl lt)) started;
      }

      pub order_after : (end : StartEnd) → AllCause waves (wanted_place estate) old new end → AllStep waves (wanted_at estate) old new end → AreInOrder estate plan new
      order_after AllDone cause step = record {
        stand = λ i h. inr (inr (inr (step i (has_wave i h))));
        order = in_order (λ i j hi hj lt started. step i (has_wave i hi));
      }
      order_after (Failed m) cause step = record {
        stand = stand_failed m cause step;
        order = in_order (λ i j hi hj lt started. ready_before m cause step i j hj lt started);
      }
      order_after (Refused refused) cause step = absurd step

module _ (plan : Plan) (old new : ℕ → Pair) where
  -- the snapshots were taken
  pub pairs_tested : ((i : ℕ) → PairDone 1 (has plan.pairs i) (old i) (new i)) → AreTestedPairs plan old new
  pairs_tested done = record {
    tested = λ i l. rw l at (done i);
    others = λ i l. rw l at (done i);
  }

  done_keeps : (b : Bool) (p q : Pair) → PairDone 1 b p q → DriftsButSnapshot p q
  done_keeps true p q done = done.rest
  done_keeps false p q drift = beside p q drift

  pub kept_by_done : ((i : ℕ) → PairDone 1 (has plan.pairs i) (old i) (new i)) → KeepsPairs plan old new
  kept_by_done done = record { all = λ i. done_keeps (has plan.pairs i) (old i) (new i) (done i); others = (pairs_tested done).others }

  -- a call failed
  pub kept_by_some : (group : ℕ → ℕ) → SomeSnapshots 1 plan.pairs group old new → KeepsPairs plan old new
  kept_by_some group some = record {
    all = λ i. done_keeps (has plan.pairs i && some.done (group i)) (old i) (new i) (some.each i);
    others = λ i l. rw l at (some.each i);
  }

  pub tested_by_group : (group : ℕ → ℕ) → SomeSnapshots 1 plan.pairs group old new → AreTestedByGroup plan group old new
  tested_by_group group some = record {
    done = some.done;
    tested = λ i l d. rw (l, d) at (some.each i);
    left = λ i l d. rw (l, d) at (some.each i);
  }

-- whatever the machines answer, the pairs are done
pub pairs_done : (plan : Plan) (old new : ArrayState) (answer : Answer) → AreTestedPairs plan old.pair new.pair → PairsDone plan old new answer
pairs_done plan old new (Done run) tested = tested
pairs_done plan old new (PortFault machine) tested = tested
pairs_done plan old new (Foreign (MachineThing machine) wanted found) tested = tested
pairs_done plan old new (ArrayFault side) tested = record { done = λ group. true; tested = λ i l d. tested.tested i l; left = λ i l d. cc d }
pairs_done plan old new _ tested = tt

-- the codes of the half that was found are those of the pair's own
pub told_pair : (old : Pair) (found : Half) → IsUnfitPair 1 old found → IsToldPair old (opening_code (other found.source)) (refused_code found)
told_pair old found u = record {
  unfit = u.unfit;
  want = ap (λ (h : Half). opening_code (other h.source)) u.shown;
  is = ap refused_code u.shown;
}

module _ (array_tells port_tells : Type 0) (estate : Estate) (plan : Plan) (testable : IsTestable estate plan) (are : AreWaves plan (waves_of plan)) (old new : Outside) (enough : length estate.machines ≤ old.slots) where
  -- the cause of a test that came to the machines
  pub machine_cause : (end : StartEnd) → AllCause (waves_of plan) (wanted_place estate) old.machine new.machine end → (port_tells → AllTold (waves_of plan) old.machine end) → (port_tells → AllPlaceholders (waves_of plan) old.machine → AllStep (waves_of plan) (wanted_at estate) old.machine new.machine end)
      → (array_tells → AreFit 1 plan.pairs old.array.pair) → RunCause array_tells port_tells estate plan old new (answer_of end)
  machine_cause AllDone cause told step fit = (refl, λ t i h. told t i (has_wave estate plan testable (waves_of plan) are i h), fit)
  machine_cause (Failed m) cause told step fit = record {
    planned = planned estate plan testable (waves_of plan) are m cause.listed;
    failed = cause;
    tried = λ t opening. step t (placeholders_before estate plan testable (waves_of plan) are old.slots enough old.machine new.machine opening);
  }
  machine_cause (Refused refused) cause told step fit = record {
    planned = planned estate plan testable (waves_of plan) are refused.machine cause.listed;
    codes = cause.codes;
    untouched = cause.untouched;
    told = λ t. (told t).0;
    first = λ t. (told t).1;
    foreign = λ t opening. step t (placeholders_before estate plan testable (waves_of plan) are old.slots enough old.machine new.machine opening);
  }
