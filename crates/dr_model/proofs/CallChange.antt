-- What a call of the array changes of the outside, where its run has a new record.
use Rattle.std.specs.Prelude.{◌≡◌, ◌≢◌, ℕ, ◌<◌, ◌≤◌, ◌==◌, Bool, true, false, ◌&&◌, ◌||◌, not, List, [], ◌∷◌, Some, filter, find}
use Rattle.std.specs.List.{list_any, list_all}
use Rattle.std.proofs.Common.{refl, sym, ap, ◌∙◌, subst, arith}
use Rattle.dr_base.specs.Sides.{other}
use Rattle.dr_groups.specs.Groups.{IsPairOf}
use Rattle.dr_outside.specs.BySide.{at, only}
use Rattle.dr_outside.specs.Pairs.{Frame, frame_of, Drift, Made, PairStep}
use Rattle.dr_meaning.specs.Types.{Side, Op, ArrayCall, Pair, Record}
use Rattle.dr_meaning.specs.declared.stage.StageKind.{StageKind}
use Rattle.dr_meaning.specs.Testing.{DriftsButSnapshot}
use Rattle.dr_meaning.specs.Opening.{opening_frame}
use Rattle.dr_meaning.specs.Worlds.{World}
use Rattle.dr_meaning.specs.Stages.{stage_at}
use Rattle.dr_meaning.specs.Runs.{Setting, Run, number, op, stages_of, holds, is_finished, is_open, run_at, last_of_group, group_state}
use Rattle.dr_meaning.specs.Expected.{After, LeavesFrame}
use Rattle.dr_meaning.specs.Fits.{FitsPair}
use Rattle.dr_meaning.specs.Calls.{call_of, CallsPairs}
use Rattle.dr_meaning.specs.Journals.{Stands}
use Rattle.dr_meaning.specs.Sound.{IsSoundBy}
use Rattle.dr_meaning.specs.Changes.{is_of_run, has_new, is_touched, is_test, is_only_tested, is_reversing, IsMachineCommand, IsStepCommand, is_reprotect, ChangesWorld}
use Rattle.dr_model.proofs.StageLaws.{stage_from-each}
use Rattle.dr_model.proofs.TableLaws.{open_is_last}
use Rattle.dr_model.proofs.LogLaws.{unfinished}
use Rattle.dr_model.proofs.ExpectedLaws.{filter-find}
use Rattle.dr_model.proofs.PhaseLaws.{IsChain, Opens, UnderWay, without_snapshot, chain_frames, after_unfinished}
use Rattle.dr_model.proofs.ChainLaws.{group_state-filter}
use Rattle.dr_model.proofs.CallSteps.{worked, made_step}
use Rattle.dr_model.proofs.CallFacts.{Within, IsWithin, stages_within}
use Rattle.dr_model.proofs.FitsDrift.{writes_rise, drift_fits}
use Rattle.dr_model.proofs.GrowsOn.{but_of, but_trans, grows_same}
use Rattle.dr_model.proofs.MoreRecords.{or_right}
use Rattle.dr_model.proofs.Reversed.{reverses}
use Rattle.dr_model.proofs.Standing.{table_of, well_kept_of}
use Rattle.dr_model.proofs.ChangedOn.{Rises}
use Rattle.dr_model.proofs.TestCalls.{TestKind, IsTestStage, test_stages_are, test_call, call_rises}

-- A run among others -----------------------------------------------------------------------------------------------

pub any_found : (p q : Run → Bool) (runs : List Run) (r : Run) → find p runs ≡ Some r → q r ≡ true → list_any q runs ≡ true
any_found p q [] r found is = absurd cc
any_found p q (x ∷ runs) r found is = go (p x) refl (any_found p q runs r)
  where
    go : (b : Bool) → p x ≡ b → (find p runs ≡ Some r → q r ≡ true → list_any q runs ≡ true) → q x || list_any q runs ≡ true
    go true e rest = let same : Some x ≡ Some r = rw e at found in let here : x ≡ r = cc in rw (ap q here ∙ is) refl
    go false e rest = or_right (q x) _ (rest (rw e at found) is)

all_found : (p q : Run → Bool) (runs : List Run) (r : Run) → find p runs ≡ Some r → list_all q runs ≡ true → q r ≡ true
all_found p q [] r found all = absurd cc
all_found p q (x ∷ runs) r found all = go (p x) (q x) refl refl all (all_found p q runs r)
  where
    go : (b c : Bool) → p x ≡ b → q x ≡ c → c && list_all q runs ≡ true → (find p runs ≡ Some r → list_all q runs ≡ true → q r ≡ true) → q r ≡ true
    go true true e f h rest = let same : Some x ≡ Some r = rw e at found in let here : x ≡ r = cc in sym (ap q here) ∙ f
    go false true e f h rest = rest (rw e at found) h
    go true false e f h rest = absurd cc
    go false false e f h rest = absurd cc

module _ (runs : List Run) (r : Run) (at_n : run_at (number r) runs ≡ Some r) (more : List Record) (new : list_any (is_of_run (number r)) more ≡ true) (g : ℕ) (held : holds g r ≡ true) where
  has_it : has_new g more r ≡ true
  has_it = rw held new

  -- its groups are touched
  pub touched : is_touched g more runs ≡ true
  touched = any_found (λ run. number run == number r) (has_new g more) runs r at_n has_it

  -- where only tests and cleanups touch them, it is one
  pub is_tested : is_only_tested g more runs ≡ true → is_test (op r) ≡ true
  is_tested all = go (has_new g more r) has_it (all_found (λ run. number run == number r) (λ run. not (has_new g more run) || is_test (op run)) runs r at_n all)
    where
      go : (b : Bool) → b ≡ true → not b || is_test (op r) ≡ true → is_test (op r) ≡ true
      go true e h = h
      go false e h = absurd cc

-- The array ------------------------------------------------------------------------------------------------------------

opened_frozen : (s : Side) (p : Pair) → without_snapshot (frame_of p) ≡ opening_frame s → at (other p.source) p.writable ≡ false
opened_frozen s p e = ap (λ (f : Frame). at (other f.source) f.writable) e ∙ go s
  where
    go : (s : Side) → at (other s) (only s) ≡ false
    go Side.A = refl
    go Side.B = refl

module _ (setting : Setting) (records : List Record) (runs : List Run) (stand : Stands setting records runs) (r : Run) (at_n : run_at (number r) runs ≡ Some r) (going : is_open r ≡ true) (stage : ℕ) where
  abbrev kind : StageKind
  kind = (stage_at (stages_of r) stage).kind

  unfin : is_finished r ≡ false
  unfin = unfinished (is_finished r) (r.by == 0) going

  last_for : (g : ℕ) → holds g r ≡ true → last_of_group g runs ≡ Some r
  last_for g held = open_is_last (number r) g r runs (table_of setting records runs stand) at_n going held

  others : (g : ℕ) → holds g r ≡ true → (rest : List Run) × (filter (holds g) runs ≡ r ∷ rest)
  others g held = filter-find (holds g) runs r (last_for g held)

  chain_of : (g : ℕ) (rest : List Run) → filter (holds g) runs ≡ r ∷ rest → IsChain setting.estate g (r ∷ rest)
  chain_of g rest e = subst (IsChain setting.estate g) e ((well_kept_of setting records runs stand).groups g).chain

  -- under a test the target isn't writable
  frozen_target : (g k : ℕ) (p : Pair) → holds g r ≡ true → op r ≡ Op.Testing → FitsPair setting.estate runs g k p → at (other p.source) p.writable ≡ false
  frozen_target g k p held test fits =
      let (rest, e) = others g held in
      let chain = chain_of g rest e in
      let expected : After (Opens setting.estate g) LeavesFrame (r ∷ rest) (frame_of p) = rw e at fits.frame in
      let under : UnderWay (op r) (group_state setting.estate g rest).protected (frame_of p) = (chain_frames setting.estate g (r ∷ rest) chain (frame_of p) expected).1 unfin in
      let under_test : UnderWay Op.Testing (group_state setting.estate g rest).protected (frame_of p) = subst (λ (o : Op). UnderWay o (group_state setting.estate g rest).protected (frame_of p)) test under in
      opened_frozen (group_state setting.estate g rest).protected p under_test

  -- its old side is the protected one
  pub old_protected : (g : ℕ) → holds g r ≡ true → (group_state setting.estate g runs).protected ≡ r.old
  old_protected g held =
      let (rest, e) = others g held in
      ap (λ state. state.protected) (sym (group_state-filter setting.estate g runs) ∙ ap (group_state setting.estate g) e ∙ after_unfinished setting.estate g r rest unfin) ∙ sym (chain_of g rest e).1

  within : Within (op r) kind
  within = stage_from-each (IsWithin (op r)) 1 (stages_of r) stage tt (stages_within r.plan (op r) r.start.forced)

  module _ (call : ArrayCall) (makes : call_of r (stage_at (stages_of r) stage).kind ≡ Some call) (old now : World) (calls : CallsPairs setting.estate r call old now) (sound : IsSoundBy setting runs old) (more : List Record) (new : list_any (is_of_run (number r)) more ≡ true) where
    fits_at : (g k : ℕ) → IsPairOf setting.estate g k → k < old.pair_count → (m : Pair) → Drift (old.pair k) m → FitsPair setting.estate runs g k m
    fits_at g k of_group there m d = drift_fits (old.pair k) m d setting.estate runs g k (sound.pairs g k of_group there)

    -- a pair that it made, in a test or a cleanup
    made_tested : (g k : ℕ) → IsPairOf setting.estate g k → k < old.pair_count → holds g r ≡ true → is_test (op r) ≡ true → Made call (old.pair k) (now.pair k) → DriftsButSnapshot (old.pair k) (now.pair k)
    made_tested g k of_group there held test made =
        let step = made_step r (stage_at (stages_of r) stage).kind call (old.pair k) (now.pair k) makes made in
        let fits = fits_at g k of_group there made.moment made.before in
        let is : TestKind (op r) (stage_at (stages_of r) stage).kind = stage_from-each (IsTestStage (op r)) 1 (stages_of r) stage tt (test_stages_are r.plan (op r) r.start.forced test) in
        let called : DriftsButSnapshot made.moment (worked r (stage_at (stages_of r) stage).kind made.moment) =
        test_call r k (stage_at (stages_of r) stage).kind made.moment is step.may fits.numbers.live (λ e. frozen_target g k made.moment held e fits) in
        but_trans (old.pair k) made.moment (now.pair k) (but_of (old.pair k) made.moment made.before)
        (but_trans made.moment (worked r (stage_at (stages_of r) stage).kind made.moment) (now.pair k) called (but_of (worked r (stage_at (stages_of r) stage).kind made.moment) (now.pair k) step.drifts_on))

    not_reversing : (g : ℕ) → holds g r ≡ true → is_reversing g runs ≡ false → op r ≢ Op.Reprotect
    not_reversing g held quiet back =
        let wrong : is_reversing g runs ≡ true = any_found (λ run. number run == number r) (reverses g) runs r at_n (rw (held, unfin) (ap (λ o. is_reprotect o && true) back)) in
        let both : true ≡ false = sym wrong ∙ quiet in
        cc

    -- a pair that it made, outside a reprotect
    made_rises : (g k : ℕ) (side : Side) → IsPairOf setting.estate g k → k < old.pair_count → op r ≢ Op.Reprotect → Made call (old.pair k) (now.pair k) → (at side (old.pair k).content).writes ≤ (at side (now.pair k).content).writes
    made_rises g k side of_group there ne made =
        let step = made_step r (stage_at (stages_of r) stage).kind call (old.pair k) (now.pair k) makes made in
        let fits = fits_at g k of_group there made.moment made.before in
        let before = writes_rise (old.pair k) made.moment made.before side in
        let called = call_rises r k (stage_at (stages_of r) stage).kind made.moment within ne step.may fits.numbers.live side in
        let after = writes_rise (worked r (stage_at (stages_of r) stage).kind made.moment) (now.pair k) step.drifts_on side in
        omega (arith, before, called, after)

    pub calls_change : ChangesWorld setting runs more old now
    calls_change = record {
      idle_pairs = λ k idle. idle_pair k idle (calls.which k) refl (calls.each k);
      idle_posts = λ m idle. ap (λ (w : World). w.post m) calls.rest;
      tested_pairs = λ g k of_group there tested. tested_pair g k of_group there tested (calls.which k) refl (calls.each k);
      tested_posts = λ g m of_group tested. ap (λ (w : World). at (group_state setting.estate g runs).protected (w.post m)) calls.rest;
      pair_count = ap (λ (w : World). w.pair_count) calls.rest;
      machine_count = ap (λ (w : World). w.machine_count) calls.rest;
      kept = λ m. grows_same (IsMachineCommand runs m) (old.kept m) (now.kept m) (ap (λ (w : World). w.kept m) calls.rest);
      runner = grows_same (IsStepCommand runs) old.runner now.runner (ap (λ (w : World). w.runner) calls.rest);
    }
      where
        idle_pair : (k : ℕ) → ((g : ℕ) → IsPairOf setting.estate g k → is_touched g more runs ≡ false) → (b : Bool) → calls.which k ≡ b → PairStep call b (old.pair k) (now.pair k) → Drift (old.pair k) (now.pair k)
        idle_pair k idle false e drift = drift
        idle_pair k idle true e made =
            let (g, of_group) = calls.grouped k e in
            absurd (let wrong : true ≡ false = sym (touched runs r at_n more new g (calls.own g k of_group e)) ∙ idle g of_group in cc)

        tested_pair : (g k : ℕ) → IsPairOf setting.estate g k → k < old.pair_count → is_only_tested g more runs ≡ true → (b : Bool) → calls.which k ≡ b → PairStep call b (old.pair k) (now.pair k) → DriftsButSnapshot (old.pair k) (now.pair k)
        tested_pair g k of_group there tested false e drift = but_of (old.pair k) (now.pair k) drift
        tested_pair g k of_group there tested true e made =
            let held = calls.own g k of_group e in
            made_tested g k of_group there held (is_tested runs r at_n more new g held tested) made

    pub calls_rise : Rises setting runs old now
    calls_rise g k side of_group there quiet = go (calls.which k) refl (calls.each k)
      where
        go : (b : Bool) → calls.which k ≡ b → PairStep call b (old.pair k) (now.pair k) → (at side (old.pair k).content).writes ≤ (at side (now.pair k).content).writes
        go false e drift = writes_rise (old.pair k) (now.pair k) drift side
        go true e made = made_rises g k side of_group there (not_reversing g (calls.own g k of_group e) quiet) made
