-- When a Start wave is begun, each pair of the run's groups is Split, or has the test's snapshot.
use Rattle.std.specs.Prelude.{◌≡◌, ◌≢◌, ℕ, ◌<◌, ◌≤◌, ◌⊎◌, ◌==◌, Bool, true, false, List, [], ◌∷◌, Option, Some, None, find}
use Rattle.std.proofs.Common.{refl, sym, ap, ◌∙◌, inl, inr, arith, subst}
use Rattle.std.proofs.lemmas.Bool.{cases_lt, cases_eq, eqb-true}
use Rattle.dr_meaning.specs.Types.{Op, Link}
use Rattle.dr_meaning.specs.declared.stage.StageKind.{StageKind}
use Rattle.dr_meaning.specs.declared.stage.Stage.{Stage}
use Rattle.dr_outside.specs.Pairs.{Frame}
use Rattle.dr_meaning.specs.Stages.{stages, wind_down, stage_at}
use Rattle.dr_meaning.specs.Visits.{Visit, visits, is_visit_done, is_done}
use Rattle.dr_meaning.specs.Runs.{Run, number, op, stages_of}
use Rattle.dr_meaning.specs.Outcomes.{made_frame, FrameOutcome}
use Rattle.dr_meaning.specs.Reach.{FrameStep, ReachFrame, stage_of}
use Rattle.dr_meaning.specs.Fits.{is_recovery}
use Rattle.dr_meaning.proofs.Lists.{Each, each-map, all_each, each-find, find-passes, Some_of, some_of-right}
use Rattle.dr_model.proofs.StageLaws.{each-start_up, stage_from-each}
use Rattle.dr_model.proofs.WholeTest.{callout_frame, start_frame}
use Rattle.dr_model.proofs.ThroughLaws.{Holds, Makes, through_from, some_of-find}
use Rattle.dr_model.proofs.WholeSkips.{complete_makes}
use Rattle.dr_model.proofs.PhaseLaws.{incomplete_step}
use Rattle.dr_model.proofs.ExcuseLaws.{ExcusesRightly}
use Rattle.dr_model.proofs.SequenceLaws.{IsInSequence}
use Rattle.dr_model.proofs.ReadyLaws.{below_done}
use Rattle.dr_model.proofs.WaveOrder.{number_with}
use Rattle.dr_model.proofs.StartLaws.{number_above}
use Rattle.dr_model.proofs.RankLaws.{rank, ranked_numbers, stages_ranked}
use Rattle.dr_model.proofs.CallFacts.{Within, IsWithin, stages_within}

module _ (run : Run) (sequence : IsInSequence run) (v : Visit) (earlier : List Visit) (shape : visits run.log ≡ v ∷ earlier) (starts : (stage_of run v).kind ≡ StageKind.Start) where
  -- a stage of a lower kind is done
  module _ (kind : StageKind) (low : rank kind < 6) (i : ℕ) (above : 1 ≤ i) (its : (stage_at (stages_of run) i).kind ≡ kind) where
    its_below : i < v.stage
    its_below = go (cases_lt i v.stage)
      where
        apart : (v.stage ≡ i) ⊎ (v.stage ≡ i → ⊥) → v.stage ≤ i → i < v.stage
        apart (inl same) le = absurd (omega (arith, low, ap rank its, ap rank starts, ap (λ n. rank (stage_at (stages_of run) n).kind) same))
        apart (inr ne) le = absurd (omega (arith, low, ap rank its, ap rank starts, ranked_numbers 1 (stages_of run) (stages_ranked run.plan run.start.op run.start.forced) v.stage i (number_above 1 (stages_of run) v.stage starts) (omega arith)))

        go : (i < v.stage) ⊎ (v.stage ≤ i) → i < v.stage
        go (inl lt) = lt
        go (inr le) = apart (cases_eq v.stage i) le

    its_done : is_done run.log i ≡ true
    its_done = below_done run v earlier shape sequence i above its_below

    -- what it sets is set, where its visits excuse nothing and no stage undoes it
    set_before : {A : Type 0} (f : Frame → A) (a : A) → Each (λ u. (stage_of run u).kind ≡ kind → u.excused ≡ []) (visits run.log) → ((x : Frame) → f (made_frame run kind x) ≡ a) → Each (λ s. (x : Frame) → f x ≡ a → f (made_frame run s.kind x) ≡ a) (stages_of run) → (x y : Frame) → ReachFrame run x y → f y ≡ a
    set_before f a none sets keeps x y reach = go (find (λ u. u.stage == i) (visits run.log)) refl its_done
      where
        holds : (u : Visit) → Holds (FrameStep run) (λ z. f z ≡ a) u
        holds u b c step was = out (incomplete_step run u b c step)
          where
            out : FrameOutcome run (stage_of run u).kind b c → f c ≡ a
            out (inl made) = ap f made ∙ stage_from-each (λ s. (x : Frame) → f x ≡ a → f (made_frame run s.kind x) ≡ a) 1 (stages_of run) u.stage (λ x e. e) keeps b was
            out (inr same) = ap f same ∙ was

        go : (o : Option Visit) → find (λ u. u.stage == i) (visits run.log) ≡ o → is_visit_done o ≡ true → f y ≡ a
        go None found done = absurd cc
        go (Some u) found done =
            let at_i : u.stage ≡ i = eqb-true u.stage i (find-passes (λ u. u.stage == i) (visits run.log) u found) in
            let its_kind : (stage_of run u).kind ≡ kind = ap (λ n. (stage_at (stages_of run) n).kind) at_i ∙ its in
            let free : u.excused ≡ [] = each-find (λ u. (stage_of run u).kind ≡ kind → u.excused ≡ []) (λ u. u.stage == i) (visits run.log) u none found its_kind in
            through_from (FrameStep run) (λ z. f z ≡ a) (visits run.log)
            (some_of-find (Makes (FrameStep run) (λ z. f z ≡ a)) (λ u. u.stage == i) (visits run.log) u found
            (complete_makes run f a u (rw (done, free) refl) (rw its_kind sets)))
            (all_each (Holds (FrameStep run) (λ z. f z ≡ a)) holds (visits run.log)) x y reach

-- where an operation has no Reverse, a Split stays
stays_split : (run : Run) (kind : StageKind) (x : Frame) → op run ≢ Op.Reprotect → Within (op run) kind → x.link ≡ Link.Split → (made_frame run kind x).link ≡ Link.Split
stays_split run StageKind.Reverse x ne within h = absurd (ne within)
stays_split run StageKind.Split x ne within h = refl
stays_split run StageKind.TestStart x ne within h = h
stays_split run StageKind.TestStop x ne within h = h
stays_split run StageKind.Prepare x ne within h = h
stays_split run _ x ne within h = h

each_stays : (run : Run) → op run ≢ Op.Reprotect → (ss : List Stage) → Each (IsWithin (op run)) ss → Each (λ s. (x : Frame) → x.link ≡ Link.Split → (made_frame run s.kind x).link ≡ Link.Split) ss
each_stays run ne [] h = tt
each_stays run ne (s ∷ ss) h = (λ x e. stays_split run s.kind x ne h.0 e, each_stays run ne ss h.1)

has_split : (run : Run) (o : Op) (forced : Bool) → is_recovery o ≡ true → Some_of (λ s. s.kind ≡ StageKind.Split) (stages run.plan o forced)
has_split run Op.Migrate forced e = inr (some_of-right (λ s. s.kind ≡ StageKind.Split) (wind_down StageKind.Stop run.plan) _ (inr (inr (inl refl))))
has_split run Op.Failover false e = inr (some_of-right (λ s. s.kind ≡ StageKind.Split) (wind_down StageKind.Stop run.plan) _ (inr (inr (inl refl))))
has_split run Op.Failover true e = inl refl
has_split run Op.Testing forced e = absurd cc
has_split run Op.Cleanup forced e = absurd cc
has_split run Op.Reprotect forced e = absurd cc

-- In a migration or failover each pair is Split.
pub split_at_start : (run : Run) → IsInSequence run → ExcusesRightly run → is_recovery (op run) ≡ true → (v : Visit) (earlier : List Visit) → visits run.log ≡ v ∷ earlier → (stage_of run v).kind ≡ StageKind.Start → (x y : Frame) → ReachFrame run x y → y.link ≡ Link.Split
split_at_start run sequence rightly is v earlier shape starts x y reach =
    let (i, above, its) = number_with (λ s. s.kind ≡ StageKind.Split) 1 (stages_of run) (has_split run (op run) run.start.forced is) in
    set_before run sequence v earlier shape starts StageKind.Split (omega arith) i above its (λ f. f.link) Link.Split rightly.none (λ x. refl)
    (each_stays run (λ e. let wrong : false ≡ true = rw e at is in absurd cc) (stages_of run) (stages_within run.plan (op run) run.start.forced)) x y reach

-- In a test each pair has its snapshot.
pub snapshot_at_start : (run : Run) → IsInSequence run → op run ≡ Op.Testing → (v : Visit) (earlier : List Visit) → visits run.log ≡ v ∷ earlier → (stage_of run v).kind ≡ StageKind.Start → (x y : Frame) → ReachFrame run x y → y.snapshot ≡ Some (number run)
snapshot_at_start run sequence test v earlier shape starts x y reach =
    let (i, above, its) = number_with (λ s. s.kind ≡ StageKind.TestStart) 1 (stages_of run) (subst (λ o. Some_of (λ s. s.kind ≡ StageKind.TestStart) (stages run.plan o run.start.forced)) (sym test) (inr (inl refl))) in
    set_before run sequence v earlier shape starts StageKind.TestStart (omega arith) i above its (λ f. f.snapshot) (Some (number run))
    (each-map (λ u. u.excused ≡ []) (λ u. (stage_of run u).kind ≡ StageKind.TestStart → u.excused ≡ []) (λ u h k. h) (visits run.log) (sequence.gone.none_excused (λ e. let wrong : Op.Testing ≡ Op.Failover = sym test ∙ e in absurd cc)))
    (λ x. refl)
    (subst (λ o. Each (λ s. (x : Frame) → x.snapshot ≡ Some (number run) → (made_frame run s.kind x).snapshot ≡ Some (number run)) (stages run.plan o run.start.forced)) (sym test)
    (λ x h. h, (λ x h. refl, each-start_up (λ s. (x : Frame) → x.snapshot ≡ Some (number run) → (made_frame run s.kind x).snapshot ≡ Some (number run)) run.plan (λ s c x h. ap (λ f. f.snapshot) (callout_frame run s c x) ∙ h) (λ s k x h. ap (λ f. f.snapshot) (start_frame run s k x) ∙ h))))
    x y reach
