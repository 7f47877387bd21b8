-- What a lawful journal says of a pair at a call: its source, and what is done; so every call of a begun stage keeps the pair's numbers.
use Rattle.std.specs.Prelude.{◌≡◌, ◌≢◌, ℕ, ◌==◌, Bool, true, false, ◌&&◌, List, [], ◌∷◌, Option, Some, None, IfSome, IsSomeAnd, cond, filter, find}
use Rattle.std.proofs.Common.{refl, sym, ap, ◌∙◌, inl, inr, arith, subst}
use Rattle.dr_meaning.specs.Types.{Op, Link, Pair, Plan, StartPair, Estate, Phase, GroupState}
use Rattle.dr_meaning.specs.declared.stage.StageKind.{StageKind}
use Rattle.dr_meaning.specs.declared.stage.Stage.{Stage}
use Rattle.dr_outside.specs.Pairs.{Frame, frame_of}
use Rattle.dr_meaning.specs.Opening.{opening_frame}
use Rattle.dr_meaning.specs.Stages.{recovery, stages, start_up, wind_down}
use Rattle.dr_meaning.specs.Visits.{Visit, visits}
use Rattle.dr_meaning.specs.Runs.{Setting, Run, op, stages_of, holds, is_finished, finish, group_state, last_of_group}
use Rattle.dr_meaning.specs.Outcomes.{made_frame, FrameOutcome}
use Rattle.dr_meaning.specs.Reach.{Through, FrameStep, stage_of}
use Rattle.dr_meaning.specs.Expected.{After, LeavesFrame}
use Rattle.dr_meaning.specs.Lawful.{IsPairRow, SeenFor, StartsFrom, takes_over}
use Rattle.dr_meaning.specs.InOrder.{is_start_up}
use Rattle.dr_model.proofs.CallSteps.{MayWork, AtCall}
use Rattle.dr_meaning.specs.Fits.{pair_row, is_recovery, splits, FitsNumbers, FitsPair}
use Rattle.dr_meaning.specs.Phases.{IsAtRest, AtRest, IsRecovered}
use Rattle.dr_meaning.proofs.Lists.{Each, each-map, each-append, each-find}
use Rattle.dr_model.proofs.StageLaws.{IsCallout, IsWave, each-start_up, each-recovery, wind_down-kind, stage_from-each}
use Rattle.dr_model.proofs.WholeTest.{callout_frame, start_frame, start_up_frames}
use Rattle.dr_model.proofs.WholeMigrate.{stop_frame}
use Rattle.dr_model.proofs.ExpectedLaws.{filter-find}
use Rattle.dr_model.proofs.PhaseLaws.{incomplete_step, IsChain, StartsAt, Opens, UnderWay, chain_frames, after_finished, after_unfinished, reach_keeps}
use Rattle.dr_model.proofs.CallLaws.{Fitting, numbers-called}
use Rattle.dr_model.proofs.SequenceLaws.{IsInSequence}
use Rattle.dr_model.proofs.ChainLaws.{HasPlan, IsWellKept}
use Rattle.dr_model.proofs.RankLaws.{not_reached}
use Rattle.dr_model.proofs.NumberStart.{splits_last}
use Rattle.dr_model.proofs.OrderStart.{start_up_takes}

-- The source under a start-up

module _ (run : Run) where
  abbrev Sourced : Stage → Type 0
  Sourced s = (x : Frame) → (made_frame run s.kind x).source ≡ x.source

  each_source : (o : Op) (forced : Bool) → is_start_up o ≡ true → Each Sourced (stages run.plan o forced)
  each_source o forced up = go o forced up
    where
      recovers : Each Sourced (recovery run.plan)
      recovers = each-recovery Sourced run.plan (λ s c x. ap (λ f. f.source) (callout_frame run s c x)) (λ s k x. ap (λ f. f.source) (start_frame run s k x)) (λ s k x. ap (λ f. f.source) (stop_frame run s k x)) (λ x. refl) (λ x. refl) (λ x. refl) (λ x. refl)

      go : (o : Op) (forced : Bool) → is_start_up o ≡ true → Each Sourced (stages run.plan o forced)
      go Op.Testing forced e = (λ x. refl, (λ x. refl, start_up_frames run (λ f. f.source) run.plan))
      go Op.Migrate forced e = recovers
      go Op.Failover false e = recovers
      go Op.Failover true e = (λ x. refl, start_up_frames run (λ f. f.source) run.plan)
      go Op.Cleanup forced e = absurd cc
      go Op.Reprotect forced e = absurd cc

pub ready_from : (o : Op) (n : ℕ) (state : GroupState) → is_start_up o ≡ true → StartsFrom o n state → state.phase ≡ Phase.Ready
ready_from Op.Testing n state e from = from
ready_from Op.Migrate n state e from = from
ready_from Op.Failover n state e from = from
ready_from Op.Cleanup n state e from = absurd cc
ready_from Op.Reprotect n state e from = absurd cc

module _ (estate : Estate) (g : ℕ) (r : Run) (up : is_start_up (op r) ≡ true) where
  -- the frame that it starts from
  source_before : (earlier : List Run) → IsChain estate g (r ∷ earlier) → (x : Frame) → After (Opens estate g) LeavesFrame earlier x → x.source ≡ r.old
  source_before [] chain x opening = ap (λ f. f.source) opening ∙ sym chain.1
  source_before (q ∷ rest) chain x before = go chain.2 (chain_frames estate g (q ∷ rest) chain.3 x before)
    where
      go : StartsAt estate g r (q ∷ rest) → (IsAtRest (q ∷ rest) → AtRest (group_state estate g (q ∷ rest)) x) × (is_finished q ≡ false → UnderWay (op q) (group_state estate g rest).protected x) → x.source ≡ r.old
      go (inl (fin, from)) frames =
          let at_rest = frames.0 fin in
          let phase : (group_state estate g (q ∷ rest)).phase ≡ Phase.Ready = ready_from (op r) r.start.plan _ up from in
          let opening : x ≡ opening_frame (group_state estate g (q ∷ rest)).protected = rw phase at at_rest in
          ap (λ f. f.source) opening ∙ sym chain.1
      go (inr (going, takes)) frames =
          let (fails, migrates) = start_up_takes (op r) (op q) takes up in
          let under : UnderWay Op.Migrate (group_state estate g rest).protected x = subst (λ o. UnderWay o (group_state estate g rest).protected x) migrates (frames.1 going) in
          under.0 ∙ ap (λ state. state.protected) (sym (after_unfinished estate g q rest going)) ∙ sym chain.1

  pub source_under_way : (earlier : List Run) → IsChain estate g (r ∷ earlier) → is_finished r ≡ false → (y : Frame) → After (Opens estate g) LeavesFrame (r ∷ earlier) y → y.source ≡ r.old
  source_under_way earlier chain going y (x, before, leaves) =
      reach_keeps r (λ f. f.source) (each_source r (op r) r.start.forced up) x y (rw going at leaves) ∙ source_before earlier chain x before

-- A reprotect comes after the run that split the pair

recovers_if : (o : Op) (n plan : ℕ) (state : GroupState) → (finish o n state).phase ≡ Phase.Recovered → is_recovery o ≡ true
recovers_if Op.Migrate n plan state e = refl
recovers_if Op.Failover n plan state e = refl
recovers_if Op.Testing n plan state e = absurd cc
recovers_if Op.Cleanup n plan state e = absurd cc
recovers_if Op.Reprotect n plan state e = absurd cc

same_protected : (o : Op) (n : ℕ) (state : GroupState) → is_recovery o ≡ true → (finish o n state).protected ≡ state.protected
same_protected Op.Migrate n state e = refl
same_protected Op.Failover n state e = refl
same_protected Op.Testing n state e = absurd cc
same_protected Op.Cleanup n state e = absurd cc
same_protected Op.Reprotect n state e = absurd cc

pub takes_no_reprotect : (oq : Op) → takes_over Op.Reprotect oq ≡ true → ⊥
takes_no_reprotect oq e = cc

splits-filter : (g : ℕ) (runs : List Run) → find (splits g) runs ≡ find (λ r. is_recovery (op r)) (filter (holds g) runs)
splits-filter g [] = refl
splits-filter g (q ∷ runs) = go (holds g q) (splits-filter g runs)
  where
    go : (b : Bool) → find (splits g) runs ≡ find (λ r. is_recovery (op r)) (filter (holds g) runs) → cond (b && is_recovery (op q)) (Some q) (find (splits g) runs) ≡ find (λ r. is_recovery (op r)) (cond b (q ∷ filter (holds g) runs) (filter (holds g) runs))
    go true ih = rw ih refl
    go false ih = ih

pub split_before : (estate : Estate) (g : ℕ) (r : Run) (earlier : List Run) → op r ≡ Op.Reprotect → IsChain estate g (r ∷ earlier) → IsSomeAnd (find (λ q. is_recovery (op q)) (r ∷ earlier)) (λ q. q.old ≡ r.old)
split_before estate g r [] e chain = absurd (let from : StartsFrom Op.Reprotect r.start.plan (group_state estate g []) = subst (λ o. StartsFrom o r.start.plan (group_state estate g [])) e chain.2 in let wrong : Phase.Ready ≡ Phase.Recovered = from.0 in cc)
split_before estate g r (q ∷ rest) e chain = go chain.2
  where
    go : StartsAt estate g r (q ∷ rest) → IsSomeAnd (find (λ p. is_recovery (op p)) (r ∷ q ∷ rest)) (λ p. p.old ≡ r.old)
    go (inl (fin, from)) =
        let phase : (group_state estate g (q ∷ rest)).phase ≡ Phase.Recovered = (subst (λ o. StartsFrom o r.start.plan (group_state estate g (q ∷ rest))) e from).0 in
        let state = after_finished estate g q rest chain.3.0 fin in
        let is : is_recovery (op q) ≡ true = recovers_if (op q) q.start.plan r.start.plan (group_state estate g rest) (ap (λ s. s.phase) (sym state) ∙ phase) in
        let old : q.old ≡ r.old = chain.3.1 ∙ sym (same_protected (op q) q.start.plan (group_state estate g rest) is) ∙ ap (λ s. s.protected) (sym state) ∙ sym chain.1 in
        let skips : is_recovery (op r) ≡ false = ap is_recovery e in
        rw (skips, is) old
    go (inr (going, takes)) = absurd (takes_no_reprotect (op q) (subst (λ o. takes_over o (op q) ≡ true) e takes))

-- Which operation has a stage of this kind

abbrev pub Within : Op → StageKind → Type 0
Within o StageKind.TestStart = o ≡ Op.Testing
Within o StageKind.Split = is_recovery o ≡ true
Within o StageKind.Reverse = o ≡ Op.Reprotect
Within o StageKind.Prepare = o ≢ Op.Cleanup
Within o StageKind.TestStop = o ≡ Op.Cleanup
Within o _ = Unit {0}

abbrev pub IsWithin : Op → Stage → Type 0
IsWithin o s = Within o s.kind

pub stages_within : (plan : Plan) (o : Op) (forced : Bool) → Each (IsWithin o) (stages plan o forced)
stages_within plan o forced = go o forced
  where
    callout : (o : Op) (s : Stage) → IsCallout s → Within o s.kind
    callout o s (inl e, none) = rw e tt
    callout o s (inr e, none) = rw e tt

    ups : (o : Op) → Each (IsWithin o) (start_up plan)
    ups o = each-start_up (IsWithin o) plan (callout o) (λ s e. rw e tt)

    clears : (o : Op) → Each (IsWithin o) (wind_down StageKind.Clear plan)
    clears o = each-map (IsWave StageKind.Clear) (IsWithin o) (λ s e. rw e tt) _ (wind_down-kind StageKind.Clear plan)

    go : (o : Op) (forced : Bool) → Each (IsWithin o) (stages plan o forced)
    go Op.Testing forced = (tt, (refl, ups Op.Testing))
    go Op.Migrate forced = each-recovery (IsWithin Op.Migrate) plan (callout Op.Migrate) (λ s e. rw e tt) (λ s e. rw e tt) tt (λ e. cc) tt refl
    go Op.Failover false = each-recovery (IsWithin Op.Failover) plan (callout Op.Failover) (λ s e. rw e tt) (λ s e. rw e tt) tt (λ e. cc) tt refl
    go Op.Failover true = (refl, ups Op.Failover)
    go Op.Cleanup forced = each-append (IsWithin Op.Cleanup) (wind_down StageKind.Clear plan) _ (clears Op.Cleanup) (refl, tt)
    go Op.Reprotect forced = each-append (IsWithin Op.Reprotect) (wind_down StageKind.Clear plan) _ (clears Op.Reprotect) (λ e. cc, (refl, (tt, tt)))

-- In a reprotect a Split pair has the old side as its source

module _ (run : Run) (P : Frame → Type 0) where
  pub through_frame : Each (λ s. (x : Frame) → P x → P (made_frame run s.kind x)) (stages_of run) → (vs : List Visit) (x y : Frame) → Through (FrameStep run) vs x y → P x → P y
  through_frame h [] x y e p = subst P (sym e) p
  through_frame h (v ∷ vs) x y (mid, reach, step) p = go (incomplete_step run v mid y step) (through_frame h vs x mid reach p)
    where
      go : FrameOutcome run (stage_of run v).kind mid y → P mid → P y
      go (inl made) q = subst P (sym made) (stage_from-each (λ s. (x : Frame) → P x → P (made_frame run s.kind x)) 1 (stages_of run) v.stage (λ x p. p) h mid q)
      go (inr same) q = subst P (sym same) q

abbrev SplitAtOld : Run → Frame → Type 0
SplitAtOld r y = y.link ≡ Link.Split → y.source ≡ r.old

split_kept : (r : Run) (kind : StageKind) (x : Frame) → (kind ≡ StageKind.Split → ⊥) → SplitAtOld r x → SplitAtOld r (made_frame r kind x)
split_kept r StageKind.Reverse x ne h e = absurd (let wrong : Link.Live ≡ Link.Split = e in cc)
split_kept r StageKind.Split x ne h e = absurd (ne refl)
split_kept r StageKind.TestStart x ne h e = h e
split_kept r StageKind.TestStop x ne h e = h e
split_kept r StageKind.Prepare x ne h e = h e
split_kept r _ x ne h e = h e

pub split_at_old : (estate : Estate) (g : ℕ) (r : Run) (earlier : List Run) → op r ≡ Op.Reprotect → IsChain estate g (r ∷ earlier) → is_finished r ≡ false → (y : Frame) → After (Opens estate g) LeavesFrame (r ∷ earlier) y → SplitAtOld r y
split_at_old estate g r earlier e chain going y (x, before, leaves) =
    through_frame r (SplitAtOld r)
    (subst (λ o. Each (λ s. (x : Frame) → SplitAtOld r x → SplitAtOld r (made_frame r s.kind x)) (stages r.plan o r.start.forced)) (sym e) reprotects)
    (visits r.log) x y (rw going at leaves) (λ split. start earlier chain before)
  where
    reprotects : Each (λ s. (x : Frame) → SplitAtOld r x → SplitAtOld r (made_frame r s.kind x)) (stages r.plan Op.Reprotect r.start.forced)
    reprotects =
        each-append (λ s. (x : Frame) → SplitAtOld r x → SplitAtOld r (made_frame r s.kind x)) (wind_down StageKind.Clear r.plan) _
        (each-map (IsWave StageKind.Clear) (λ s. (x : Frame) → SplitAtOld r x → SplitAtOld r (made_frame r s.kind x)) (λ s k x h. split_kept r s.kind x (λ p. let wrong : StageKind.Clear ≡ StageKind.Split = sym k ∙ p in cc) h) _ (wind_down-kind StageKind.Clear r.plan))
        (λ x h. h, (λ x h f. absurd (let wrong : Link.Live ≡ Link.Split = f in cc), (λ x h. h, tt)))

    start : (earlier : List Run) → IsChain estate g (r ∷ earlier) → After (Opens estate g) LeavesFrame earlier x → x.source ≡ r.old
    start [] chain before = absurd (let from : StartsFrom Op.Reprotect r.start.plan (group_state estate g []) = subst (λ o. StartsFrom o r.start.plan (group_state estate g [])) e chain.2 in let wrong : Phase.Ready ≡ Phase.Recovered = from.0 in cc)
    start (q ∷ rest) chain before = go chain.2
      where
        go : StartsAt estate g r (q ∷ rest) → x.source ≡ r.old
        go (inl (fin, from)) =
            let phase : (group_state estate g (q ∷ rest)).phase ≡ Phase.Recovered = (subst (λ o. StartsFrom o r.start.plan (group_state estate g (q ∷ rest))) e from).0 in
            let at_rest = (chain_frames estate g (q ∷ rest) chain.3 x before).0 fin in
            let recovered : IsRecovered (group_state estate g (q ∷ rest)).protected x = rw phase at at_rest in
            recovered.source ∙ sym chain.1
        go (inr (going, takes)) = absurd (takes_no_reprotect (op q) (subst (λ o. takes_over o (op q) ≡ true) e takes))

-- what is found is one of them
pub row_has : {X : Type 0} (P : X → Type 0) (f : X → Bool) (xs : List X) (x : X) → Each P xs → find f xs ≡ Some x → P x
row_has P f xs x h e = each-find P f xs x h e

-- In a lawful journal every call of the begun stage, Ok or Failed, on a pair that fits keeps its numbers.
module _ (setting : Setting) (runs : List Run) (well : IsWellKept setting runs) (ordered : Each IsInSequence runs) (g : ℕ) (r : Run) (last : last_of_group g runs ≡ Some r) (going : is_finished r ≡ false) (v : Visit) (earlier : List Visit) (shape : visits r.log ≡ v ∷ earlier) (k : ℕ) (p q : Pair) (fits : FitsPair setting.estate runs g k p) (call : AtCall r (stage_of r v).kind p q) where
  pub its_sequence : IsInSequence r
  its_sequence = each-find IsInSequence (holds g) runs r ordered last

  pub its_source : call.before.source ≡ p.source
  its_source = ap (λ f. f.source) call.drifts.frame

  pub others : (rest : List Run) × (filter (holds g) runs ≡ r ∷ rest)
  others = filter-find (holds g) runs r last

  pub start_up_source : is_start_up (op r) ≡ true → call.before.source ≡ r.old
  start_up_source up =
      let (rest, e) = others in
      let chain : IsChain setting.estate g (r ∷ rest) = rw e at (well.groups g).chain in
      let expected : After (Opens setting.estate g) LeavesFrame (r ∷ rest) (frame_of p) = rw e at fits.frame in
      its_source ∙ source_under_way setting.estate g r up rest chain going (frame_of p) expected

  pub reprotect_source : op r ≡ Op.Reprotect → call.before.link ≡ Link.Split → call.before.source ≡ r.old
  reprotect_source o split =
      let (rest, e) = others in
      let chain : IsChain setting.estate g (r ∷ rest) = rw e at (well.groups g).chain in
      let expected : After (Opens setting.estate g) LeavesFrame (r ∷ rest) (frame_of p) = rw e at fits.frame in
      its_source ∙ split_at_old setting.estate g r rest o chain going (frame_of p) expected (sym (ap (λ f. f.link) call.drifts.frame) ∙ split)

  splitter : op r ≡ Op.Reprotect → IsSomeAnd (find (splits g) runs) (λ s. s.old ≡ r.old)
  splitter o =
      let (rest, e) = others in
      let chain : IsChain setting.estate g (r ∷ rest) = rw e at (well.groups g).chain in
      rw (splits-filter g runs, e) (split_before setting.estate g r rest o chain)

  unseen : op r ≡ Op.Reprotect → IfSome (pair_row k r.start) (λ row. row.seen ≡ false)
  unseen o = go (pair_row k r.start) refl
    where
      rows : Each (IsPairRow r.start) r.start.pairs
      rows = (each-find (HasPlan setting) (holds g) runs r well.plans last).reads

      go : (x : Option StartPair) → pair_row k r.start ≡ x → IfSome x (λ row. row.seen ≡ false)
      go None found = tt
      go (Some row) found =
          let its : IsPairRow r.start row = row_has (IsPairRow r.start) (λ x. x.pair == k) r.start.pairs row rows found in
          let seen : SeenFor Op.Reprotect r.start.forced row.seen = subst (λ o. SeenFor o r.start.forced row.seen) o its.seen in
          seen

  pub starts_up : (o : Op) → is_recovery o ≡ true → is_start_up o ≡ true
  starts_up Op.Migrate e = refl
  starts_up Op.Failover e = refl
  starts_up Op.Testing e = absurd cc
  starts_up Op.Cleanup e = absurd cc
  starts_up Op.Reprotect e = absurd cc

  fitting : (kind : StageKind) → (stage_of r v).kind ≡ kind → Within (op r) kind → MayWork kind call.before → Fitting kind r runs g k call.before
  fitting StageKind.Sync at_kind within may = tt
  fitting StageKind.FinalSync at_kind within may = tt
  fitting StageKind.TestStart at_kind within may = start_up_source (rw within refl)
  fitting StageKind.TestStop at_kind within may = tt
  fitting StageKind.Prepare at_kind within may = tt
  fitting StageKind.Split at_kind within may = (start_up_source (starts_up (op r) within), within, splits_last g runs r last within)
  fitting StageKind.Reverse at_kind within may =
      (reprotect_source within may.0, within, splitter within, unseen within, not_reached r v earlier shape its_sequence StageKind.FinalSync (rw at_kind (omega arith)) (λ e. cc))
  fitting StageKind.Start at_kind within may = tt
  fitting StageKind.Stop at_kind within may = tt
  fitting StageKind.Clear at_kind within may = tt
  fitting StageKind.Command at_kind within may = tt
  fitting StageKind.Prompt at_kind within may = tt

  pub numbers_at_call : FitsNumbers runs g k q
  numbers_at_call =
      numbers-called (stage_of r v).kind r runs g k p q last call
      (fitting (stage_of r v).kind refl (stage_from-each (IsWithin (op r)) 1 (stages_of r) v.stage tt (stages_within r.plan (op r) r.start.forced)) call.may)
      fits.numbers
