-- In a lawful journal a replication that was Ok on a pair shows what its Done asks for.
use Rattle.std.specs.Prelude.{◌≡◌, ◌≢◌, ℕ, ◌<◌, ◌==◌, ◌⊎◌, true, false, List, [], ◌∷◌, Option, Some, None, IfSome, find, option_map}
use Rattle.std.proofs.Common.{refl, sym, ap, ◌∙◌, inl, inr, arith, subst}
use Rattle.dr_meaning.specs.Types.{Snapshot, Op, Link, Pair, StartPair, Estate, Phase}
use Rattle.dr_meaning.specs.declared.stage.StageKind.{StageKind}
use Rattle.dr_meaning.specs.declared.stage.Stage.{Stage}
use Rattle.dr_outside.specs.Pairs.{Frame, frame_of, Drift}
use Rattle.dr_outside.specs.BySide.{at}
use Rattle.dr_meaning.specs.Opening.{opening_frame}
use Rattle.dr_meaning.specs.Stages.{stage_at}
use Rattle.dr_meaning.specs.Visits.{Visit, visits}
use Rattle.dr_meaning.specs.Runs.{Setting, Run, number, op, new, stages_of, holds, is_finished, group_state, last_of_group}
use Rattle.dr_meaning.specs.Outcomes.{made_frame, FrameOutcome}
use Rattle.dr_meaning.specs.Reach.{Through, FrameStep, ReachFrame, stage_of}
use Rattle.dr_meaning.specs.Meaning.{same_kind, is_of_kind}
use Rattle.dr_meaning.specs.Expected.{After, LeavesFrame}
use Rattle.dr_meaning.specs.Lawful.{IsPairRow, SeenFor, StartsFrom, takes_over}
use Rattle.dr_model.proofs.CallSteps.{worked}
use Rattle.dr_meaning.specs.Fits.{pair_row, is_visit_whole, is_done_whole, FitsWrites, FitsPair}
use Rattle.dr_meaning.specs.Phases.{IsRecovered}
use Rattle.dr_meaning.proofs.Lists.{Each, all_each, each-find, find-passes}
use Rattle.dr_model.proofs.ThroughLaws.{Makes, through_from, some_of-find}
use Rattle.dr_model.proofs.WholeMigrate.{at-put, at-put_other}
use Rattle.dr_model.proofs.WholeSkips.{frame_holds, complete_makes}
use Rattle.dr_model.proofs.ExpectedLaws.{filter-find}
use Rattle.dr_model.proofs.PhaseLaws.{incomplete_step, IsChain, StartsAt, Opens, chain_frames}
use Rattle.dr_model.proofs.NumberLaws.{kind-same, ShowsDone}
use Rattle.dr_model.proofs.ShowLaws.{IsReplication, IsCalledFor, shows-replicated, drift_shows}
use Rattle.dr_model.proofs.SequenceLaws.{IsInSequence}
use Rattle.dr_model.proofs.ChainLaws.{HasPlan, IsWellKept}
use Rattle.dr_model.proofs.RankLaws.{rank, no_visit}
use Rattle.dr_model.proofs.CallFacts.{through_frame, takes_no_reprotect, row_has, source_under_way}

-- A done Prepare has frozen the old side

module _ (run : Run) where
  abbrev FreezesOrKeeps : Stage → Type 0
  FreezesOrKeeps s = (x : Frame) → (at run.old (made_frame run s.kind x).writable ≡ at run.old x.writable) ⊎ (at run.old (made_frame run s.kind x).writable ≡ false)

  by_kind : (kind : StageKind) (x : Frame) → (at run.old (made_frame run kind x).writable ≡ at run.old x.writable) ⊎ (at run.old (made_frame run kind x).writable ≡ false)
  by_kind StageKind.Prepare x = inr (at-put run.old false x.writable)
  by_kind StageKind.Split x = inl (at-put_other run.old true x.writable)
  by_kind _ x = inl refl

  pub prepared_frozen : is_done_whole run StageKind.Prepare ≡ true → (x y : Frame) → ReachFrame run x y → at run.old y.writable ≡ false
  prepared_frozen done x y reach = go (find (λ v. is_of_kind StageKind.Prepare (stage_at (stages_of run) v.stage)) (visits run.log)) refl done
    where
      go : (o : Option Visit) → find (λ v. is_of_kind StageKind.Prepare (stage_at (stages_of run) v.stage)) (visits run.log) ≡ o → is_visit_whole o ≡ true → at run.old y.writable ≡ false
      go None found whole = absurd cc
      go (Some v) found whole =
          let kind : (stage_of run v).kind ≡ StageKind.Prepare = kind-same _ StageKind.Prepare (find-passes (λ v. is_of_kind StageKind.Prepare (stage_at (stages_of run) v.stage)) (visits run.log) v found) in
          through_from (FrameStep run) (λ z. at run.old z.writable ≡ false) (visits run.log)
          (some_of-find (Makes (FrameStep run) (λ z. at run.old z.writable ≡ false)) (λ v. is_of_kind StageKind.Prepare (stage_at (stages_of run) v.stage)) (visits run.log) v found
          (complete_makes run (λ z. at run.old z.writable) false v whole (rw kind (λ x. at-put run.old false x.writable))))
          (frame_holds run (λ z. at run.old z.writable) false
          (all_each FreezesOrKeeps (λ s x. by_kind s.kind x) (stages_of run))) x y reach

-- In a reprotect a Live pair has the new side as its source

abbrev LiveAtNew : Run → Frame → Type 0
LiveAtNew r y = y.link ≡ Link.Live → y.source ≡ new r

live_kept : (r : Run) (kind : StageKind) (x : Frame) → LiveAtNew r x → LiveAtNew r (made_frame r kind x)
live_kept r StageKind.Reverse x h e = refl
live_kept r StageKind.Split x h e = absurd (let wrong : Link.Split ≡ Link.Live = e in cc)
live_kept r StageKind.TestStart x h e = h e
live_kept r StageKind.TestStop x h e = h e
live_kept r StageKind.Prepare x h e = h e
live_kept r _ x h e = h e

pub live_at_new : (estate : Estate) (g : ℕ) (r : Run) (earlier : List Run) → op r ≡ Op.Reprotect → IsChain estate g (r ∷ earlier) → is_finished r ≡ false → (y : Frame) → After (Opens estate g) LeavesFrame (r ∷ earlier) y → LiveAtNew r y
live_at_new estate g r earlier e chain going y (x, before, leaves) =
    through_frame r (LiveAtNew r) (all_each (λ s. (x : Frame) → LiveAtNew r x → LiveAtNew r (made_frame r s.kind x)) (λ s x h. live_kept r s.kind x h) (stages_of r)) (visits r.log) x y (rw going at leaves) (start earlier chain before)
  where
    start : (earlier : List Run) → IsChain estate g (r ∷ earlier) → After (Opens estate g) LeavesFrame earlier x → LiveAtNew r x
    start [] chain before = absurd (let from : StartsFrom Op.Reprotect r.start.plan (group_state estate g []) = subst (λ o. StartsFrom o r.start.plan (group_state estate g [])) e chain.2 in let wrong : Phase.Ready ≡ Phase.Recovered = from.0 in cc)
    start (q ∷ rest) chain before = go chain.2
      where
        go : StartsAt estate g r (q ∷ rest) → LiveAtNew r x
        go (inl (fin, from)) =
            let phase : (group_state estate g (q ∷ rest)).phase ≡ Phase.Recovered = (subst (λ o. StartsFrom o r.start.plan (group_state estate g (q ∷ rest))) e from).0 in
            let at_rest = (chain_frames estate g (q ∷ rest) chain.3 x before).0 fin in
            let recovered : IsRecovered (group_state estate g (q ∷ rest)).protected x = rw phase at at_rest in
            λ live. absurd (let wrong : Link.Live ≡ Link.Split = sym live ∙ recovered.link in cc)
        go (inr (going, takes)) = absurd (takes_no_reprotect (op q) (subst (λ o. takes_over o (op q) ≡ true) e takes))

-- Before its TestStart a test has no snapshot

snapshot_kept : (r : Run) (kind : StageKind) (x : Frame) → same_kind kind StageKind.TestStart ≡ false → x.snapshot ≡ None → (made_frame r kind x).snapshot ≡ None
snapshot_kept r StageKind.TestStart x ne h = absurd cc
snapshot_kept r StageKind.TestStop x ne h = refl
snapshot_kept r _ x ne h = h

through_none : (r : Run) (vs : List Visit) → Each (λ u. is_of_kind StageKind.TestStart (stage_at (stages_of r) u.stage) ≡ false) vs → (x y : Frame) → Through (FrameStep r) vs x y → x.snapshot ≡ None → y.snapshot ≡ None
through_none r [] none x y e h = ap (λ f. f.snapshot) e ∙ h
through_none r (v ∷ vs) none x y (mid, reach, step) h = go (incomplete_step r v mid y step) (through_none r vs none.1 x mid reach h)
  where
    go : FrameOutcome r (stage_of r v).kind mid y → mid.snapshot ≡ None → y.snapshot ≡ None
    go (inl made) m = ap (λ f. f.snapshot) made ∙ snapshot_kept r (stage_of r v).kind mid none.0 m
    go (inr same) m = ap (λ f. f.snapshot) same ∙ m

no_snapshot : (estate : Estate) (g : ℕ) (r : Run) (earlier : List Run) → op r ≡ Op.Testing → IsChain estate g (r ∷ earlier) → is_finished r ≡ false → Each (λ u. is_of_kind StageKind.TestStart (stage_at (stages_of r) u.stage) ≡ false) (visits r.log) → (y : Frame) → After (Opens estate g) LeavesFrame (r ∷ earlier) y → y.snapshot ≡ None
no_snapshot estate g r earlier e chain going none y (x, before, leaves) = through_none r (visits r.log) none x y (let reach : ReachFrame r x y = rw going at leaves in reach) (start earlier chain before)
  where
    no_take : (oq : Op) → takes_over Op.Testing oq ≡ true → ⊥
    no_take oq t = cc

    start : (earlier : List Run) → IsChain estate g (r ∷ earlier) → After (Opens estate g) LeavesFrame earlier x → x.snapshot ≡ None
    start [] chain opening = ap (λ f. f.snapshot) opening
    start (q ∷ rest) chain before = go chain.2
      where
        go : StartsAt estate g r (q ∷ rest) → x.snapshot ≡ None
        go (inl (fin, from)) =
            let phase : (group_state estate g (q ∷ rest)).phase ≡ Phase.Ready = subst (λ o. StartsFrom o r.start.plan (group_state estate g (q ∷ rest))) e from in
            let at_rest = (chain_frames estate g (q ∷ rest) chain.3 x before).0 fin in
            let opening : x ≡ opening_frame (group_state estate g (q ∷ rest)).protected = rw phase at at_rest in
            ap (λ f. f.snapshot) opening
        go (inr (going, takes)) = absurd (no_take (op q) (subst (λ o. takes_over o (op q) ≡ true) e takes))

snapshot_none : (k : ℕ) (m : Pair) → (frame_of m).snapshot ≡ None → IfSome m.snapshot (λ s. s.run ≢ k)
snapshot_none k m e = go m.snapshot e
  where
    go : (o : Option Snapshot) → option_map (λ s. s.run) o ≡ None → IfSome o (λ s. s.run ≢ k)
    go None e = tt
    go (Some s) e = absurd cc

-- A pair that fits, when its replication is called in the begun stage
module _ (setting : Setting) (runs : List Run) (well : IsWellKept setting runs) (ordered : Each IsInSequence runs) (g : ℕ) (r : Run) (last : last_of_group g runs ≡ Some r) (going : is_finished r ≡ false) (v : Visit) (earlier : List Visit) (shape : visits r.log ≡ v ∷ earlier) (k : ℕ) (m : Pair) (fits : FitsPair setting.estate runs g k m) (live : m.link ≡ Link.Live) (is : IsReplication (stage_of r v).kind) where
  rows : (o : Op) → op r ≡ o → IfSome (pair_row k r.start) (λ row. SeenFor o r.start.forced row.seen)
  rows o e = go (pair_row k r.start) refl
    where
      go : (x : Option StartPair) → pair_row k r.start ≡ x → IfSome x (λ row. SeenFor o r.start.forced row.seen)
      go None found = tt
      go (Some row) found =
          let its : IsPairRow r.start row = row_has (IsPairRow r.start) (λ x. x.pair == k) r.start.pairs row (each-find (HasPlan setting) (holds g) runs r well.plans last).reads found in
          subst (λ o. SeenFor o r.start.forced row.seen) e its.seen

  below_test_start : (kind : StageKind) → IsReplication kind → rank kind < 5
  below_test_start kind (inl e) = omega (arith, ap rank e)
  below_test_start kind (inr e) = omega (arith, ap rank e)

  pub called_for : IsCalledFor k r m
  called_for =
      let (rest, e) = filter-find (holds g) runs r last in
      let chain : IsChain setting.estate g (r ∷ rest) = rw e at (well.groups g).chain in
      let expected : After (Opens setting.estate g) LeavesFrame (r ∷ rest) (frame_of m) = rw e at fits.frame in
      record {
        forth = λ up. source_under_way setting.estate g r up rest chain going (frame_of m) expected;
        back = λ o. live_at_new setting.estate g r rest o chain going (frame_of m) expected live;
        read = λ o. rows Op.Testing o;
        early = λ o. snapshot_none (number r) m (no_snapshot setting.estate g r rest o chain going (no_visit r v earlier shape (each-find IsInSequence (holds g) runs r ordered last) StageKind.TestStart (below_test_start _ is) (λ f. cc)) (frame_of m) expected);
        frozen = λ o done. prepared_frozen r done expected.0 (frame_of m) (let leaves = expected.2 in rw going at leaves);
      }

  -- So where the call is Ok, the pair shows what the Done asks, and goes on to show it while it drifts.
  pub shown_after : (q : Pair) → Drift (worked r (stage_of r v).kind m) q → ShowsDone k q r (stage_of r v).kind
  shown_after q drift = go (stage_of r v).kind is refl drift
    where
      writes : FitsWrites k m r
      writes = let all_writes = fits.numbers.writes in rw last at all_writes

      go : (kind : StageKind) → IsReplication kind → (stage_of r v).kind ≡ kind → Drift (worked r kind m) q → ShowsDone k q r kind
      go StageKind.Sync is e d = drift_shows k (worked r StageKind.Sync m) q r StageKind.Sync d (shows-replicated k r StageKind.Sync m live (fits.numbers.live live) writes called_for (inl refl))
      go StageKind.FinalSync is e d = drift_shows k (worked r StageKind.FinalSync m) q r StageKind.FinalSync d (shows-replicated k r StageKind.FinalSync m live (fits.numbers.live live) writes called_for (inr refl))
      go _ (inl f) e d = absurd cc
      go _ (inr f) e d = absurd cc
