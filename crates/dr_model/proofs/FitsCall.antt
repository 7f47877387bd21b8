-- In a lawful journal every call of the begun stage, Ok or Failed, leads from a pair that fits to one that fits.
use Rattle.std.specs.Prelude.{◌≡◌, ℕ, ◌⊎◌, true, false, List, [], ◌∷◌, Some}
use Rattle.std.proofs.Common.{refl, sym, ap, ◌∙◌, inl, inr, arith, subst}
use Rattle.dr_meaning.specs.Types.{Op, Link, Pair, Estate, Phase}
use Rattle.dr_meaning.specs.declared.stage.StageKind.{StageKind}
use Rattle.dr_outside.specs.Pairs.{Frame, frame_of}
use Rattle.dr_outside.specs.BySide.{put}
use Rattle.dr_base.specs.Sides.{other}
use Rattle.dr_meaning.specs.Stages.{stage_at}
use Rattle.dr_meaning.specs.Visits.{Visit, visits}
use Rattle.dr_meaning.specs.Runs.{Setting, Run, op, stages_of, holds, is_finished, group_state, last_of_group}
use Rattle.dr_meaning.specs.Outcomes.{made_frame, FrameOutcome}
use Rattle.dr_meaning.specs.Reach.{Through, FrameStep, ReachFrame, stage_of}
use Rattle.dr_meaning.specs.Meaning.{same_kind, is_of_kind}
use Rattle.dr_meaning.specs.Expected.{After, LeavesFrame, ExpectedFrame}
use Rattle.dr_meaning.specs.Lawful.{StartsFrom, takes_over}
use Rattle.dr_meaning.specs.InOrder.{is_start_up}
use Rattle.dr_model.proofs.CallSteps.{MayWork, worked, AtCall}
use Rattle.dr_meaning.specs.Fits.{is_recovery, FitsPair}
use Rattle.dr_meaning.specs.Phases.{IsRecovered}
use Rattle.dr_meaning.proofs.Lists.{Each, each-find}
use Rattle.dr_model.proofs.StageLaws.{stage_from-each}
use Rattle.dr_model.proofs.ReachLaws.{kind_at}
use Rattle.dr_model.proofs.OutcomeLaws.{made_frame_twice}
use Rattle.dr_model.proofs.ExpectedLaws.{filter-find, frame-call}
use Rattle.dr_model.proofs.TableLaws.{table_falls}
use Rattle.dr_model.proofs.PhaseLaws.{incomplete_step, IsChain, StartsAt, Opens, chain_frames}
use Rattle.dr_model.proofs.SequenceLaws.{IsInSequence}
use Rattle.dr_model.proofs.ChainLaws.{IsWellKept}
use Rattle.dr_model.proofs.RankLaws.{no_visit}
use Rattle.dr_model.proofs.CallFacts.{Within, IsWithin, stages_within, takes_no_reprotect, source_under_way, split_at_old, numbers_at_call}

-- where the source is the old side, a call does to the frame what its stage does
worked_frame : (run : Run) (kind : StageKind) (m : Pair) → m.source ≡ run.old → frame_of (worked run kind m) ≡ made_frame run kind (frame_of m)
worked_frame run StageKind.Prepare m e = λ i. record { source = m.source; link = m.link; writable = put (e i) false m.writable; snapshot = (frame_of m).snapshot }
worked_frame run StageKind.Split m e = λ i. record { source = m.source; link = Link.Split; writable = put (other (e i)) true m.writable; snapshot = (frame_of m).snapshot }
worked_frame run StageKind.Reverse m e = λ i. record { source = other (e i); link = Link.Live; writable = m.writable; snapshot = (frame_of m).snapshot }
worked_frame run _ m e = refl

-- the source doesn't matter to the others
abbrev NeedsSource : StageKind → Type 0
NeedsSource StageKind.Prepare = Unit {0}
NeedsSource StageKind.Split = Unit {0}
NeedsSource StageKind.Reverse = Unit {0}
NeedsSource _ = ⊥

worked_frame-any : (run : Run) (kind : StageKind) (m : Pair) → (NeedsSource kind → m.source ≡ run.old) → frame_of (worked run kind m) ≡ made_frame run kind (frame_of m)
worked_frame-any run StageKind.Prepare m e = worked_frame run StageKind.Prepare m (e tt)
worked_frame-any run StageKind.Split m e = worked_frame run StageKind.Split m (e tt)
worked_frame-any run StageKind.Reverse m e = worked_frame run StageKind.Reverse m (e tt)
worked_frame-any run _ m e = refl

-- a reprotect that hasn't begun its Reverse has Split pairs

link_kept : (r : Run) (kind : StageKind) (x : Frame) → same_kind kind StageKind.Reverse ≡ false → x.link ≡ Link.Split → (made_frame r kind x).link ≡ Link.Split
link_kept r StageKind.Reverse x ne h = absurd cc
link_kept r StageKind.Split x ne h = refl
link_kept r StageKind.TestStart x ne h = h
link_kept r StageKind.TestStop x ne h = h
link_kept r StageKind.Prepare x ne h = h
link_kept r _ x ne h = h

through_split : (r : Run) (vs : List Visit) → Each (λ u. is_of_kind StageKind.Reverse (stage_at (stages_of r) u.stage) ≡ false) vs → (x y : Frame) → Through (FrameStep r) vs x y → x.link ≡ Link.Split → y.link ≡ Link.Split
through_split r [] none x y e h = ap (λ f. f.link) e ∙ h
through_split r (v ∷ vs) none x y (mid, reach, step) h = go (incomplete_step r v mid y step) (through_split r vs none.1 x mid reach h)
  where
    go : FrameOutcome r (stage_of r v).kind mid y → mid.link ≡ Link.Split → y.link ≡ Link.Split
    go (inl made) m = ap (λ f. f.link) made ∙ link_kept r (stage_of r v).kind mid none.0 m
    go (inr same) m = ap (λ f. f.link) same ∙ m

still_split : (estate : Estate) (g : ℕ) (r : Run) (earlier : List Run) → op r ≡ Op.Reprotect → IsChain estate g (r ∷ earlier) → is_finished r ≡ false → Each (λ u. is_of_kind StageKind.Reverse (stage_at (stages_of r) u.stage) ≡ false) (visits r.log) → (y : Frame) → After (Opens estate g) LeavesFrame (r ∷ earlier) y → y.link ≡ Link.Split
still_split estate g r earlier e chain going none y (x, before, leaves) = through_split r (visits r.log) none x y (let reach : ReachFrame r x y = rw going at leaves in reach) (start earlier chain before)
  where
    start : (earlier : List Run) → IsChain estate g (r ∷ earlier) → After (Opens estate g) LeavesFrame earlier x → x.link ≡ Link.Split
    start [] chain before = absurd (let from : StartsFrom Op.Reprotect r.start.plan (group_state estate g []) = subst (λ o. StartsFrom o r.start.plan (group_state estate g [])) e chain.2 in let wrong : Phase.Ready ≡ Phase.Recovered = from.0 in cc)
    start (q ∷ rest) chain before = go chain.2
      where
        go : StartsAt estate g r (q ∷ rest) → x.link ≡ Link.Split
        go (inl (fin, from)) =
            let phase : (group_state estate g (q ∷ rest)).phase ≡ Phase.Recovered = (subst (λ o. StartsFrom o r.start.plan (group_state estate g (q ∷ rest))) e from).0 in
            let at_rest = (chain_frames estate g (q ∷ rest) chain.3 x before).0 fin in
            let recovered : IsRecovered (group_state estate g (q ∷ rest)).protected x = rw phase at at_rest in
            recovered.link
        go (inr (going, takes)) = absurd (takes_no_reprotect (op q) (subst (λ o. takes_over o (op q) ≡ true) e takes))

module _ (setting : Setting) (runs : List Run) (well : IsWellKept setting runs) (ordered : Each IsInSequence runs) (g : ℕ) (r : Run) (last : last_of_group g runs ≡ Some r) (going : is_finished r ≡ false) (v : Visit) (earlier : List Visit) (shape : visits r.log ≡ v ∷ earlier) (undone : v.done ≡ false) (k : ℕ) (p q : Pair) (fits : FitsPair setting.estate runs g k p) (call : AtCall r (stage_of r v).kind p q) where
  starts : is_start_up (op r) ≡ true → call.before.source ≡ r.old
  starts up =
      let (rest, e) = filter-find (holds g) runs r last in
      let chain : IsChain setting.estate g (r ∷ rest) = rw e at (well.groups g).chain in
      let expected : After (Opens setting.estate g) LeavesFrame (r ∷ rest) (frame_of p) = rw e at fits.frame in
      ap (λ f. f.source) call.drifts.frame ∙ source_under_way setting.estate g r up rest chain going (frame_of p) expected

  turns : op r ≡ Op.Reprotect → (frame_of p).link ≡ Link.Split → call.before.source ≡ r.old
  turns o split =
      let (rest, e) = filter-find (holds g) runs r last in
      let chain : IsChain setting.estate g (r ∷ rest) = rw e at (well.groups g).chain in
      let expected : After (Opens setting.estate g) LeavesFrame (r ∷ rest) (frame_of p) = rw e at fits.frame in
      ap (λ f. f.source) call.drifts.frame ∙ split_at_old setting.estate g r rest o chain going (frame_of p) expected split

  prepares : op r ≡ Op.Reprotect → (stage_of r v).kind ≡ StageKind.Prepare → call.before.source ≡ r.old
  prepares o kind =
      let (rest, e) = filter-find (holds g) runs r last in
      let chain : IsChain setting.estate g (r ∷ rest) = rw e at (well.groups g).chain in
      let expected : After (Opens setting.estate g) LeavesFrame (r ∷ rest) (frame_of p) = rw e at fits.frame in
      turns o (still_split setting.estate g r rest o chain going (no_visit r v earlier shape (each-find IsInSequence (holds g) runs r ordered last) StageKind.Reverse (rw kind (omega arith)) (λ f. cc)) (frame_of p) expected)

  -- the source, where a stage of this kind needs it
  needed : (kind : StageKind) → (stage_of r v).kind ≡ kind → Within (op r) kind → MayWork kind call.before → NeedsSource kind → call.before.source ≡ r.old
  needed StageKind.Prepare e within may need = by_op (op r) refl
    where
      by_op : (o : Op) → op r ≡ o → call.before.source ≡ r.old
      by_op Op.Testing is = starts (rw is refl)
      by_op Op.Migrate is = starts (rw is refl)
      by_op Op.Failover is = starts (rw is refl)
      by_op Op.Reprotect is = prepares is e
      by_op Op.Cleanup is = absurd (within is)
  needed StageKind.Split e within may need = starts (up (op r) within)
    where
      up : (o : Op) → is_recovery o ≡ true → is_start_up o ≡ true
      up Op.Migrate e = refl
      up Op.Failover e = refl
      up Op.Testing e = absurd cc
      up Op.Cleanup e = absurd cc
      up Op.Reprotect e = absurd cc
  needed StageKind.Reverse e within may need = turns within (sym (ap (λ f. f.link) call.drifts.frame) ∙ may.0)
  needed _ e within may need = elim need [ ]

  source : NeedsSource (stage_of r v).kind → call.before.source ≡ r.old
  source need = needed (stage_of r v).kind refl (stage_from-each (IsWithin (op r)) 1 (stages_of r) v.stage tt (stages_within r.plan (op r) r.start.forced)) call.may need

  -- after a call that was Ok the frame is made, as the Done asks
  pub made_at_call : call.after ≡ worked r (stage_of r v).kind call.before → made_frame r (stage_of r v).kind (frame_of q) ≡ frame_of q
  made_at_call done =
      let made : frame_of q ≡ made_frame r (stage_of r v).kind (frame_of call.before) = call.drifts_on.frame ∙ ap frame_of done ∙ worked_frame-any r (stage_of r v).kind call.before source in
      ap (made_frame r (stage_of r v).kind) made ∙ made_frame_twice r (stage_of r v).kind (frame_of call.before) ∙ sym made

  -- it is what the stage makes of the frame before the call
  pub frame_made : call.after ≡ worked r (stage_of r v).kind call.before → frame_of q ≡ made_frame r (stage_of r v).kind (frame_of p)
  frame_made done = call.drifts_on.frame ∙ ap frame_of done ∙ worked_frame-any r (stage_of r v).kind call.before source ∙ ap (made_frame r (stage_of r v).kind) call.drifts.frame

  frame_at_call : ExpectedFrame setting.estate g runs (frame_of q)
  frame_at_call =
      frame-call setting.estate g runs r (table_falls runs well.table) last going v.stage v.excused earlier (frame_of p) (frame_of q)
      (shape ∙ (λ i. record { stage = v.stage; done = undone i; excused = v.excused } ∷ earlier)) (out call.does) fits.frame
    where
      out : (call.after ≡ worked r (stage_of r v).kind call.before) ⊎ (call.after ≡ call.before) → FrameOutcome r (kind_at r v.stage) (frame_of p) (frame_of q)
      out (inl done) = inl (frame_made done)
      out (inr same) = inr (call.drifts_on.frame ∙ ap frame_of same ∙ call.drifts.frame)

  pub fits_at_call : FitsPair setting.estate runs g k q
  fits_at_call = record {
    frame = frame_at_call;
    numbers = numbers_at_call setting runs well ordered g r last going v earlier shape k p q fits call;
  }
