-- A pair that the begun stage's call doesn't leave out is as the call needs it.
use Rattle.std.specs.Prelude.{◌≡◌, ◌≢◌, ℕ, ◌<◌, ◌⊎◌, Bool, true, false, is_some, List, [], ◌∷◌, Option, Some, None, IfSome, option_map}
use Rattle.std.proofs.Common.{refl, sym, ap, ◌∙◌, inl, inr, arith, subst}
use Rattle.dr_base.specs.Sides.{other}
use Rattle.dr_outside.specs.BySide.{at, only}
use Rattle.dr_outside.specs.Pairs.{Frame, frame_of, is_fit}
use Rattle.dr_meaning.specs.Types.{Side, Op, Link, Snapshot, ArrayCall, Pair, Estate, Phase}
use Rattle.dr_meaning.specs.declared.stage.StageKind.{StageKind}
use Rattle.dr_meaning.specs.Opening.{opening_frame}
use Rattle.dr_meaning.specs.Stages.{stages, wind_down, stage_at}
use Rattle.dr_meaning.specs.Visits.{Visit, visits}
use Rattle.dr_meaning.specs.Runs.{Setting, Run, number, op, new, stages_of, holds, is_finished, group_state, last_of_group}
use Rattle.dr_meaning.specs.Outcomes.{made_frame, FrameOutcome}
use Rattle.dr_meaning.specs.Reach.{Through, FrameStep, ReachFrame, stage_of}
use Rattle.dr_meaning.specs.Meaning.{same_kind, is_of_kind}
use Rattle.dr_meaning.specs.Expected.{After, LeavesFrame}
use Rattle.dr_meaning.specs.Lawful.{StartsFrom, takes_over}
use Rattle.dr_meaning.specs.InOrder.{is_start_up}
use Rattle.dr_meaning.specs.Fits.{FitsPair}
use Rattle.dr_meaning.specs.Calls.{call_of, IsLeftOut}
use Rattle.dr_meaning.specs.Phases.{IsRecovered}
use Rattle.dr_meaning.proofs.Lists.{Each, Some_of, all_each, each-find, each-map, some_of-right}
use Rattle.dr_model.proofs.StageLaws.{stage_from-each}
use Rattle.dr_model.proofs.WholeMigrate.{at-put, at_other-put}
use Rattle.dr_model.proofs.ExpectedLaws.{filter-find}
use Rattle.dr_model.proofs.PhaseLaws.{incomplete_step, IsChain, StartsAt, Opens, UnderWay, chain_frames, after_unfinished}
use Rattle.dr_model.proofs.SequenceLaws.{IsInSequence}
use Rattle.dr_model.proofs.ChainLaws.{IsWellKept}
use Rattle.dr_model.proofs.RankLaws.{rank, no_visit}
use Rattle.dr_model.proofs.OrderStart.{start_up_takes}
use Rattle.dr_model.proofs.CallFacts.{Within, IsWithin, stages_within, ready_from, takes_no_reprotect, through_frame, source_under_way}
use Rattle.dr_model.proofs.ShowLaws.{starts_recovery}
use Rattle.dr_model.proofs.DoneFacts.{prepared_frozen, live_at_new}
use Rattle.dr_model.proofs.LeftOut.{done_below}

-- Where runs start

closed_other : (s : Side) → at (other s) (only s) ≡ false
closed_other Side.A = refl
closed_other Side.B = refl

module _ (estate : Estate) (g : ℕ) (r : Run) (up : is_start_up (op r) ≡ true) where
  -- a run that starts machines, and takes none over, starts from the opening frame
  ready_opening : (q : Run) (rest : List Run) → IsChain estate g (r ∷ q ∷ rest) → (x : Frame) → After (Opens estate g) LeavesFrame (q ∷ rest) x → is_finished q ≡ true → StartsFrom (op r) r.start.plan (group_state estate g (q ∷ rest)) → x ≡ opening_frame r.old
  ready_opening q rest chain x before fin from =
      let phase : (group_state estate g (q ∷ rest)).phase ≡ Phase.Ready = ready_from (op r) r.start.plan (group_state estate g (q ∷ rest)) up from in
      let at_rest = (chain_frames estate g (q ∷ rest) chain.3 x before).0 fin in
      let opening : x ≡ opening_frame (group_state estate g (q ∷ rest)).protected = rw phase at at_rest in
      opening ∙ ap opening_frame (sym chain.1)

  starts_opening : (earlier : List Run) → op r ≢ Op.Failover → IsChain estate g (r ∷ earlier) → (x : Frame) → After (Opens estate g) LeavesFrame earlier x → x ≡ opening_frame r.old
  starts_opening [] ne chain x opening = opening ∙ ap opening_frame (sym chain.1)
  starts_opening (q ∷ rest) ne chain x before = go chain.2
    where
      go : StartsAt estate g r (q ∷ rest) → x ≡ opening_frame r.old
      go (inl (fin, from)) = ready_opening q rest chain x before fin from
      go (inr (unfinished, takes)) = absurd (ne (start_up_takes (op r) (op q) takes up).0)

-- a reprotect starts from a recovered frame
recovered_before : (estate : Estate) (g : ℕ) (r : Run) (earlier : List Run) → op r ≡ Op.Reprotect → IsChain estate g (r ∷ earlier) → (x : Frame) → After (Opens estate g) LeavesFrame earlier x → IsRecovered r.old x
recovered_before estate g r [] e chain x before = absurd (let from : StartsFrom Op.Reprotect r.start.plan (group_state estate g []) = subst (λ o. StartsFrom o r.start.plan (group_state estate g [])) e chain.2 in let wrong : Phase.Ready ≡ Phase.Recovered = from.0 in cc)
recovered_before estate g r (q ∷ rest) e chain x before = go chain.2
  where
    go : StartsAt estate g r (q ∷ rest) → IsRecovered r.old x
    go (inl (fin, from)) =
        let phase : (group_state estate g (q ∷ rest)).phase ≡ Phase.Recovered = (subst (λ o. StartsFrom o r.start.plan (group_state estate g (q ∷ rest))) e from).0 in
        let at_rest = (chain_frames estate g (q ∷ rest) chain.3 x before).0 fin in
        let recovered : IsRecovered (group_state estate g (q ∷ rest)).protected x = rw phase at at_rest in
        subst (λ side. IsRecovered side x) (sym chain.1) recovered
    go (inr (going, takes)) = absurd (takes_no_reprotect (op q) (subst (λ o. takes_over o (op q) ≡ true) e takes))

-- A snapshot under a test is its own

abbrev IsOwn : Run → Frame → Type 0
IsOwn r x = (x.snapshot ≡ None) ⊎ (x.snapshot ≡ Some (number r))

own_made : (r : Run) (kind : StageKind) (x : Frame) → IsOwn r x → IsOwn r (made_frame r kind x)
own_made r StageKind.TestStart x h = inr refl
own_made r StageKind.TestStop x h = inl refl
own_made r StageKind.Prepare x h = h
own_made r StageKind.Split x h = h
own_made r StageKind.Reverse x h = h
own_made r _ x h = h

own_under_way : (estate : Estate) (g : ℕ) (r : Run) (earlier : List Run) → op r ≡ Op.Testing → IsChain estate g (r ∷ earlier) → is_finished r ≡ false → (y : Frame) → After (Opens estate g) LeavesFrame (r ∷ earlier) y → IsOwn r y
own_under_way estate g r earlier test chain going y (x, before, leaves) =
    let opening : x ≡ opening_frame r.old = starts_opening estate g r (rw test refl) earlier (λ e. let wrong : Op.Testing ≡ Op.Failover = sym test ∙ e in absurd cc) chain x before in
    through_frame r (IsOwn r) (all_each (λ s. (x : Frame) → IsOwn r x → IsOwn r (made_frame r s.kind x)) (λ s x h. own_made r s.kind x h) (stages_of r)) (visits r.log) x y (rw going at leaves) (inl (ap (λ f. f.snapshot) opening))

-- A Live pair isn't writable at the new side of a run that starts machines

abbrev ClosedIfLive : Side → Frame → Type 0
ClosedIfLive side x = x.link ≡ Link.Live → at side x.writable ≡ false

closed_made : (r : Run) (kind : StageKind) (x : Frame) → op r ≢ Op.Reprotect → Within (op r) kind → ClosedIfLive (new r) x → ClosedIfLive (new r) (made_frame r kind x)
closed_made r StageKind.Split x ne within h e = absurd (let wrong : Link.Split ≡ Link.Live = e in cc)
closed_made r StageKind.Prepare x ne within h e = at_other-put r.old false x.writable ∙ h e
closed_made r StageKind.Reverse x ne within h e = absurd (ne within)
closed_made r StageKind.TestStart x ne within h e = h e
closed_made r StageKind.TestStop x ne within h e = h e
closed_made r _ x ne within h e = h e

closed_through : (r : Run) → op r ≢ Op.Reprotect → (x y : Frame) → ReachFrame r x y → ClosedIfLive (new r) x → ClosedIfLive (new r) y
closed_through r ne x y reach h =
    through_frame r (ClosedIfLive (new r))
    (each-map (IsWithin (op r)) (λ s. (x : Frame) → ClosedIfLive (new r) x → ClosedIfLive (new r) (made_frame r s.kind x)) (λ s within x h. closed_made r s.kind x ne within h) (stages_of r) (stages_within r.plan (op r) r.start.forced))
    (visits r.log) x y reach h

closed_opening : (s : Side) (x : Frame) → x ≡ opening_frame s → ClosedIfLive (other s) x
closed_opening s x e live = ap (λ f. at (other s) f.writable) e ∙ closed_other s

no_reprotect : (o : Op) → is_start_up o ≡ true → o ≢ Op.Reprotect
no_reprotect o up e = let wrong : false ≡ true = rw e at up in absurd cc

closed_under_way : (estate : Estate) (g : ℕ) (r : Run) (earlier : List Run) → is_start_up (op r) ≡ true → IsChain estate g (r ∷ earlier) → is_finished r ≡ false → (y : Frame) → After (Opens estate g) LeavesFrame (r ∷ earlier) y → ClosedIfLive (new r) y
closed_under_way estate g r earlier up chain going y (x, before, leaves) = closed_through r (no_reprotect (op r) up) x y (rw going at leaves) (start earlier chain before)
  where
    start : (earlier : List Run) → IsChain estate g (r ∷ earlier) → After (Opens estate g) LeavesFrame earlier x → ClosedIfLive (new r) x
    start [] chain opening = closed_opening r.old x (opening ∙ ap opening_frame (sym chain.1))
    start (q ∷ rest) chain before = go chain.2
      where
        go : StartsAt estate g r (q ∷ rest) → ClosedIfLive (new r) x
        go (inl (fin, from)) = closed_opening r.old x (ready_opening estate g r up q rest chain x before fin from)
        go (inr (unfinished, takes)) =
            let (fails, migrates) = start_up_takes (op r) (op q) takes up in
            let (x0, before0, leaves0) = before in
            let reach : ReachFrame q x0 x = rw unfinished at leaves0 in
            let up_q : is_start_up (op q) ≡ true = rw migrates refl in
            let opening : x0 ≡ opening_frame q.old = starts_opening estate g q up_q rest (λ e. let wrong : Op.Migrate ≡ Op.Failover = sym migrates ∙ e in absurd cc) chain.3 x0 before0 in
            let same : q.old ≡ r.old = chain.3.1 ∙ ap (λ state. state.protected) (sym (after_unfinished estate g q rest unfinished)) ∙ sym chain.1 in
            subst (λ side. ClosedIfLive (other side) x) same (closed_through q (no_reprotect (op q) up_q) x0 x reach (closed_opening q.old x0 opening))

-- Under a reprotect

abbrev NoReverse : Run → Visit → Type 0
NoReverse r u = is_of_kind StageKind.Reverse (stage_at (stages_of r) u.stage) ≡ false

source_made : (r : Run) (kind : StageKind) (x : Frame) → same_kind kind StageKind.Reverse ≡ false → (made_frame r kind x).source ≡ x.source
source_made r StageKind.Reverse x none = absurd cc
source_made r StageKind.Split x none = refl
source_made r StageKind.TestStart x none = refl
source_made r StageKind.TestStop x none = refl
source_made r StageKind.Prepare x none = refl
source_made r _ x none = refl

-- the source stays until its Reverse
source_kept : (r : Run) (vs : List Visit) → Each (NoReverse r) vs → (x y : Frame) → Through (FrameStep r) vs x y → y.source ≡ x.source
source_kept r [] none x y e = ap (λ f. f.source) e
source_kept r (v ∷ vs) none x y (mid, reach, step) = go (incomplete_step r v mid y step) (source_kept r vs none.1 x mid reach)
  where
    go : FrameOutcome r (stage_of r v).kind mid y → mid.source ≡ x.source → y.source ≡ x.source
    go (inl made) m = ap (λ f. f.source) made ∙ source_made r (stage_of r v).kind mid none.0 ∙ m
    go (inr same) m = ap (λ f. f.source) same ∙ m

-- and the new side stays writable
written_made : (r : Run) (kind : StageKind) (x : Frame) → at (new r) x.writable ≡ true → at (new r) (made_frame r kind x).writable ≡ true
written_made r StageKind.Split x h = at-put (new r) true x.writable
written_made r StageKind.Prepare x h = at_other-put r.old false x.writable ∙ h
written_made r StageKind.Reverse x h = h
written_made r StageKind.TestStart x h = h
written_made r StageKind.TestStop x h = h
written_made r _ x h = h

has_prepare : (r : Run) → op r ≡ Op.Reprotect → Some_of (λ s. is_of_kind StageKind.Prepare s ≡ true) (stages_of r)
has_prepare r back =
    let list : stages_of r ≡ stages r.plan Op.Reprotect r.start.forced = ap (λ o. stages r.plan o r.start.forced) back in
    rw list (some_of-right (λ s. is_of_kind StageKind.Prepare s ≡ true) (wind_down StageKind.Clear r.plan) _ (inl refl))

-- What a call needs

abbrev pub IsFitFor : Option ArrayCall → Pair → Type 0
IsFitFor None p = Unit {0}
IsFitFor (Some call) p = is_fit call p ≡ true

live_unless : (link : Link) → (link ≡ Link.Split → ⊥) → link ≡ Link.Live
live_unless Link.Live out = refl
live_unless Link.Split out = absurd (out refl)

split_unless : (link : Link) → (link ≡ Link.Live → ⊥) → link ≡ Link.Split
split_unless Link.Live out = absurd (out refl)
split_unless Link.Split out = refl

true_unless : (b : Bool) → (b ≡ false → ⊥) → b ≡ true
true_unless true out = refl
true_unless false out = absurd (out refl)

some_unless : (s : Option Snapshot) → (s ≡ None → ⊥) → is_some s ≡ true
some_unless None out = absurd (out refl)
some_unless (Some s) out = refl

none_of : (s : Option Snapshot) → option_map (λ (x : Snapshot). x.run) s ≡ None → s ≡ None
none_of None e = refl
none_of (Some s) e = absurd cc

old_unless : (side old : Side) → (side ≡ other old → ⊥) → side ≡ old
old_unless Side.A Side.A out = refl
old_unless Side.A Side.B out = absurd (out refl)
old_unless Side.B Side.A out = absurd (out refl)
old_unless Side.B Side.B out = refl

other_apart : (side : Side) → other side ≡ side → ⊥
other_apart Side.A e = cc
other_apart Side.B e = cc

its_own : (n : ℕ) (s : Option Snapshot) → (option_map (λ (x : Snapshot). x.run) s ≡ None) ⊎ (option_map (λ (x : Snapshot). x.run) s ≡ Some n) → IfSome s (λ x. x.run ≡ n)
its_own n None own = tt
its_own n (Some s) (inl e) = absurd cc
its_own n (Some s) (inr e) = cc

-- In a lawful journal
module _ (setting : Setting) (runs : List Run) (well : IsWellKept setting runs) (g : ℕ) (r : Run) (last : last_of_group g runs ≡ Some r) (going : is_finished r ≡ false) (k : ℕ) (p : Pair) (fits : FitsPair setting.estate runs g k p) where
  record IsUnder : Type 0 where
    rest : List Run
    chain : IsChain setting.estate g (r ∷ rest)
    expected : After (Opens setting.estate g) LeavesFrame (r ∷ rest) (frame_of p)

  under : IsUnder
  under =
      let (rest, e) = filter-find (holds g) runs r last in
      record { rest = rest; chain = rw e at (well.groups g).chain; expected = rw e at fits.frame }

  own : op r ≡ Op.Testing → IsOwn r (frame_of p)
  own test = own_under_way setting.estate g r under.rest test under.chain going (frame_of p) under.expected

  -- a pair that has a snapshot under a test has the test's
  pub snapshot_own : op r ≡ Op.Testing → IfSome p.snapshot (λ s. s.run ≡ number r)
  snapshot_own test = its_own (number r) p.snapshot (own test)

  module _ (ordered : Each IsInSequence runs) (v : Visit) (earlier : List Visit) (shape : visits r.log ≡ v ∷ earlier) where
    sequence : IsInSequence r
    sequence = each-find IsInSequence (holds g) runs r ordered last

    source_up : is_start_up (op r) ≡ true → p.source ≡ r.old
    source_up up = source_under_way setting.estate g r up under.rest under.chain going (frame_of p) under.expected

    reach : ReachFrame r under.expected.0 (frame_of p)
    reach = let leaves = under.expected.2 in rw going at leaves

    source_before_reverse : op r ≡ Op.Reprotect → rank (stage_of r v).kind < 3 → p.source ≡ r.old
    source_before_reverse back low =
        source_kept r (visits r.log) (no_visit r v earlier shape sequence StageKind.Reverse low (λ e. cc)) under.expected.0 (frame_of p) reach
        ∙ (recovered_before setting.estate g r under.rest back under.chain under.expected.0 under.expected.1).source

    frozen : op r ≡ Op.Reprotect → (stage_of r v).kind ≡ StageKind.Reverse → at r.old p.writable ≡ false
    frozen back is =
        prepared_frozen r
        (done_below r sequence (λ e. let wrong : Op.Reprotect ≡ Op.Failover = sym back ∙ e in absurd cc) v earlier shape (λ e. let wrong : StageKind.Reverse ≡ StageKind.Prompt = sym is ∙ e in absurd cc) StageKind.Prepare (omega (arith, ap rank is)) (has_prepare r back))
        under.expected.0 (frame_of p) reach

    written : op r ≡ Op.Reprotect → at (new r) p.writable ≡ true
    written back =
        through_frame r (λ x. at (new r) x.writable ≡ true) (all_each (λ s. (x : Frame) → at (new r) x.writable ≡ true → at (new r) (made_frame r s.kind x).writable ≡ true) (λ s x h. written_made r s.kind x h) (stages_of r)) (visits r.log) under.expected.0 (frame_of p) reach
        (recovered_before setting.estate g r under.rest back under.chain under.expected.0 under.expected.1).written

    at_source : (o : Op) → op r ≡ o → o ≢ Op.Cleanup → (stage_of r v).kind ≡ StageKind.Prepare → p.source ≡ r.old
    at_source Op.Testing e ne is = source_up (rw e refl)
    at_source Op.Migrate e ne is = source_up (rw e refl)
    at_source Op.Failover e ne is = source_up (rw e refl)
    at_source Op.Cleanup e ne is = absurd (ne refl)
    at_source Op.Reprotect e ne is = source_before_reverse e (omega (arith, ap rank is))

    fit_if : (kind : StageKind) → (stage_of r v).kind ≡ kind → Within (op r) kind → (IsLeftOut r kind p → ⊥) → IsFitFor (call_of r kind) p
    fit_if StageKind.Sync is within out = rw (live_unless p.link out) refl
    fit_if StageKind.FinalSync is within out = rw (live_unless p.link out) refl
    fit_if StageKind.TestStart is within out =
        let none : p.snapshot ≡ None = none_of p.snapshot (elim (own within) [ inl e ↦ e | inr e ↦ absurd (out e) ]) in
        let under_test : UnderWay Op.Testing (group_state setting.estate g under.rest).protected (frame_of p) = subst (λ o. UnderWay o (group_state setting.estate g under.rest).protected (frame_of p)) within ((chain_frames setting.estate g (r ∷ under.rest) under.chain (frame_of p) under.expected).1 going) in
        let live : p.link ≡ Link.Live = ap (λ f. f.link) under_test in
        rw (live, none) refl
    fit_if StageKind.TestStop is within out = some_unless p.snapshot out
    fit_if StageKind.Prepare is within out = rw (at_source (op r) refl within is) (true_unless (at r.old p.writable) out)
    fit_if StageKind.Split is within out =
        let up : is_start_up (op r) ≡ true = starts_recovery (op r) within in
        let live : p.link ≡ Link.Live = live_unless p.link out in
        let closed : at (new r) p.writable ≡ false = closed_under_way setting.estate g r under.rest up under.chain going (frame_of p) under.expected live in
        rw (live, source_up up, closed) refl
    fit_if StageKind.Reverse is within out =
        let source : p.source ≡ r.old = old_unless p.source r.old out in
        let split : p.link ≡ Link.Split = split_unless p.link (λ live. out (live_at_new setting.estate g r under.rest within under.chain going (frame_of p) under.expected live)) in
        rw (split, source, frozen within is, written within) refl
    fit_if _ is within out = tt

    -- a pair that the call of the last visit's stage doesn't leave out is as it needs it
    pub fit_unless_left_out : (call : ArrayCall) → call_of r (stage_of r v).kind ≡ Some call → (IsLeftOut r (stage_of r v).kind p → ⊥) → is_fit call p ≡ true
    fit_unless_left_out call is out =
        subst (λ o. IsFitFor o p) is
        (fit_if (stage_of r v).kind refl (stage_from-each (IsWithin (op r)) 1 (stages_of r) v.stage tt (stages_within r.plan (op r) r.start.forced)) out)
