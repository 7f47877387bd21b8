-- What frames a group's state allows: in phase ready that of the opening state, whatever came before.
use Rattle.std.specs.Prelude.{◌≡◌, ℕ, ◌⊎◌, Bool, true, false, ◌&&◌, List, [], ◌∷◌, None, cond}
use Rattle.std.proofs.Common.{refl, ap, ◌∙◌, inl, inr}
use Rattle.dr_meaning.specs.Types.{Side, Sides, Op, Link, Estate, Phase, GroupState}
use Rattle.dr_meaning.specs.declared.stage.StageKind.{StageKind}
use Rattle.dr_outside.specs.Pairs.{Frame}
use Rattle.dr_base.specs.Sides.{other}
use Rattle.dr_outside.specs.BySide.{at, put, only}
use Rattle.dr_meaning.specs.Opening.{opening_frame}
use Rattle.dr_meaning.specs.Visits.{Visit, visits, all}
use Rattle.dr_meaning.specs.Runs.{Run, op, stages_of, holds, is_finished, finish, named_side, group_state}
use Rattle.dr_meaning.specs.Outcomes.{made_frame, FrameOutcome, split_frame, frozen_frame}
use Rattle.dr_meaning.specs.Reach.{is_complete, FrameStep, ReachFrame, stage_of}
use Rattle.dr_meaning.specs.Meaning.{FrameMeaning, MeansFrame}
use Rattle.dr_meaning.specs.Expected.{After, LeavesFrame}
use Rattle.dr_meaning.specs.Lawful.{StartsFrom, takes_over}
use Rattle.dr_meaning.specs.Phases.{IsRecovered, InPhase, AtRest, IsAtRest}
use Rattle.dr_meaning.proofs.Lists.{Each, all_each}
use Rattle.dr_meaning.specs.Stages.{stages}
use Rattle.dr_meaning.specs.Fits.{is_recovery}
use Rattle.dr_model.proofs.StageLaws.{stage_from-each, each-recovery}
use Rattle.dr_model.proofs.WholeTest.{test_stages, start_up_frames, callout_frame, start_frame}
use Rattle.dr_model.proofs.ThroughLaws.{Keeps, through_keeps}
use Rattle.dr_model.proofs.WholeMigrate.{at-put, stop_frame}

-- the run starts where the group is at rest in the phase that it starts from, or takes over the unfinished run there
abbrev pub StartsAt : Estate → ℕ → Run → List Run → Type 0
StartsAt estate g r [] = StartsFrom (op r) r.start.plan (group_state estate g [])
StartsAt estate g r (q ∷ rest) =
    ((is_finished q ≡ true) × StartsFrom (op r) r.start.plan (group_state estate g (q ∷ rest)))
    ⊎ ((is_finished q ≡ false) × (takes_over (op r) (op q) ≡ true))

-- the runs that hold the group, one after another
abbrev pub IsChain : Estate → ℕ → List Run → Type 0
IsChain estate g [] = Unit {0}
IsChain estate g (r ∷ earlier) = (holds g r ≡ true) × (r.old ≡ (group_state estate g earlier).protected) × StartsAt estate g r earlier × IsChain estate g earlier

-- One finished run, from phase to phase

abbrev pub without_snapshot : Frame → Frame
without_snapshot x = record x { snapshot = None }

only_other : (s : Side) (w : Sides Bool) → at (other s) w ≡ true → put s false w ≡ only (other s)
only_other Side.A w e = λ i. record { a = false; b = e i }
only_other Side.B w e = λ i. record { a = e i; b = false }

split_phase : (r : Run) (s : Side) (z y : Frame) → r.old ≡ s → z.source ≡ s → z.snapshot ≡ None → y ≡ split_frame r z → IsRecovered s y
split_phase r s z y side source snapshot means = record {
  source = ap (λ f. f.source) means ∙ source;
  link = ap (λ f. f.link) means;
  written = ap (λ f. at (other s) f.writable) means ∙ rw side (at-put (other s) true z.writable);
  none = ap (λ f. f.snapshot) means ∙ snapshot;
}

-- a failover or migration of a frame with this source and without a snapshot
recovered : (o : Op) (forced : Bool) (r : Run) (s : Side) (x y : Frame) → is_recovery o ≡ true → r.old ≡ s → x.source ≡ s → x.snapshot ≡ None → FrameMeaning o forced r x y → IsRecovered s y
recovered Op.Migrate forced r s x y is side source none means = split_phase r s (frozen_frame r x) y side source none means
recovered Op.Failover true r s x y is side source none means = split_phase r s x y side source none means
recovered Op.Failover false r s x y is side source none (inl means) = split_phase r s (frozen_frame r x) y side source none means
recovered Op.Failover false r s x y is side source none (inr skipped) = split_phase r s x y side source none skipped.1
recovered Op.Testing forced r s x y is side source none means = absurd cc
recovered Op.Cleanup forced r s x y is side source none means = absurd cc
recovered Op.Reprotect forced r s x y is side source none means = absurd cc

pub in_ready : (s : Side) (phase : Phase) (x : Frame) → phase ≡ Phase.Ready → InPhase s phase x → x ≡ opening_frame s
in_ready s phase x e h = rw e at h

finish_phase : (o : Op) (forced : Bool) (r : Run) (state : GroupState) (x y : Frame) → r.old ≡ state.protected → StartsFrom o r.start.plan state → AtRest state x → FrameMeaning o forced r x y → AtRest (finish o r.start.plan state) y
finish_phase Op.Testing forced r state x y side from rest means =
    let opening : x ≡ opening_frame state.protected = rw from at rest in
    ap without_snapshot means ∙ ap without_snapshot opening
finish_phase Op.Cleanup forced r state x y side from rest means =
    let tested : without_snapshot x ≡ opening_frame state.protected = rw from.0 at rest in
    means ∙ tested
finish_phase Op.Migrate forced r state x y side from rest means =
    let opening : x ≡ opening_frame state.protected = rw from at rest in
    recovered Op.Migrate forced r state.protected x y refl side (ap (λ f. f.source) opening) (ap (λ f. f.snapshot) opening) means
finish_phase Op.Failover forced r state x y side from rest means =
    let opening : x ≡ opening_frame state.protected = rw from at rest in
    recovered Op.Failover forced r state.protected x y refl side (ap (λ f. f.source) opening) (ap (λ f. f.snapshot) opening) means
finish_phase Op.Reprotect forced r state x y side from rest means =
    let recovered : IsRecovered state.protected x = rw from.0 at rest in
    means
    ∙ (λ i. record {
      source = ap other side i;
      link = Link.Live;
      writable = put (side i) false x.writable;
      snapshot = recovered.none i;
    })
    ∙ (λ i. record { source = other state.protected; link = Link.Live; writable = only_other state.protected x.writable recovered.written i; snapshot = None })

-- An unfinished run that another takes over: a test leaves all but the snapshot, a migration the source and the snapshot.

pub incomplete_step : (run : Run) (v : Visit) (x y : Frame) → FrameStep run v x y → FrameOutcome run (stage_of run v).kind x y
incomplete_step run v x y step = go (is_complete all v) refl
  where
    go : (b : Bool) → is_complete all v ≡ b → FrameOutcome run (stage_of run v).kind x y
    go true e = inl (rw e at step)
    go false e = rw e at step

-- what each stage keeps, any visits keep
pub reach_keeps : {A : Type 0} (run : Run) (f : Frame → A) → Each (λ s. (x : Frame) → f (made_frame run s.kind x) ≡ f x) (stages_of run) → (x y : Frame) → ReachFrame run x y → f y ≡ f x
reach_keeps run f h x y reach =
    through_keeps (FrameStep run) f (visits run.log)
    (all_each (Keeps (FrameStep run) f) (λ v x y step. go v x y (incomplete_step run v x y step)) (visits run.log)) x y reach
  where
    go : (v : Visit) (x y : Frame) → FrameOutcome run (stage_of run v).kind x y → f y ≡ f x
    go v x y (inl made) = ap f made ∙ stage_from-each (λ s. (x : Frame) → f (made_frame run s.kind x) ≡ f x) 1 (stages_of run) v.stage (λ x. refl) h x
    go v x y (inr same) = ap f same

abbrev pub UnderWay : Op → Side → Frame → Type 0
UnderWay Op.Testing s y = without_snapshot y ≡ opening_frame s
UnderWay Op.Migrate s y = (y.source ≡ s) × (y.snapshot ≡ None)
UnderWay _ s y = Unit {0}

test_keeps : (run : Run) → op run ≡ Op.Testing → (x y : Frame) → ReachFrame run x y → without_snapshot y ≡ without_snapshot x
test_keeps run e x y reach = reach_keeps run without_snapshot (rw (test_stages run e) (λ x. refl, (λ x. refl, start_up_frames run without_snapshot run.plan))) x y reach

migrate_keeps : {A : Type 0} (run : Run) (f : Frame → A) → op run ≡ Op.Migrate → ((x : Frame) → f (made_frame run StageKind.Prepare x) ≡ f x) → ((x : Frame) → f (made_frame run StageKind.Split x) ≡ f x) → (x y : Frame) → ReachFrame run x y → f y ≡ f x
migrate_keeps run f e prepare split x y reach =
    reach_keeps run f
    (rw (ap (λ o. stages run.plan o run.start.forced) e)
    (each-recovery (λ s. (x : Frame) → f (made_frame run s.kind x) ≡ f x) run.plan
    (λ s c x. ap f (callout_frame run s c x)) (λ s k x. ap f (start_frame run s k x)) (λ s k x. ap f (stop_frame run s k x))
    (λ x. refl) prepare (λ x. refl) split))
    x y reach

-- a test or a migration, which may be taken over
abbrev may_be_taken_over : Op → Bool
may_be_taken_over Op.Testing = true
may_be_taken_over Op.Migrate = true
may_be_taken_over _ = false

from_ready : (o : Op) (plan : ℕ) (state : GroupState) → may_be_taken_over o ≡ true → StartsFrom o plan state → state.phase ≡ Phase.Ready
from_ready Op.Testing plan state e from = from
from_ready Op.Migrate plan state e from = from
from_ready Op.Cleanup plan state e from = absurd cc
from_ready Op.Failover plan state e from = absurd cc
from_ready Op.Reprotect plan state e from = absurd cc

takes_none : (o oq : Op) → may_be_taken_over o ≡ true → takes_over o oq ≡ true → ⊥
takes_none Op.Testing oq e t = cc
takes_none Op.Migrate oq e t = cc
takes_none Op.Cleanup oq e t = cc
takes_none Op.Failover oq e t = cc
takes_none Op.Reprotect oq e t = cc

-- an unfinished run, from the phase that it started from
under_way : (o : Op) (r : Run) (s : Side) (x y : Frame) → op r ≡ o → (may_be_taken_over o ≡ true → x ≡ opening_frame s) → ReachFrame r x y → UnderWay o s y
under_way Op.Testing r s x y e opening reach = test_keeps r e x y reach ∙ ap without_snapshot (opening refl)
under_way Op.Migrate r s x y e opening reach = (
  migrate_keeps r (λ f. f.source) e (λ x. refl) (λ x. refl) x y reach ∙ ap (λ f. f.source) (opening refl),
  migrate_keeps r (λ f. f.snapshot) e (λ x. refl) (λ x. refl) x y reach ∙ ap (λ f. f.snapshot) (opening refl),
)
under_way Op.Cleanup r s x y e opening reach = tt
under_way Op.Failover r s x y e opening reach = tt
under_way Op.Reprotect r s x y e opening reach = tt

-- a finished run over an unfinished one that it took over
over_phase : (o oq : Op) (forced : Bool) (r : Run) (state : GroupState) (x y : Frame) → takes_over o oq ≡ true → r.old ≡ state.protected → UnderWay oq state.protected x → FrameMeaning o forced r x y → AtRest (finish o r.start.plan state) y
over_phase Op.Cleanup Op.Testing forced r state x y takes side under means = means ∙ under
over_phase Op.Failover Op.Migrate forced r state x y takes side under means = recovered Op.Failover forced r state.protected x y refl side under.0 under.1 means
over_phase _ _ forced r state x y takes side under means = absurd cc

module _ (estate : Estate) (g : ℕ) where
  abbrev pub Opens : Frame → Type 0
  Opens x = x ≡ opening_frame (named_side estate g)

  abbrev pub UnderHead : List Run → Frame → Type 0
  UnderHead [] y = Unit {0}
  UnderHead (q ∷ earlier) y = is_finished q ≡ false → UnderWay (op q) (group_state estate g earlier).protected y

  -- the state after a finished run, and after an unfinished one
  pub after_finished : (r : Run) (earlier : List Run) → holds g r ≡ true → is_finished r ≡ true → group_state estate g (r ∷ earlier) ≡ finish (op r) r.start.plan (group_state estate g earlier)
  after_finished r earlier held fin = rw (held, fin) refl

  pub after_unfinished : (r : Run) (earlier : List Run) → is_finished r ≡ false → group_state estate g (r ∷ earlier) ≡ group_state estate g earlier
  after_unfinished r earlier fin = go (holds g r)
    where
      go : (b : Bool) → cond (b && is_finished r) (finish (op r) r.start.plan (group_state estate g earlier)) (group_state estate g earlier) ≡ group_state estate g earlier
      go true = rw fin refl
      go false = refl

  -- The frames that are expected, by the group's state.
  pub chain_frames : (hs : List Run) → IsChain estate g hs → (y : Frame) → After Opens LeavesFrame hs y → (IsAtRest hs → AtRest (group_state estate g hs) y) × UnderHead hs y
  chain_frames [] chain y opening = (λ rest. opening, tt)
  chain_frames (r ∷ []) chain y (x, before, leaves) = (
    λ fin. rw (after_finished r [] chain.0 fin) (finish_phase (op r) r.start.forced r (group_state estate g []) x y chain.1 chain.2 before (rw fin at leaves)),
    λ going. under_way (op r) r (group_state estate g []).protected x y refl (λ e. before) (rw going at leaves),
  )
  chain_frames (r ∷ q ∷ rest) chain y (x, before, leaves) =
      let ih = chain_frames (q ∷ rest) chain.3 x before in (
        λ fin. rw (after_finished r (q ∷ rest) chain.0 fin) (finishes chain.2 ih (rw fin at leaves)),
        λ going. under_way (op r) r (group_state estate g (q ∷ rest)).protected x y refl (starts chain.2 ih) (rw going at leaves),
      )
    where
      finishes : StartsAt estate g r (q ∷ rest) → (IsAtRest (q ∷ rest) → AtRest (group_state estate g (q ∷ rest)) x) × UnderHead (q ∷ rest) x → MeansFrame r x y → AtRest (finish (op r) r.start.plan (group_state estate g (q ∷ rest))) y
      finishes (inl (fin, from)) ih means = finish_phase (op r) r.start.forced r (group_state estate g (q ∷ rest)) x y chain.1 from (ih.0 fin) means
      finishes (inr (going, takes)) ih means =
          over_phase (op r) (op q) r.start.forced r (group_state estate g (q ∷ rest)) x y takes chain.1
          (rw (after_unfinished q rest going) (ih.1 going)) means

      starts : StartsAt estate g r (q ∷ rest) → (IsAtRest (q ∷ rest) → AtRest (group_state estate g (q ∷ rest)) x) × UnderHead (q ∷ rest) x → may_be_taken_over (op r) ≡ true → x ≡ opening_frame (group_state estate g (q ∷ rest)).protected
      starts (inl (fin, from)) ih e = in_ready _ _ x (from_ready (op r) r.start.plan (group_state estate g (q ∷ rest)) e from) (ih.0 fin)
      starts (inr (going, takes)) ih e = absurd (takes_none (op r) (op q) e takes)
