-- What posts a group's state allows, and what an unfinished run may have made of them.
use Rattle.std.specs.Prelude.{◌≡◌, ℕ, ◌⊎◌, Bool, true, false, not, ◌&&◌, List, [], ◌∷◌, IsTrue, IsSomeAnd, find}
use Rattle.std.specs.Bool.{MatchBool}
use Rattle.std.proofs.Common.{refl, sym, ap, ◌∙◌, subst, inl, inr}
use Rattle.dr_meaning.specs.Types.{Side, Op, Placed, Post, Estate, Phase, GroupState}
use Rattle.dr_meaning.specs.declared.stage.StageKind.{StageKind}
use Rattle.dr_meaning.specs.declared.stage.Stage.{Stage}
use Rattle.dr_base.specs.Sides.{other, same_side}
use Rattle.dr_meaning.specs.Opening.{IsInService}
use Rattle.dr_base.specs.Lists.{has}
use Rattle.dr_meaning.specs.Stages.{stages}
use Rattle.dr_meaning.specs.Visits.{Visit, visits}
use Rattle.dr_meaning.specs.Runs.{Run, op, new, stages_of, holds, is_finished, finish, named_side, group_state}
use Rattle.dr_meaning.specs.Outcomes.{PostOutcome, IsAsWanted}
use Rattle.dr_meaning.specs.Reach.{Through, is_complete, works, side_of_wave, PostStep, ReachPost, stage_of}
use Rattle.dr_meaning.specs.Meaning.{is_left, OldPostMeaning, NewPostMeaning, MeansPost}
use Rattle.dr_meaning.specs.Expected.{After, LeavesPost, is_in_bubble, wanted}
use Rattle.dr_meaning.specs.Fits.{is_recovery}
use Rattle.dr_meaning.specs.Lawful.{StartsFrom, takes_over}
use Rattle.dr_meaning.specs.InOrder.{is_start_up}
use Rattle.dr_meaning.specs.Worlds.{IsOpeningPost}
use Rattle.dr_meaning.specs.Phases.{IsAtRest, WasLeft, PostInPhase, PostAtRest, PostUnderWay}
use Rattle.dr_meaning.proofs.Lists.{Each, all_each}
use Rattle.dr_model.proofs.StageLaws.{IsCallout, stage_from-each, each-start_up, each-start_up_op, each-clear_op}
use Rattle.dr_model.proofs.WholeTest.{other_side}
use Rattle.dr_model.proofs.WholeMigrate.{side_of_other}
use Rattle.dr_model.proofs.PhaseLaws.{IsChain, StartsAt, after_finished, after_unfinished}

-- What the stages keep, any visits keep

module _ (run : Run) (m : ℕ) (side : Side) (w : Placed) (P : Post → Type 0) where
  -- work of this stage on the machine at this side leads from P to P
  abbrev pub StageHolds : Stage → Type 0
  StageHolds s = works run s m side ≡ true → (x y : Post) → P x → PostOutcome s.kind w x y → P y

  pub post_step-holds : (v : Visit) → StageHolds (stage_of run v) → (x y : Post) → PostStep run m side w v x y → P x → P y
  post_step-holds v h x y step p = go (works run (stage_of run v) m side) refl
    where
      outcome : (b : Bool) → is_complete m v ≡ b → works run (stage_of run v) m side ≡ true → PostOutcome (stage_of run v).kind w x y
      outcome true e t = inl (rw (t, e) at step)
      outcome false e t = rw (t, e) at step

      go : (b : Bool) → works run (stage_of run v) m side ≡ b → P y
      go true t = h t x y p (outcome (is_complete m v) refl t)
      go false t = let same : y ≡ x = rw t at step in subst P (sym same) p

  through_holds : (vs : List Visit) → Each (λ v. StageHolds (stage_of run v)) vs → (x y : Post) → Through (PostStep run m side w) vs x y → P x → P y
  through_holds [] h x y e p = subst P (sym e) p
  through_holds (v ∷ vs) h x y (mid, reach, step) p = post_step-holds v h.0 mid y step (through_holds vs h.1 x mid reach p)

  pub reach_post-holds : Each StageHolds (stages_of run) → (x y : Post) → ReachPost run m side w x y → P x → P y
  reach_post-holds h x y reach p =
      through_holds (visits run.log)
      (all_each (λ v. StageHolds (stage_of run v)) (λ v. stage_from-each StageHolds 1 (stages_of run) v.stage (λ t x y p o. absurd cc) h) (visits run.log))
      x y reach p

pub no_work : (b c : Bool) → c ≡ false → b && c ≡ true → ⊥
no_work true c e t = cc
no_work false c e t = cc

-- what a start makes of a post that it may find, it may find again
start_keeps_wanted : (w : Placed) (x y : Post) → IsAsWanted w x → PostOutcome StageKind.Start w x y → IsAsWanted w y
start_keeps_wanted w x y h (inl made) = rw made refl
start_keeps_wanted w Post.Placeholder y h (inr (inl e)) = rw e tt
start_keeps_wanted w Post.Placeholder y h (inr (inr (inl e))) = rw e refl
start_keeps_wanted w Post.Placeholder y h (inr (inr (inr e))) = rw e refl
start_keeps_wanted w (Post.Off p) y h (inr (inl e)) = rw e refl
start_keeps_wanted w (Post.Off p) y h (inr (inr e)) = rw e refl
start_keeps_wanted w (Post.On p) y h (inr (inl e)) = rw e refl
start_keeps_wanted w (Post.On p) y h (inr (inr e)) = rw e refl
start_keeps_wanted w (Post.Ready p) y h (inr e) = elim e [ ]

module _ (run : Run) (m : ℕ) (w : Placed) where
  -- a stage of the other side
  pub elsewhere : (side : Side) (s : Stage) → same_side side (side_of_wave (op run) run.old s.kind) ≡ false → works run s m side ≡ true → ⊥
  elsewhere side s e t = no_work (has s.machines m) (same_side side (side_of_wave (op run) run.old s.kind)) e t

  pub callout_works : (side : Side) (s : Stage) → IsCallout s → works run s m side ≡ true → ⊥
  callout_works side s c t = let no : false ≡ true = rw c.1 at t in cc

  -- under start-up a post at the new side stays as a start may find it
  stages_keep_wanted : is_start_up (op run) ≡ true → Each (StageHolds run m (new run) w (IsAsWanted w)) (stages_of run)
  stages_keep_wanted e =
      each-start_up_op (StageHolds run m (new run) w (IsAsWanted w)) run.plan (op run) run.start.forced e
      (λ s c t x y p o. absurd (callout_works (new run) s c t))
      (λ s k t x y p o. start_keeps_wanted w x y p (rw k at o))
      (λ s k t x y p o. absurd (elsewhere (new run) s (rw k (side_of_other run.old)) t))
      (λ kind t x y p o. absurd cc)

  -- a test works no machine at the old side
  test_holds : (P : Post → Type 0) → op run ≡ Op.Testing → Each (StageHolds run m run.old w P) (stages_of run)
  test_holds P e =
      rw (ap (λ o. stages run.plan o run.start.forced) e) (
        λ t x y p o. absurd cc,
        (
          λ t x y p o. absurd cc,
          each-start_up (StageHolds run m run.old w P) run.plan
              (λ s c t x y p o. absurd (callout_works run.old s c t))
              (λ s k t x y p o. absurd (elsewhere run.old s (rw k (other_side run.old)) t)),
        ),
      )

  -- a cleanup works none there, and a reprotect none at the new side
  cleanup_holds : (P : Post → Type 0) → op run ≡ Op.Cleanup → Each (StageHolds run m run.old w P) (stages_of run)
  cleanup_holds P e =
      each-clear_op (StageHolds run m run.old w P) run.plan (op run) run.start.forced (rw e refl)
      (λ s k t x y p o. absurd (elsewhere run.old s (rw (k, e) (other_side run.old)) t))
      (λ kind t x y p o. absurd cc)

  reprotect_holds : (P : Post → Type 0) → op run ≡ Op.Reprotect → Each (StageHolds run m (new run) w P) (stages_of run)
  reprotect_holds P e =
      each-clear_op (StageHolds run m (new run) w P) run.plan (op run) run.start.forced (rw e refl)
      (λ s k t x y p o. absurd (elsewhere (new run) s (rw (k, e) (side_of_other run.old)) t))
      (λ kind t x y p o. absurd cc)

-- Who left a machine

-- the last recovery of these runs, newest first, left the machine
abbrev pub LastLeft : ℕ → List Run → Type 0
LastLeft m runs = IsSomeAnd (find (λ r. is_recovery (op r)) runs) (λ r. IsTrue (is_left r m))

pass_on : (r : Run) (m : ℕ) (earlier : List Run) → is_recovery (op r) ≡ false → LastLeft m earlier → LastLeft m (r ∷ earlier)
pass_on r m earlier e h = rw e h

just_left : (r : Run) (m : ℕ) (earlier : List Run) → is_recovery (op r) ≡ true → IsTrue (is_left r m) → LastLeft m (r ∷ earlier)
just_left r m earlier e h = rw e h

-- then one of them did
was_left : (m : ℕ) (runs : List Run) → LastLeft m runs → WasLeft m runs
was_left m [] h = elim h [ ]
was_left m (r ∷ runs) h = go (is_recovery (op r)) refl (was_left m runs)
  where
    go : (b : Bool) → is_recovery (op r) ≡ b → (LastLeft m runs → WasLeft m runs) → WasLeft m (r ∷ runs)
    go true e more = inl (rw e at h)
    go false e more = inr (more (rw e at h))

-- a run that is no recovery takes over none
taken_kind : (o oq : Op) → takes_over o oq ≡ true → is_recovery o ≡ false → is_recovery oq ≡ false
taken_kind Op.Cleanup Op.Testing takes e = refl
taken_kind Op.Failover oq takes e = absurd cc
taken_kind _ _ takes e = absurd cc

-- From phase to phase

pub same_side-other : (side home : Side) → same_side side (other home) ≡ not (same_side side home)
same_side-other Side.A Side.A = refl
same_side-other Side.A Side.B = refl
same_side-other Side.B Side.A = refl
same_side-other Side.B Side.B = refl

serves : (left left_then : Type 0) → (left → left_then) → (x y : Post) → y ≡ x → IsInService x ⊎ left → IsInService y ⊎ left_then
serves left left_then f x y e (inl p) = inl (subst IsInService (sym e) p)
serves left left_then f x y e (inr l) = inr (f l)

ready_serves : (left : Type 0) (w : Placed) (y : Post) → w.bubble ≡ false → y ≡ Post.Ready w → IsInService y ⊎ left
ready_serves left w y outside e = inl (rw e outside)

-- a post at rest, by those who left the machine
in_phase_left : (left left_then : Type 0) → (left → left_then) → (phase : Phase) (home : Bool) (y : Post) → PostInPhase left phase home y → PostInPhase left_then phase home y
in_phase_left left left_then f Phase.Ready true y h = serves left left_then f y y refl h
in_phase_left left left_then f Phase.Ready false y h = h
in_phase_left left left_then f Phase.Tested true y h = serves left left_then f y y refl h
in_phase_left left left_then f Phase.Tested false y h = h
in_phase_left left left_then f Phase.Recovered true y h = h
in_phase_left left left_then f Phase.Recovered false y h = serves left left_then f y y refl h

-- a machine's post at a side as the state of its group wants it, by the last recovery
abbrev pub LastAtRest : ℕ → List Run → Side → GroupState → Post → Type 0
LastAtRest m runs side state y = PostInPhase (LastLeft m runs) state.phase (same_side side state.protected) y

pub any_at_rest : (m : ℕ) (runs : List Run) (side : Side) (state : GroupState) (y : Post) → LastAtRest m runs side state y → PostAtRest m runs side state y
any_at_rest m runs side state y h = in_phase_left (LastLeft m runs) (WasLeft m runs) (was_left m runs) state.phase (same_side side state.protected) y h

module _ (r : Run) (m : ℕ) (w : Placed) (left left_then : Type 0) where
  failed_over : (IsTrue (is_left r m) → left_then) → (y x : Post) → w.bubble ≡ false → NewPostMeaning Op.Failover r m w x y → IsInService y ⊎ left_then
  failed_over leaves y x outside (inl e) = ready_serves left_then w y outside e
  failed_over leaves y x outside (inr l) = inr (leaves l.0)

  -- a finished run
  finish_post : (o : Op) → (is_recovery o ≡ false → left → left_then) → (is_recovery o ≡ true → IsTrue (is_left r m) → left_then) → (forced : Bool) → w.bubble ≡ is_in_bubble o → (side : Side) (state : GroupState) (b : Bool) → same_side side state.protected ≡ b → (plan : ℕ) → StartsFrom o plan state → (x y : Post) → PostInPhase left state.phase b x → MatchBool b (OldPostMeaning o forced r m x y) (NewPostMeaning o r m w x y) → PostInPhase left_then (finish o plan state).phase (same_side side (finish o plan state).protected) y
  finish_post Op.Testing f leaves forced bub side state true e plan from x y rest means = rw e (serves left left_then (f refl) x y means (rw from at rest))
  finish_post Op.Testing f leaves forced bub side state false e plan from x y rest means = rw (e, means) bub
  finish_post Op.Cleanup f leaves forced bub side state true e plan from x y rest means = rw e (serves left left_then (f refl) x y means (rw from.0 at rest))
  finish_post Op.Cleanup f leaves forced bub side state false e plan from x y rest means = rw e means
  finish_post Op.Migrate f leaves forced bub side state true e plan from x y rest means = rw e tt
  finish_post Op.Migrate f leaves forced bub side state false e plan from x y rest means = rw e (ready_serves left_then w y bub means)
  finish_post Op.Failover f leaves forced bub side state true e plan from x y rest means = rw e tt
  finish_post Op.Failover f leaves forced bub side state false e plan from x y rest means = rw e (failed_over (leaves refl) y x bub means)
  finish_post Op.Reprotect f leaves forced bub side state true e plan from x y rest means = rw (same_side-other side state.protected, e) means
  finish_post Op.Reprotect f leaves forced bub side state false e plan from x y rest means = rw (same_side-other side state.protected, e) (serves left left_then (f refl) x y means (rw from.0 at rest))

  -- a finished run over an unfinished one that it took over
  over_post : (o oq : Op) → (is_recovery o ≡ false → is_recovery oq ≡ false → left → left_then) → (is_recovery o ≡ true → IsTrue (is_left r m) → left_then) → (wq : Placed) (forced : Bool) → w.bubble ≡ is_in_bubble o → takes_over o oq ≡ true → (side : Side) (state : GroupState) (b : Bool) → same_side side state.protected ≡ b → (plan : ℕ) (x y : Post) → PostUnderWay oq wq left b x → MatchBool b (OldPostMeaning o forced r m x y) (NewPostMeaning o r m w x y) → PostInPhase left_then (finish o plan state).phase (same_side side (finish o plan state).protected) y
  over_post Op.Cleanup Op.Testing f leaves wq forced bub takes side state true e plan x y under means = rw e (serves left left_then (f refl refl) x y means under)
  over_post Op.Cleanup Op.Testing f leaves wq forced bub takes side state false e plan x y under means = rw e means
  over_post Op.Failover Op.Migrate f leaves wq forced bub takes side state true e plan x y under means = rw e tt
  over_post Op.Failover Op.Migrate f leaves wq forced bub takes side state false e plan x y under means = rw e (failed_over (leaves refl) y x bub means)
  over_post _ _ f leaves wq forced bub takes side state b e plan x y under means = absurd cc

  -- an unfinished run, where it starts
  starts_post : (o : Op) (plan : ℕ) (state : GroupState) (b : Bool) → StartsFrom o plan state → (x : Post) → PostInPhase left state.phase b x → PostUnderWay o w left b x
  starts_post Op.Testing plan state true from x rest = rw from at rest
  starts_post Op.Testing plan state false from x rest = let none : x ≡ Post.Placeholder = rw from at rest in rw none tt
  starts_post Op.Cleanup plan state true from x rest = rw from.0 at rest
  starts_post Op.Cleanup plan state false from x rest = tt
  starts_post Op.Migrate plan state true from x rest = tt
  starts_post Op.Migrate plan state false from x rest = let none : x ≡ Post.Placeholder = rw from at rest in rw none tt
  starts_post Op.Failover plan state true from x rest = tt
  starts_post Op.Failover plan state false from x rest = let none : x ≡ Post.Placeholder = rw from at rest in rw none tt
  starts_post Op.Reprotect plan state true from x rest = tt
  starts_post Op.Reprotect plan state false from x rest = rw from.0 at rest

-- where it takes over another
takes_post : (o oq : Op) (w wq : Placed) (left : Type 0) (b : Bool) → takes_over o oq ≡ true → (o ≡ Op.Failover → wq ≡ w) → (x : Post) → PostUnderWay oq wq left b x → PostUnderWay o w left b x
takes_post Op.Cleanup Op.Testing w wq left true takes same x under = under
takes_post Op.Cleanup Op.Testing w wq left false takes same x under = tt
takes_post Op.Failover Op.Migrate w wq left true takes same x under = tt
takes_post Op.Failover Op.Migrate w wq left false takes same x under = subst (λ v. IsAsWanted v x) (same refl) under
takes_post _ _ w wq left b takes same x under = absurd cc

under_left : (o : Op) (w : Placed) (left left_then : Type 0) → (is_recovery o ≡ false → left → left_then) → (b : Bool) (x : Post) → PostUnderWay o w left b x → PostUnderWay o w left_then b x
under_left Op.Testing w left left_then f true x h = serves left left_then (f refl) x x refl h
under_left Op.Testing w left left_then f false x h = h
under_left Op.Cleanup w left left_then f true x h = serves left left_then (f refl) x x refl h
under_left Op.Cleanup w left left_then f false x h = h
under_left Op.Migrate w left left_then f true x h = h
under_left Op.Migrate w left left_then f false x h = h
under_left Op.Failover w left left_then f true x h = h
under_left Op.Failover w left left_then f false x h = h
under_left Op.Reprotect w left left_then f true x h = h
under_left Op.Reprotect w left left_then f false x h = serves left left_then (f refl) x x refl h

-- and after any of its stages
under_way_post : (o : Op) (r : Run) (m : ℕ) (side : Side) (w : Placed) (left : Type 0) (b : Bool) → op r ≡ o → same_side side r.old ≡ b → (x y : Post) → ReachPost r m side w x y → PostUnderWay o w left b x → PostUnderWay o w left b y
under_way_post o r m side w left b is e x y reach h = go o b is e (is_old side r.old b e) h
  where
    is_old : (side old : Side) (b : Bool) → same_side side old ≡ b → MatchBool b (side ≡ old) (side ≡ other old)
    is_old Side.A Side.A b e = rw (← e) refl
    is_old Side.A Side.B b e = rw (← e) refl
    is_old Side.B Side.A b e = rw (← e) refl
    is_old Side.B Side.B b e = rw (← e) refl

    keeps : (P : Post → Type 0) (s : Side) → side ≡ s → Each (StageHolds r m s w P) (stages_of r) → P x → P y
    keeps P s same each p = reach_post-holds r m s w P each x y (subst (λ z. ReachPost r m z w x y) same reach) p

    go : (o : Op) (b : Bool) → op r ≡ o → same_side side r.old ≡ b → MatchBool b (side ≡ r.old) (side ≡ other r.old) → PostUnderWay o w left b x → PostUnderWay o w left b y
    go Op.Testing true is e s h = keeps (λ z. IsInService z ⊎ left) r.old s (test_holds r m w (λ z. IsInService z ⊎ left) is) h
    go Op.Testing false is e s h = keeps (IsAsWanted w) (new r) s (stages_keep_wanted r m w (rw is refl)) h
    go Op.Cleanup true is e s h = keeps (λ z. IsInService z ⊎ left) r.old s (cleanup_holds r m w (λ z. IsInService z ⊎ left) is) h
    go Op.Cleanup false is e s h = tt
    go Op.Migrate true is e s h = tt
    go Op.Migrate false is e s h = keeps (IsAsWanted w) (new r) s (stages_keep_wanted r m w (rw is refl)) h
    go Op.Failover true is e s h = tt
    go Op.Failover false is e s h = keeps (IsAsWanted w) (new r) s (stages_keep_wanted r m w (rw is refl)) h
    go Op.Reprotect true is e s h = tt
    go Op.Reprotect false is e s h = keeps (λ z. IsInService z ⊎ left) (new r) s (reprotect_holds r m w (λ z. IsInService z ⊎ left) is) h

-- The chain of runs

pub migrate_of : (oq : Op) → takes_over Op.Failover oq ≡ true → oq ≡ Op.Migrate
migrate_of Op.Migrate e = refl
migrate_of Op.Testing e = absurd cc
migrate_of Op.Cleanup e = absurd cc
migrate_of Op.Failover e = absurd cc
migrate_of Op.Reprotect e = absurd cc

-- a failover wants what the migration wanted that it took over
same_wanted : (g : ℕ) (r q : Run) (m : ℕ) → op r ≡ Op.Failover → op q ≡ Op.Migrate → q.estate ≡ r.estate → q.old ≡ r.old → wanted g q m ≡ wanted g r m
same_wanted g r q m er eq estate old = rw (er, eq, estate, old) refl

opening_rest : (left : Type 0) (b : Bool) (x : Post) → MatchBool b (IsInService x) (x ≡ Post.Placeholder) → PostInPhase left Phase.Ready b x
opening_rest left true x h = inl h
opening_rest left false x h = h

pub meant_as_wanted : (o : Op) (r : Run) (m : ℕ) (w : Placed) (left : Type 0) (x y : Post) → is_start_up o ≡ true → PostUnderWay o w left false x → NewPostMeaning o r m w x y → IsAsWanted w y
meant_as_wanted Op.Testing r m w left x y up h means = rw means refl
meant_as_wanted Op.Migrate r m w left x y up h means = rw means refl
meant_as_wanted Op.Failover r m w left x y up h (inl made) = rw made refl
meant_as_wanted Op.Failover r m w left x y up h (inr (l, out)) = start_keeps_wanted w x y h out
meant_as_wanted Op.Cleanup r m w left x y up h means = absurd cc
meant_as_wanted Op.Reprotect r m w left x y up h means = absurd cc

module _ (estate : Estate) (g m : ℕ) (side : Side) where
  abbrev pub OpensPost : Post → Type 0
  OpensPost x = IsOpeningPost (named_side estate g) side x

  abbrev pub LeavesIts : Run → Post → Post → Type 0
  LeavesIts run x y = LeavesPost run m side (wanted g run m) x y

  abbrev pub RestPost : List Run → Post → Type 0
  RestPost hs y = IsAtRest hs → LastAtRest m hs side (group_state estate g hs) y

  abbrev pub UnderPost : List Run → Post → Type 0
  UnderPost [] y = Unit {0}
  UnderPost (q ∷ earlier) y = is_finished q ≡ false → PostUnderWay (op q) (wanted g q m) (LastLeft m earlier) (same_side side q.old) y

  module _ (r : Run) (earlier : List Run) (x y : Post) (held : holds g r ≡ true) (old : r.old ≡ (group_state estate g earlier).protected) where
    state : GroupState
    state = group_state estate g earlier

    home : same_side side (group_state estate g earlier).protected ≡ same_side side r.old
    home = ap (same_side side) (sym old)

    from_rest : LastAtRest m earlier side (group_state estate g earlier) x → PostInPhase (LastLeft m earlier) (group_state estate g earlier).phase (same_side side r.old) x
    from_rest rest = subst (λ b. PostInPhase (LastLeft m earlier) (group_state estate g earlier).phase b x) home rest

    finish_over_rest : StartsFrom (op r) r.start.plan (group_state estate g earlier) → LastAtRest m earlier side (group_state estate g earlier) x → MeansPost r m side (wanted g r m) x y → LastAtRest m (r ∷ earlier) side (finish (op r) r.start.plan (group_state estate g earlier)) y
    finish_over_rest from rest means =
        finish_post r m (wanted g r m) (LastLeft m earlier) (LastLeft m (r ∷ earlier)) (op r) (pass_on r m earlier) (just_left r m earlier) r.start.forced refl side (group_state estate g earlier) (same_side side r.old) home r.start.plan from x y (from_rest rest) means

    start_from_rest : StartsFrom (op r) r.start.plan (group_state estate g earlier) → LastAtRest m earlier side (group_state estate g earlier) x → PostUnderWay (op r) (wanted g r m) (LastLeft m earlier) (same_side side r.old) x
    start_from_rest from rest = starts_post r m (wanted g r m) (LastLeft m earlier) (LastLeft m (r ∷ earlier)) (op r) r.start.plan (group_state estate g earlier) (same_side side r.old) from x (from_rest rest)

  -- a run under way, from where it starts
  under_from : (r : Run) (earlier : List Run) (x y : Post) → PostUnderWay (op r) (wanted g r m) (LastLeft m earlier) (same_side side r.old) x → is_finished r ≡ false → ReachPost r m side (wanted g r m) x y → UnderPost (r ∷ earlier) y
  under_from r earlier x y start going reach e = under_way_post (op r) r m side (wanted g r m) (LastLeft m earlier) (same_side side r.old) refl refl x y reach start

  -- a finished start-up, from where it starts
  wanted_from : (r : Run) (left : Type 0) (x y : Post) → PostUnderWay (op r) (wanted g r m) left (same_side side r.old) x → MeansPost r m side (wanted g r m) x y → is_start_up (op r) ≡ true → same_side side r.old ≡ false → IsAsWanted (wanted g r m) y
  wanted_from r left x y start means up away = meant_as_wanted (op r) r m (wanted g r m) left x y up (rw away at start) (rw away at means)

  -- a finished start-up has the post as it wants it
  abbrev pub StandsPost : List Run → Post → Type 0
  StandsPost [] y = Unit {0}
  StandsPost (q ∷ earlier) y = is_finished q ≡ true → is_start_up (op q) ≡ true → same_side side q.old ≡ false → IsAsWanted (wanted g q m) y

  -- The posts that are expected, by the group's state or by the run that is under way.
  pub chain_posts : (hs : List Run) → IsChain estate g hs → Each (λ r. r.estate ≡ estate) hs → (y : Post) → After OpensPost LeavesIts hs y → RestPost hs y × UnderPost hs y × StandsPost hs y
  chain_posts [] chain est y opening = (λ rest. opening_rest (LastLeft m []) (same_side side (named_side estate g)) y opening, tt, tt)
  chain_posts (r ∷ []) chain est y (x, before, leaves) =
      let rest : LastAtRest m [] side (group_state estate g []) x = opening_rest (LastLeft m []) (same_side side (named_side estate g)) x before in
      let start = start_from_rest r [] x y chain.0 chain.1 chain.2 rest in (
        λ fin. rw (after_finished estate g r [] chain.0 fin) (finish_over_rest r [] x y chain.0 chain.1 chain.2 rest (rw fin at leaves)),
        λ going. under_from r [] x y start going (rw going at leaves) going,
        λ fin. wanted_from r (LastLeft m []) x y start (rw fin at leaves),
      )
  chain_posts (r ∷ q ∷ rest) chain est y (x, before, leaves) =
      let ih = chain_posts (q ∷ rest) chain.3 est.1 x before in
      let start = starts chain.2 ih in (
        λ fin. rw (after_finished estate g r (q ∷ rest) chain.0 fin) (finishes chain.2 ih (rw fin at leaves)),
        λ going. under_from r (q ∷ rest) x y start going (rw going at leaves) going,
        λ fin. wanted_from r (LastLeft m (q ∷ rest)) x y start (rw fin at leaves),
      )
    where
      same_old : is_finished q ≡ false → q.old ≡ r.old
      same_old going = chain.3.1 ∙ ap (λ state. state.protected) (sym (after_unfinished estate g q rest going)) ∙ sym chain.1

      under : is_finished q ≡ false → UnderPost (q ∷ rest) x → PostUnderWay (op q) (wanted g q m) (LastLeft m rest) (same_side side r.old) x
      under going u = subst (λ old. PostUnderWay (op q) (wanted g q m) (LastLeft m rest) (same_side side old) x) (same_old going) (u going)

      same : is_finished q ≡ false → takes_over (op r) (op q) ≡ true → op r ≡ Op.Failover → wanted g q m ≡ wanted g r m
      same going takes e = same_wanted g r q m e (migrate_of (op q) (let t : takes_over Op.Failover (op q) ≡ true = rw e at takes in t)) (est.1.0 ∙ sym est.0) (same_old going)

      finishes : StartsAt estate g r (q ∷ rest) → RestPost (q ∷ rest) x × UnderPost (q ∷ rest) x × StandsPost (q ∷ rest) x → MeansPost r m side (wanted g r m) x y → LastAtRest m (r ∷ q ∷ rest) side (finish (op r) r.start.plan (group_state estate g (q ∷ rest))) y
      finishes (inl (fin, from)) ih means = finish_over_rest r (q ∷ rest) x y chain.0 chain.1 from (ih.0 fin) means
      finishes (inr (going, takes)) ih means =
          over_post r m (wanted g r m) (LastLeft m rest) (LastLeft m (r ∷ q ∷ rest)) (op r) (op q) (λ e eq l. pass_on r m (q ∷ rest) e (pass_on q m rest eq l)) (just_left r m (q ∷ rest)) (wanted g q m) r.start.forced refl takes side (group_state estate g (q ∷ rest)) (same_side side r.old)
          (ap (same_side side) (sym chain.1)) r.start.plan x y (under going ih.1) means

      starts : StartsAt estate g r (q ∷ rest) → RestPost (q ∷ rest) x × UnderPost (q ∷ rest) x × StandsPost (q ∷ rest) x → PostUnderWay (op r) (wanted g r m) (LastLeft m (q ∷ rest)) (same_side side r.old) x
      starts (inl (fin, from)) ih = start_from_rest r (q ∷ rest) x y chain.0 chain.1 from (ih.0 fin)
      starts (inr (going, takes)) ih =
          under_left (op r) (wanted g r m) (LastLeft m rest) (LastLeft m (q ∷ rest)) (λ e. pass_on q m rest (taken_kind (op r) (op q) takes e)) (same_side side r.old) x
          (takes_post (op r) (op q) (wanted g r m) (wanted g q m) (LastLeft m rest) (same_side side r.old) takes (same going takes) x (under going ih.1))
