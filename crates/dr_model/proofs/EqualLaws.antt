-- What a run means, it may have made: with FinishLaws the two are equal, but for left machines at the new side.
use Rattle.std.specs.Prelude.{◌++◌, length, ◌+◌, ◌<◌, ◌≤◌, find, ◌≡◌, ◌≢◌, ℕ, ◌⊎◌, Bool, true, false, not, ◌&&◌, ◌||◌, List, [], ◌∷◌, Some, IsTrue, cond}
use Rattle.std.specs.Bool.{MatchBool}
use Rattle.std.proofs.Common.{refl, sym, ap, ◌∙◌, inl, inr, subst, arith}
use Rattle.std.proofs.lemmas.Bool.{eq-eqb, ne_eqb, cases_eq, cases_lt}
use Rattle.dr_meaning.specs.Types.{Side, Op, Placed, Post, PlanMachine}
use Rattle.dr_meaning.specs.declared.stage.StageKind.{StageKind}
use Rattle.dr_meaning.specs.declared.stage.Stage.{Stage}
use Rattle.dr_outside.specs.Pairs.{Frame}
use Rattle.dr_outside.specs.BySide.{at}
use Rattle.dr_base.specs.Sides.{same_side}
use Rattle.dr_base.specs.Lists.{has}
use Rattle.dr_meaning.specs.Stages.{no_stage, stage_from, wind_down, stages, recovery, array_stage, start_up, stage_at}
use Rattle.dr_meaning.specs.Visits.{Visit, visits, all, is_excused}
use Rattle.dr_meaning.specs.Runs.{Run, op, stages_of}
use Rattle.dr_meaning.specs.Outcomes.{made_frame, stopped, split_frame}
use Rattle.dr_meaning.specs.Reach.{Through, is_complete, FrameStep, ReachFrame, works, PostStep, ReachPost, stage_of}
use Rattle.dr_meaning.specs.Meaning.{is_wave_of, same_kind, is_left, is_of_kind, last_visit_of, is_prepare_skipped, FrameMeaning, MeansFrame, OldPostMeaning, NewPostMeaning, MeansPost}
use Rattle.dr_meaning.specs.Lawful.{MayFinish}
use Rattle.dr_meaning.proofs.Lists.{Each, all_each, each-map, Some_of, some_of-map}
use Rattle.dr_model.proofs.StageLaws.{IsCallout, IsWave, wind_down-kind, each-start_up, each-start_up_op, IsMachineOf, stage_from-each, counted}
use Rattle.dr_model.proofs.ThroughLaws.{Keeps, through_keeps, Holds, Makes, through_from}
use Rattle.dr_model.proofs.WalkedLaws.{post_made}
use Rattle.dr_model.proofs.LogLaws.{IsGoneThrough}
use Rattle.dr_model.proofs.ExcuseLaws.{ExcusesRightly}
use Rattle.dr_model.proofs.WholeMigrate.{stopped-same, stopped-stopped, is_running-stopped, moved, at-put, at-put_other}
use Rattle.dr_model.proofs.NumberLaws.{kind-same}
use Rattle.dr_model.proofs.WholeSkips.{KeepsOrStops, stop_holds, off_outcome, old_post_either, stop_wave, IsThrough, visit_with, moved_if, split_if, old_sets, has_prepare}
use Rattle.dr_meaning.specs.InOrder.{is_start_up}
use Rattle.dr_meaning.specs.StartUp.{is_started}
use Rattle.dr_model.proofs.ChainLaws.{and_left, and_right}
use Rattle.dr_model.proofs.WholeTest.{same_side_itself, other_side}
use Rattle.dr_model.proofs.PostPhase.{StageHolds, post_step-holds, callout_works, elsewhere}
use Rattle.dr_model.proofs.SequenceLaws.{IsAhead, IsInSequence}
use Rattle.dr_model.proofs.FinishLaws.{through, finish_frame, is_old, finish_post}

pub through_map : {X : Type 0} (Step Then : Visit → X → X → Type 0) → (vs : List Visit) → Each (λ v. (x y : X) → Step v x y → Then v x y) vs → (x y : X) → Through Step vs x y → Through Then vs x y
through_map Step Then [] f x y e = e
through_map Step Then (v ∷ vs) f x y (mid, reach, step) = (mid, through_map Step Then vs f.1 x mid reach, f.0 mid y step)

-- where each visit leaves one state, some state is reached
through_of : {X : Type 0} (leaves : Visit → X → X) (vs : List Visit) (x : X) → (z : X) × Through (λ v x y. y ≡ leaves v x) vs x z
through_of leaves [] x = (x, refl)
through_of leaves (v ∷ vs) x = let (mid, reach) = through_of leaves vs x in (leaves v mid, (mid, reach, refl))

module _ (run : Run) where
  abbrev pub made_in : Visit → Frame → Frame
  made_in v x = made_frame run (stage_of run v).kind x

  made_step : (v : Visit) (x y : Frame) → y ≡ made_in v x → FrameStep run v x y
  made_step v x y e = go (is_complete all v) refl
    where
      go : (b : Bool) → is_complete all v ≡ b → FrameStep run v x y
      go true c = rw c e
      go false c = rw c (inl e)

  pub reach_made : (x : Frame) → (z : Frame) × ReachFrame run x z
  reach_made x = let (z, t) = through_of made_in (visits run.log) x in (z, through_map (λ v x y. y ≡ made_in v x) (FrameStep run) (visits run.log) (all_each (λ v. (x y : Frame) → y ≡ made_in v x → FrameStep run v x y) made_step (visits run.log)) x z t)

  post_step : (m : ℕ) (side : Side) (w : Placed) (v : Visit) (x y : Post) → y ≡ post_made run m side w (stage_of run v) x → PostStep run m side w v x y
  post_step m side w v x y e = go (works run (stage_of run v) m side) refl (is_complete m v) refl
    where
      go : (b : Bool) → works run (stage_of run v) m side ≡ b → (c : Bool) → is_complete m v ≡ c → PostStep run m side w v x y
      go true t true c = rw (t, c) (rw t at e)
      go true t false c = rw (t, c) (inl (rw t at e))
      go false t c d = rw t (rw t at e)

  pub reach_made_post : (m : ℕ) (side : Side) (w : Placed) (x : Post) → (z : Post) × ReachPost run m side w x z
  reach_made_post m side w x =
      let (z, t) = through_of (λ v x. post_made run m side w (stage_of run v) x) (visits run.log) x in
      (z, through_map (λ v x y. y ≡ post_made run m side w (stage_of run v) x) (PostStep run m side w) (visits run.log) (all_each (λ v. (x y : Post) → y ≡ post_made run m side w (stage_of run v) x → PostStep run m side w v x y) (post_step m side w) (visits run.log)) x z t)

-- One meaning

one_frame : (o : Op) (forced : Bool) (r : Run) (x y z : Frame) → (o ≡ Op.Failover → forced ≡ true) → FrameMeaning o forced r x y → FrameMeaning o forced r x z → y ≡ z
one_frame Op.Testing forced r x y z ne a b = a ∙ sym b
one_frame Op.Cleanup forced r x y z ne a b = a ∙ sym b
one_frame Op.Migrate forced r x y z ne a b = a ∙ sym b
one_frame Op.Failover true r x y z ne a b = a ∙ sym b
one_frame Op.Failover false r x y z ne a b = absurd (let wrong : false ≡ true = ne refl in cc)
one_frame Op.Reprotect forced r x y z ne a b = a ∙ sym b

one_old : (o : Op) (forced : Bool) (r : Run) (m : ℕ) (x y z : Post) → (o ≡ Op.Failover → forced ≡ true) → OldPostMeaning o forced r m x y → OldPostMeaning o forced r m x z → y ≡ z
one_old Op.Testing forced r m x y z ne a b = a ∙ sym b
one_old Op.Cleanup forced r m x y z ne a b = a ∙ sym b
one_old Op.Migrate forced r m x y z ne a b = a ∙ sym b
one_old Op.Failover true r m x y z ne a b = a ∙ sym b
one_old Op.Failover false r m x y z ne a b = absurd (let wrong : false ≡ true = ne refl in cc)
one_old Op.Reprotect forced r m x y z ne a b = a ∙ sym b

-- but for left machines
one_new : (o : Op) (r : Run) (m : ℕ) (w : Placed) (x y z : Post) → is_left r m ≡ false → NewPostMeaning o r m w x y → NewPostMeaning o r m w x z → y ≡ z
one_new Op.Testing r m w x y z kept a b = a ∙ sym b
one_new Op.Cleanup r m w x y z kept a b = a ∙ sym b
one_new Op.Migrate r m w x y z kept a b = a ∙ sym b
one_new Op.Failover r m w x y z kept (inl a) (inl b) = a ∙ sym b
one_new Op.Failover r m w x y z kept (inr a) b = absurd (let wrong : true ≡ false = sym a.0 ∙ kept in cc)
one_new Op.Failover r m w x y z kept a (inr b) = absurd (let wrong : true ≡ false = sym b.0 ∙ kept in cc)
one_new Op.Reprotect r m w x y z kept a b = a ∙ sym b

-- A failover that isn't forced

-- an excused Prepare is excused at each visit: a lawful run visits it once
abbrev pub SkipsWhole : Run → Type 0
SkipsWhole run = is_excused all (last_visit_of run (is_of_kind StageKind.Prepare)) ≡ true → Each (λ v. (stage_of run v).kind ≡ StageKind.Prepare → has v.excused all ≡ true) (visits run.log)

module _ (run : Run) (t : IsThrough run) (list : stages_of run ≡ recovery run.plan) (x : Frame) where
  -- all work done
  all_made : (z : Frame) × ReachFrame run x z × (z ≡ moved run x)
  all_made =
      let (z, made) = through_of (made_in run) (visits run.log) x in
      let reach : ReachFrame run x z = through_map (λ v x y. y ≡ made_in run v x) (FrameStep run) (visits run.log) (all_each (λ v. (x y : Frame) → y ≡ made_in run v x → FrameStep run v x y) (made_step run) (visits run.log)) x z made in
      let frozen : at run.old z.writable ≡ false =
      through_from (λ v x y. y ≡ made_in run v x) (λ y. at run.old y.writable ≡ false) (visits run.log)
      (some_of-map (λ v. is_of_kind StageKind.Prepare (stage_of run v) ≡ true) (Makes (λ v x y. y ≡ made_in run v x) (λ y. at run.old y.writable ≡ false)) prepares (visits run.log) (visit_with run (λ s. is_of_kind StageKind.Prepare s ≡ true) t (has_prepare run t list x z reach)))
      (all_each (Holds (λ v x y. y ≡ made_in run v x) (λ y. at run.old y.writable ≡ false)) (λ v u y e was. keeps v u y e was (stage_from-each (λ s. (x : Frame) → (at run.old (made_frame run s.kind x).writable ≡ at run.old x.writable) ⊎ (at run.old (made_frame run s.kind x).writable ≡ false)) 1 (stages_of run) v.stage (λ x. inl refl) (old_sets run t list x z reach) u)) (visits run.log)) x z made in
      (z, reach, moved_if run t list x z reach frozen)
    where
      prepares : (v : Visit) → is_of_kind StageKind.Prepare (stage_of run v) ≡ true → Makes (λ v x y. y ≡ made_in run v x) (λ y. at run.old y.writable ≡ false) v
      prepares v is u y e =
          let kind : (stage_of run v).kind ≡ StageKind.Prepare = kind-same _ StageKind.Prepare is in
          ap (λ f. at run.old f.writable) e ∙ rw kind (at-put run.old false u.writable)

      keeps : (v : Visit) (u y : Frame) → y ≡ made_in run v u → at run.old u.writable ≡ false → (at run.old (made_in run v u).writable ≡ at run.old u.writable) ⊎ (at run.old (made_in run v u).writable ≡ false) → at run.old y.writable ≡ false
      keeps v u y e was (inl same) = ap (λ f. at run.old f.writable) e ∙ same ∙ was
      keeps v u y e was (inr sets) = ap (λ f. at run.old f.writable) e ∙ sets

  made_old : (kind : StageKind) → (kind ≡ StageKind.Prepare → ⊥) → (u : Frame) → at run.old (made_frame run kind u).writable ≡ at run.old u.writable
  made_old StageKind.Prepare ne u = absurd (ne refl)
  made_old StageKind.Split ne u = at-put_other run.old true u.writable
  made_old _ ne u = refl

  abbrev skips_prepare : Visit → Frame → Frame
  skips_prepare v u = cond (is_of_kind StageKind.Prepare (stage_of run v)) u (made_in run v u)

  -- all work but that of Prepare
  all_but_prepare : Each (λ v. (stage_of run v).kind ≡ StageKind.Prepare → has v.excused all ≡ true) (visits run.log) → (z : Frame) × ReachFrame run x z × (z ≡ split_frame run x)
  all_but_prepare skipped =
      let (z, made) = through_of skips_prepare (visits run.log) x in
      let reach : ReachFrame run x z = through_map (λ v x y. y ≡ skips_prepare v x) (FrameStep run) (visits run.log) (each-map (λ v. (stage_of run v).kind ≡ StageKind.Prepare → has v.excused all ≡ true) (λ v. (x y : Frame) → y ≡ skips_prepare v x → FrameStep run v x y) step (visits run.log) skipped) x z made in
      let same : at run.old z.writable ≡ at run.old x.writable =
      through_keeps (λ v x y. y ≡ skips_prepare v x) (λ f. at run.old f.writable) (visits run.log)
      (all_each (Keeps (λ v x y. y ≡ skips_prepare v x) (λ f. at run.old f.writable)) keeps (visits run.log)) x z made in
      (z, reach, split_if run t list x z reach same)
    where
      step : (v : Visit) → ((stage_of run v).kind ≡ StageKind.Prepare → has v.excused all ≡ true) → (u y : Frame) → y ≡ skips_prepare v u → FrameStep run v u y
      step v skip u y e = go (is_of_kind StageKind.Prepare (stage_of run v)) refl
        where
          not_done : (d h : Bool) → h ≡ true → d && not h ≡ false
          not_done true h is = rw is refl
          not_done false h is = refl

          go : (b : Bool) → is_of_kind StageKind.Prepare (stage_of run v) ≡ b → FrameStep run v u y
          go true is = let excused : has v.excused all ≡ true = skip (kind-same _ StageKind.Prepare is) in let same : y ≡ u = rw is at e in rw (not_done v.done (has v.excused all) excused) (inr same)
          go false is = made_step run v u y (rw is at e)

      keeps : (v : Visit) → Keeps (λ v x y. y ≡ skips_prepare v x) (λ f. at run.old f.writable) v
      keeps v u y e = go (is_of_kind StageKind.Prepare (stage_of run v)) refl
        where
          go : (b : Bool) → is_of_kind StageKind.Prepare (stage_of run v) ≡ b → at run.old y.writable ≡ at run.old u.writable
          go true is = let same : y ≡ u = rw is at e in ap (λ f. at run.old f.writable) same
          go false is =
              let made : y ≡ made_in run v u = rw is at e in
              ap (λ f. at run.old f.writable) made ∙ made_old (stage_of run v).kind (λ p. let wrong : true ≡ false = sym (ap (λ k. same_kind k StageKind.Prepare) p) ∙ is in cc) u

-- A stage that is single is visited once

abbrev pub IsSingle : List Stage → (Stage → Bool) → Type 0
IsSingle stages p = (i j : ℕ) → p (stage_at stages i) ≡ true → p (stage_at stages j) ≡ true → i ≡ j

-- it is, where no two numbers have stages that pass
pub single_if : (stages : List Stage) (p : Stage → Bool) → p no_stage ≡ false → ((i j : ℕ) → 1 ≤ i → i < j → p (stage_at stages i) ≡ true → p (stage_at stages j) ≡ true → ⊥) → IsSingle stages p
single_if stages p none apart i j a b = go (cases_lt i j) (cases_eq i j)
  where
    from_1 : (k : ℕ) → p (stage_at stages k) ≡ true → 1 ≤ k
    from_1 k passes = counted (λ s. p s ≡ true) (λ ends. let wrong : true ≡ false = sym ends ∙ none in cc) 1 stages k passes

    go : (i < j) ⊎ (j ≤ i) → (i ≡ j) ⊎ (i ≡ j → ⊥) → i ≡ j
    go either (inl same) = same
    go (inl lt) (inr ne) = absurd (apart i j (from_1 i a) lt a b)
    go (inr le) (inr ne) = absurd (apart j i (from_1 j b) (omega arith) b a)

-- a visit of it is the last visit of it
once : (stages : List Stage) (p : Stage → Bool) → IsSingle stages p → ((s : Stage) → p s ≡ true → s.kind ≢ StageKind.Start) → (vs : List Visit) → IsAhead stages vs → Each (λ v. p (stage_at stages v.stage) ≡ true → find (λ u. p (stage_at stages u.stage)) vs ≡ Some v) vs
once stages p single starts_none [] ahead = tt
once stages p single starts_none (v ∷ vs) ahead = go (p (stage_at stages v.stage)) refl (once stages p single starts_none vs ahead.1)
  where
    go : (b : Bool) → p (stage_at stages v.stage) ≡ b → Each (λ u. p (stage_at stages u.stage) ≡ true → find (λ w. p (stage_at stages w.stage)) vs ≡ Some u) vs → Each (λ u. p (stage_at stages u.stage) ≡ true → find (λ w. p (stage_at stages w.stage)) (v ∷ vs) ≡ Some u) (v ∷ vs)
    go true e rest = (
      λ _. rw e refl,
      each-map (λ u. u.stage < v.stage) (λ u. p (stage_at stages u.stage) ≡ true → find (λ w. p (stage_at stages w.stage)) (v ∷ vs) ≡ Some u)
          (λ u below passes. absurd (omega (arith, single u.stage v.stage passes e))) vs (ahead.0 (starts_none (stage_at stages v.stage) e)),
    )
    go false e rest = (
      λ yes. absurd (let wrong : true ≡ false = sym yes ∙ e in cc),
      each-map (λ u. p (stage_at stages u.stage) ≡ true → find (λ w. p (stage_at stages w.stage)) vs ≡ Some u) (λ u. p (stage_at stages u.stage) ≡ true → find (λ w. p (stage_at stages w.stage)) (v ∷ vs) ≡ Some u)
          (λ u h passes. rw e (h passes)) vs rest,
    )

-- so where its last visit excuses, each does
excused_once : (stages : List Stage) (p : Stage → Bool) (m : ℕ) (vs : List Visit) → Each (λ v. p (stage_at stages v.stage) ≡ true → find (λ u. p (stage_at stages u.stage)) vs ≡ Some v) vs → is_excused m (find (λ u. p (stage_at stages u.stage)) vs) ≡ true → Each (λ v. p (stage_at stages v.stage) ≡ true → has v.excused m ≡ true) vs
excused_once stages p m vs each excused =
    each-map (λ v. p (stage_at stages v.stage) ≡ true → find (λ u. p (stage_at stages u.stage)) vs ≡ Some v) (λ v. p (stage_at stages v.stage) ≡ true → has v.excused m ≡ true)
    (λ v h passes. let found = h passes in rw found at excused) vs each

-- where all others fail, one stage passes
single_at : (P : Stage → Type 0) (n : ℕ) (xs : List Stage) (s : Stage) (ys : List Stage) → Each (λ x. P x → ⊥) xs → Each (λ x. P x → ⊥) ys → (P no_stage → ⊥) → (i : ℕ) → P (stage_from n (xs ++ s ∷ ys) i) → i ≡ n + length xs
single_at P n [] s ys hx hy none i p = go (cases_eq i n)
  where
    go : (i ≡ n) ⊎ (i ≡ n → ⊥) → i ≡ n + 0
    go (inl e) = omega (arith, e)
    go (inr ne) = absurd (stage_from-each (λ x. P x → ⊥) (n + 1) ys i none hy (rw (ne_eqb i n ne) at p))
single_at P n (x ∷ xs) s ys hx hy none i p = go (cases_eq i n) (λ ne. single_at P (n + 1) xs s ys hx.1 hy none i (rw (ne_eqb i n ne) at p))
  where
    go : (i ≡ n) ⊎ (i ≡ n → ⊥) → ((i ≡ n → ⊥) → i ≡ n + 1 + length xs) → i ≡ n + length (x ∷ xs)
    go (inl e) later = absurd (hx.0 (rw (eq-eqb i n e) at p))
    go (inr ne) later = omega (arith, later ne)

-- Prepare is single
prepare_single : (run : Run) → stages_of run ≡ recovery run.plan → IsSingle (stages_of run) (is_of_kind StageKind.Prepare)
prepare_single run list i j a b = at_place i a ∙ sym (at_place j b)
  where
    Prepares : Stage → Type 0
    Prepares s = is_of_kind StageKind.Prepare s ≡ true

    not_callout : (s : Stage) → IsCallout s → Prepares s → ⊥
    not_callout s (inl e, none) p = let wrong : false ≡ true = rw e at p in cc
    not_callout s (inr e, none) p = let wrong : false ≡ true = rw e at p in cc

    at_place : (i : ℕ) → is_of_kind StageKind.Prepare (stage_at (stages_of run) i) ≡ true → i ≡ 1 + length (array_stage StageKind.Sync ∷ wind_down StageKind.Stop run.plan)
    at_place i p =
        single_at (λ s. is_of_kind StageKind.Prepare s ≡ true) 1 (array_stage StageKind.Sync ∷ wind_down StageKind.Stop run.plan) (array_stage StageKind.Prepare) (array_stage StageKind.FinalSync ∷ array_stage StageKind.Split ∷ start_up run.plan)
        (λ p. cc, each-map (IsWave StageKind.Stop) (λ s. is_of_kind StageKind.Prepare s ≡ true → ⊥) (λ s k p. let wrong : false ≡ true = rw k at p in cc) _ (wind_down-kind StageKind.Stop run.plan))
        (λ p. cc, (λ p. cc, each-start_up (λ s. is_of_kind StageKind.Prepare s ≡ true → ⊥) run.plan not_callout (λ s k p. let wrong : false ≡ true = rw k at p in cc)))
        (λ p. cc) i (rw list at p)

skips_whole : (run : Run) → stages_of run ≡ recovery run.plan → IsInSequence run → SkipsWhole run
skips_whole run list sequence excused =
    each-map (λ v. is_of_kind StageKind.Prepare (stage_of run v) ≡ true → has v.excused all ≡ true) (λ v. (stage_of run v).kind ≡ StageKind.Prepare → has v.excused all ≡ true)
    (λ v h kind. h (ap (λ k. same_kind k StageKind.Prepare) kind)) (visits run.log)
    (excused_once (stages_of run) (is_of_kind StageKind.Prepare) all (visits run.log)
    (once (stages_of run) (is_of_kind StageKind.Prepare) (prepare_single run list) (λ s p start. let wrong : false ≡ true = rw start at p in cc) (visits run.log) sequence.ahead) excused)

-- Old posts of a failover

abbrev StopsIfWorks : Run → ℕ → Stage → Type 0
StopsIfWorks run m s = works run s m run.old ≡ true → is_wave_of StageKind.Stop m s ≡ true

module _ (run : Run) (m : ℕ) (w : Placed) (up : is_start_up (op run) ≡ true) (t : IsThrough run) where
  abbrev Stopping : Stage → Bool
  Stopping s = is_wave_of StageKind.Stop m s

  abbrev made_old_post : Visit → Post → Post
  made_old_post v x = post_made run m run.old w (stage_of run v) x

  -- all machines stopped
  all_stopped : Some_of (λ s. is_wave_of StageKind.Stop m s ≡ true) (stages_of run) → (x : Post) → (z : Post) × ReachPost run m run.old w x z × (z ≡ stopped x)
  all_stopped some x =
      let (z, made) = through_of made_old_post (visits run.log) x in
      let reach : ReachPost run m run.old w x z = through_map (λ v x y. y ≡ made_old_post v x) (PostStep run m run.old w) (visits run.log) (all_each (λ v. (x y : Post) → y ≡ made_old_post v x → PostStep run m run.old w v x y) (post_step run m run.old w) (visits run.log)) x z made in
      let off : is_started z ≡ false =
      through_from (λ v x y. y ≡ made_old_post v x) (λ y. is_started y ≡ false) (visits run.log)
      (some_of-map (λ v. is_wave_of StageKind.Stop m (stage_of run v) ≡ true) (Makes (λ v x y. y ≡ made_old_post v x) (λ y. is_started y ≡ false)) stops (visits run.log) (visit_with run (λ s. is_wave_of StageKind.Stop m s ≡ true) t some))
      (all_each (Holds (λ v x y. y ≡ made_old_post v x) (λ y. is_started y ≡ false)) holds_off (visits run.log)) x z made in
      (z, reach, sym (stopped-same z off) ∙ both (old_post_either run m w up x z reach))
    where
      both : {x z : Post} → KeepsOrStops x z → stopped z ≡ stopped x
      both (inl e) = ap stopped e
      both {x} (inr e) = ap stopped e ∙ stopped-stopped x

      stops : (v : Visit) → is_wave_of StageKind.Stop m (stage_of run v) ≡ true → Makes (λ v x y. y ≡ made_old_post v x) (λ y. is_started y ≡ false) v
      stops v wave u y e =
          let kind : (stage_of run v).kind ≡ StageKind.Stop = kind-same _ StageKind.Stop (and_left _ _ wave) in
          let listed : has (stage_of run v).machines m ≡ true = and_right (same_kind (stage_of run v).kind StageKind.Stop) _ wave in
          let worked : works run (stage_of run v) m run.old ≡ true = rw (listed, kind) (same_side_itself run.old) in
          let made : y ≡ stopped u = rw (worked, kind) at e in
          ap is_started made ∙ is_running-stopped u

      holds_off : (v : Visit) → Holds (λ v x y. y ≡ made_old_post v x) (λ y. is_started y ≡ false) v
      holds_off v u y e p =
          post_step-holds run m run.old w (λ z. is_started z ≡ false) v
          (stage_from-each (StageHolds run m run.old w (λ z. is_started z ≡ false)) 1 (stages_of run) v.stage (λ t x y p o. absurd cc) (stop_holds run m w up (λ z. is_started z ≡ false) (off_outcome w)))
          u y (post_step run m run.old w v u y e) p

  -- only a Stop wave works the machine at the old side
  each_stops : Each (StopsIfWorks run m) (stages_of run)
  each_stops =
      each-start_up_op (StopsIfWorks run m) run.plan (op run) run.start.forced up
      (λ s c t. absurd (callout_works run m w run.old s c t))
      (λ s k t. absurd (elsewhere run m w run.old s (rw k (other_side run.old)) t))
      (λ s k t. rw k (and_left (has s.machines m) _ t))
      (λ kind t. absurd cc)

  -- none stopped, where each Stop of the machine is skipped
  none_stopped : Each (λ v. is_wave_of StageKind.Stop m (stage_of run v) ≡ true → has v.excused m ≡ true) (visits run.log) → (x : Post) → ReachPost run m run.old w x x
  none_stopped skipped x = stays (visits run.log) skipped
    where
      stay : (v : Visit) → (is_wave_of StageKind.Stop m (stage_of run v) ≡ true → has v.excused m ≡ true) → PostStep run m run.old w v x x
      stay v skip = go (works run (stage_of run v) m run.old) refl
        where
          not_done : (d h : Bool) → h ≡ true → d && not h ≡ false
          not_done true h is = rw is refl
          not_done false h is = refl

          go : (b : Bool) → works run (stage_of run v) m run.old ≡ b → PostStep run m run.old w v x x
          go false worked = rw worked refl
          go true worked =
              let wave : is_wave_of StageKind.Stop m (stage_of run v) ≡ true = stage_from-each (StopsIfWorks run m) 1 (stages_of run) v.stage (λ t. absurd cc) each_stops worked in
              let kind : (stage_of run v).kind ≡ StageKind.Stop = kind-same _ StageKind.Stop (and_left _ _ wave) in
              rw (worked, not_done v.done (has v.excused m) (skip wave), kind) (inr refl)

      stays : (vs : List Visit) → Each (λ v. is_wave_of StageKind.Stop m (stage_of run v) ≡ true → has v.excused m ≡ true) vs → Through (PostStep run m run.old w) vs x x
      stays [] h = refl
      stays (v ∷ vs) h = (x, stays vs h.1, stay v h.0)

-- Where a lawful Finish may come, each frame that the run means is one that it may have made.
module _ (r : Run) (machines : List ℕ) (gone : IsGoneThrough r) (rightly : ExcusesRightly r) (may : MayFinish r machines) where
  pub frame_reached : IsInSequence r → (x y : Frame) → MeansFrame r x y → ReachFrame r x y
  frame_reached sequence x y means = go (op r) r.start.forced refl refl
    where
      one : (op r ≡ Op.Failover → r.start.forced ≡ true) → ReachFrame r x y
      one ne =
          let (z, reach) = reach_made r x in
          subst (λ f. ReachFrame r x f) (sym (one_frame (op r) r.start.forced r x y z ne means (finish_frame r machines gone rightly may x z reach))) reach

      failed_over : (e : op r ≡ Op.Failover) → (f : r.start.forced ≡ false) → (y ≡ moved r x) ⊎ (IsTrue (is_prepare_skipped r) × (y ≡ split_frame r x)) → ReachFrame r x y
      failed_over e f (inl m) =
          let (z, reach, is) = all_made r (through r machines gone rightly may) (ap (λ o. stages r.plan o r.start.forced) e ∙ ap (λ b. stages r.plan Op.Failover b) f) x in
          subst (λ q. ReachFrame r x q) (is ∙ sym m) reach
      failed_over e f (inr (skipped, s)) =
          let (z, reach, is) = all_but_prepare r (through r machines gone rightly may) (ap (λ o. stages r.plan o r.start.forced) e ∙ ap (λ b. stages r.plan Op.Failover b) f) x (skips_whole r (ap (λ o. stages r.plan o r.start.forced) e ∙ ap (λ b. stages r.plan Op.Failover b) f) sequence (or_other r.start.forced _ f skipped)) in
          subst (λ q. ReachFrame r x q) (is ∙ sym s) reach
        where
          or_other : (a b : Bool) → a ≡ false → a || b ≡ true → b ≡ true
          or_other true b ne h = absurd cc
          or_other false b ne h = h

      unforced : op r ≡ Op.Failover → r.start.forced ≡ false → FrameMeaning Op.Failover false r x y
      unforced e f = subst (λ (b : Bool). FrameMeaning Op.Failover b r x y) f (subst (λ (o : Op). FrameMeaning o r.start.forced r x y) e means)

      go : (o : Op) (b : Bool) → op r ≡ o → r.start.forced ≡ b → ReachFrame r x y
      go Op.Failover false e f = failed_over e f (unforced e f)
      go Op.Failover true e f = one (λ _. f)
      go Op.Testing b e f = one (λ g. let wrong : Op.Testing ≡ Op.Failover = sym e ∙ g in absurd cc)
      go Op.Cleanup b e f = one (λ g. let wrong : Op.Cleanup ≡ Op.Failover = sym e ∙ g in absurd cc)
      go Op.Migrate b e f = one (λ g. let wrong : Op.Migrate ≡ Op.Failover = sym e ∙ g in absurd cc)
      go Op.Reprotect b e f = one (λ g. let wrong : Op.Reprotect ≡ Op.Failover = sym e ∙ g in absurd cc)

  -- the post at the old side in a failover, where one Stop wave has the machine
  failover_old_reached : (m : PlanMachine) → IsMachineOf r.plan m → IsSingle (stages_of r) (is_wave_of StageKind.Stop m.machine) → IsInSequence r → (w : Placed) → op r ≡ Op.Failover → r.start.forced ≡ false → (x y : Post) → OldPostMeaning Op.Failover false r m.machine x y → ReachPost r m.machine r.old w x y
  failover_old_reached m of_plan single sequence w e f x y (inl stops) =
      let (z, reach, is) = all_stopped r m.machine w (rw e refl) (through r machines gone rightly may) (stop_wave r m w e of_plan (through r machines gone rightly may) f) x in
      subst (λ p. ReachPost r m.machine r.old w x p) (is ∙ sym stops) reach
  failover_old_reached m of_plan single sequence w e f x y (inr (skipped, same)) =
      subst (λ p. ReachPost r m.machine r.old w x p) (sym same)
      (none_stopped r m.machine w (rw e refl) (through r machines gone rightly may)
      (excused_once (stages_of r) (is_wave_of StageKind.Stop m.machine) m.machine (visits r.log)
      (once (stages_of r) (is_wave_of StageKind.Stop m.machine) single (λ s p start. let wrong : false ≡ true = rw start at p in cc) (visits r.log) sequence.ahead)
      (or_other r.start.forced _ f skipped)) x)
    where
      or_other : (a b : Bool) → a ≡ false → a || b ≡ true → b ≡ true
      or_other true b ne h = absurd cc
      or_other false b ne h = h

  -- a post, but that of a left machine at the new side
  pub post_reached : (m : PlanMachine) → IsMachineOf r.plan m → IsInSequence r → (w : Placed) (side : Side) → (same_side side r.old ≡ true → op r ≡ Op.Failover → r.start.forced ≡ false → IsSingle (stages_of r) (is_wave_of StageKind.Stop m.machine)) → (same_side side r.old ≡ false → is_left r m.machine ≡ false) → (x y : Post) → MeansPost r m.machine side w x y → ReachPost r m.machine side w x y
  post_reached m of_plan sequence w side single kept x y means = go (same_side side r.old) (op r) r.start.forced refl refl refl
    where
      same : (b : Bool) → same_side side r.old ≡ b → (b ≡ true → op r ≡ Op.Failover → r.start.forced ≡ true) → (z : Post) → MatchBool b (OldPostMeaning (op r) r.start.forced r m.machine x y) (NewPostMeaning (op r) r m.machine w x y) → MatchBool b (OldPostMeaning (op r) r.start.forced r m.machine x z) (NewPostMeaning (op r) r m.machine w x z) → y ≡ z
      same true s ne z a b = one_old (op r) r.start.forced r m.machine x y z (ne refl) a b
      same false s ne z a b = one_new (op r) r m.machine w x y z (kept s) a b

      one : (same_side side r.old ≡ true → op r ≡ Op.Failover → r.start.forced ≡ true) → ReachPost r m.machine side w x y
      one ne =
          let (z, reach) = reach_made_post r m.machine side w x in
          subst (λ p. ReachPost r m.machine side w x p) (sym (same (same_side side r.old) refl ne z means (finish_post r machines gone rightly may m of_plan w x z side reach))) reach

      failed_over : same_side side r.old ≡ true → op r ≡ Op.Failover → r.start.forced ≡ false → ReachPost r m.machine side w x y
      failed_over s e f =
          let at_old : OldPostMeaning (op r) r.start.forced r m.machine x y = rw s at means in
          let unforced : OldPostMeaning Op.Failover false r m.machine x y = subst (λ (b : Bool). OldPostMeaning Op.Failover b r m.machine x y) f (subst (λ (o : Op). OldPostMeaning o r.start.forced r m.machine x y) e at_old) in
          subst (λ z. ReachPost r m.machine z w x y) (sym (is_old r machines gone rightly may m of_plan w x y side r.old true s)) (failover_old_reached m of_plan (single s e f) sequence w e f x y unforced)

      go : (b : Bool) (o : Op) (f : Bool) → same_side side r.old ≡ b → op r ≡ o → r.start.forced ≡ f → ReachPost r m.machine side w x y
      go true Op.Failover false s e f = failed_over s e f
      go true Op.Failover true s e f = one (λ t g. f)
      go true Op.Testing b s e f = one (λ t g. let wrong : Op.Testing ≡ Op.Failover = sym e ∙ g in absurd cc)
      go true Op.Cleanup b s e f = one (λ t g. let wrong : Op.Cleanup ≡ Op.Failover = sym e ∙ g in absurd cc)
      go true Op.Migrate b s e f = one (λ t g. let wrong : Op.Migrate ≡ Op.Failover = sym e ∙ g in absurd cc)
      go true Op.Reprotect b s e f = one (λ t g. let wrong : Op.Reprotect ≡ Op.Failover = sym e ∙ g in absurd cc)
      go false o b s e f = one (λ t g. let wrong : false ≡ true = sym s ∙ t in absurd cc)
