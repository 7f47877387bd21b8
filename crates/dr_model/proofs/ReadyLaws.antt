-- A done Start stage leaves each of its machines Ready at the new side, or with an Aside.
use Rattle.std.specs.Prelude.{◌≡◌, ℕ, ◌<◌, ◌≤◌, ◌==◌, ◌⊎◌, Bool, true, false, List, [], ◌∷◌, Option, Some, None, find, fold}
use Rattle.std.specs.List.{list_any}
use Rattle.std.proofs.Common.{refl, sym, ap, ◌∙◌, inl, inr, arith}
use Rattle.std.proofs.lemmas.Bool.{ne_eqb, eqb-true}
use Rattle.dr_meaning.specs.Types.{Placed, Post, Record}
use Rattle.dr_meaning.specs.declared.stage.StageKind.{StageKind}
use Rattle.dr_meaning.specs.declared.stage.Stage.{Stage}
use Rattle.dr_base.specs.Lists.{has}
use Rattle.dr_meaning.specs.Stages.{stage_at}
use Rattle.dr_meaning.specs.Visits.{Visit, visits, mark_done, excuse, open_stage, is_visit_done, is_done}
use Rattle.dr_meaning.specs.Runs.{Setting, Run, op, new, stages_of, run_at, run_named, with_record, add_record}
use Rattle.dr_meaning.specs.Outcomes.{PostOutcome}
use Rattle.dr_meaning.specs.Reach.{works, PostStep, ReachPost, stage_of}
use Rattle.dr_meaning.specs.Lawful.{MaySkipIn, MayCome, LawfulAfter}
use Rattle.dr_meaning.specs.InOrder.{is_start_up, is_ready, is_aside}
use Rattle.dr_meaning.proofs.Lists.{Each, each-map, all_each, each-find, find-passes}
use Rattle.dr_model.proofs.StageLaws.{stage_from-each, each-start_up_op}
use Rattle.dr_model.proofs.ThroughLaws.{Holds, Makes, through_from, some_of-find}
use Rattle.dr_model.proofs.WholeTest.{same_side_itself}
use Rattle.dr_model.proofs.WholeMigrate.{side_of_other}
use Rattle.dr_model.proofs.PostPhase.{StageHolds, post_step-holds, callout_works, elsewhere}
use Rattle.dr_model.proofs.ExcuseLaws.{begun_head}
use Rattle.dr_model.proofs.EachRun.{each-lawful}
use Rattle.dr_model.proofs.OrderLaws.{or_right, or_either}
use Rattle.dr_model.proofs.SequenceLaws.{Visits_at, IsInSequence, done_if_visited}

-- A machine that is excused in a Start stage has an Aside

abbrev pub Told : ℕ → List Stage → List Record → List Visit → Type 0
Told m stages log vs = Each (λ v. (stage_at stages v.stage).kind ≡ StageKind.Start → has v.excused m ≡ true → list_any (is_aside m) log ≡ true) vs

pub record TellsAsides (r : Run) : Type 0 where
  pub told : (m : ℕ) → Told m (stages_of r) r.log (visits r.log)

told_more : (m : ℕ) (stages : List Stage) (log : List Record) (item : Record) (vs : List Visit) → Told m stages log vs → Told m stages (item ∷ log) vs
told_more m stages log item vs h = each-map (λ v. (stage_at stages v.stage).kind ≡ StageKind.Start → has v.excused m ≡ true → list_any (is_aside m) log ≡ true) (λ v. (stage_at stages v.stage).kind ≡ StageKind.Start → has v.excused m ≡ true → list_any (is_aside m) (item ∷ log) ≡ true) (λ v t kind excused. or_right (is_aside m item) _ (t kind excused)) vs h

told_mark : (m : ℕ) (stages : List Stage) (log : List Record) (vs : List Visit) → Told m stages log vs → Told m stages log (mark_done vs)
told_mark m stages log [] h = h
told_mark m stages log (v ∷ vs) h = h

abbrev stage_of_first : List Visit → ℕ
stage_of_first [] = 0
stage_of_first (v ∷ vs) = v.stage

-- a Skip, in a stage that starts no machines
told_skip : (m k stage : ℕ) (stages : List Stage) (log : List Record) (vs : List Visit) → open_stage vs ≡ Some stage → ((stage_at stages stage).kind ≡ StageKind.Start → ⊥) → Told m stages log vs → Told m stages log (excuse k vs)
told_skip m k stage stages log [] e ne h = h
told_skip m k stage stages log (v ∷ vs) e ne h =
    let (u, rest, same, is, d) = begun_head (v ∷ vs) stage e in
    let at_v : v.stage ≡ u.stage = ap (λ (l : List Visit). stage_of_first l) same in
    (λ kind excused. absurd (ne (sym (ap (λ n. (stage_at stages n).kind) (at_v ∙ is)) ∙ kind)), h.1)

-- an Aside, which tells itself
told_aside : (m k n by : ℕ) (stages : List Stage) (log : List Record) (vs : List Visit) → Told m stages log vs → Told m stages (Record.Aside n k by ∷ log) (excuse k vs)
told_aside m k n by stages log [] h = h
told_aside m k n by stages log (v ∷ vs) h = (
  λ kind excused. or_either (k == m) (has v.excused m) (k == m) (list_any (is_aside m) log) (λ e. e) (h.0 kind) excused,
  told_more m stages log (Record.Aside n k by) vs h.1,
)

skip_no_start : (kind : StageKind) (ms : List ℕ) (m : ℕ) → MaySkipIn kind ms m → kind ≡ StageKind.Start → ⊥
skip_no_start kind ms m may e = let bad : MaySkipIn StageKind.Start ms m = rw e at may in bad

tells-record : (setting : Setting) (runs : List Run) (r : Run) (item : Record) → MayCome setting runs item → run_at (run_named item) runs ≡ Some r → TellsAsides r → TellsAsides (with_record r item)
tells-record setting runs r (Record.Estate bytes) may at_n h = elim may [ ]
tells-record setting runs r (Record.Begin n j) may at_n h = record { told = λ m. (λ kind excused. absurd cc, h.told m) }
tells-record setting runs r (Record.Done n j) may at_n h = record { told = λ m. told_mark m (stages_of r) r.log (visits r.log) (h.told m) }
tells-record setting runs r (Record.Skip n j k) may at_n h =
    let skip = (rw at_n at may).1 in
    record { told = λ m. told_skip m k j (stages_of r) r.log (visits r.log) skip.begun (skip_no_start _ _ k skip.place) (h.told m) }
tells-record setting runs r (Record.Aside n k by) may at_n h = record { told = λ m. told_aside m k n by (stages_of r) r.log (visits r.log) (h.told m) }
tells-record setting runs r (Record.Start row) may at_n h = record { told = h.told }
tells-record setting runs r (Record.Attempt n moment) may at_n h = record { told = h.told }
tells-record setting runs r (Record.Answer n step text) may at_n h = record { told = h.told }
tells-record setting runs r (Record.Code n token m code) may at_n h = record { told = h.told }
tells-record setting runs r (Record.Finish n moment ms) may at_n h = record { told = h.told }

pub tells-lawful : (setting : Setting) (records : List Record) → LawfulAfter setting [] records → Each TellsAsides (fold (add_record setting) [] records)
tells-lawful setting records lawful =
    each-lawful setting TellsAsides (λ r n h. record { told = h.told }) (λ runs row plan may. record { told = λ m. tt }) (tells-record setting) [] records lawful tt tt

-- A done Start stage

start_keeps_ready : (w : Placed) (x y : Post) → is_ready x ≡ true → PostOutcome StageKind.Start w x y → is_ready y ≡ true
start_keeps_ready w x y h (inl made) = rw made refl
start_keeps_ready w (Post.Ready p) y h (inr left) = elim left [ ]
start_keeps_ready w Post.Placeholder y h (inr left) = absurd cc
start_keeps_ready w (Post.Off p) y h (inr left) = absurd cc
start_keeps_ready w (Post.On p) y h (inr left) = absurd cc

module _ (run : Run) (m : ℕ) (w : Placed) (up : is_start_up (op run) ≡ true) where
  abbrev pub IsReady : Post → Type 0
  IsReady y = is_ready y ≡ true

  pub ready_holds : Each (StageHolds run m (new run) w IsReady) (stages_of run)
  ready_holds =
      each-start_up_op (StageHolds run m (new run) w IsReady) run.plan (op run) run.start.forced up
      (λ s c t x y p o. absurd (callout_works run m w (new run) s c t))
      (λ s k t x y p o. start_keeps_ready w x y p (rw k at o))
      (λ s k t x y p o. absurd (elsewhere run m w (new run) s (rw k (side_of_other run.old)) t))
      (λ kind t x y p o. absurd cc)

  pub ready_or_aside : TellsAsides run → (i : ℕ) → is_done run.log i ≡ true → (stage_at (stages_of run) i).kind ≡ StageKind.Start → has (stage_at (stages_of run) i).machines m ≡ true → (x y : Post) → ReachPost run m (new run) w x y → (is_ready y ≡ true) ⊎ (list_any (is_aside m) run.log ≡ true)
  ready_or_aside tells i done kind listed x y reach = go (find (λ v. v.stage == i) (visits run.log)) refl done
    where
      of_visit : (v : Visit) → find (λ v. v.stage == i) (visits run.log) ≡ Some v → v.done ≡ true → v.stage ≡ i → (b : Bool) → has v.excused m ≡ b → (is_ready y ≡ true) ⊎ (list_any (is_aside m) run.log ≡ true)
      of_visit v found d at_i true excused =
          inr (each-find (λ v. (stage_at (stages_of run) v.stage).kind ≡ StageKind.Start → has v.excused m ≡ true → list_any (is_aside m) run.log ≡ true) (λ v. v.stage == i) (visits run.log) v (tells.told m) found (rw at_i kind) excused)
      of_visit v found d at_i false none =
          inl (through_from (PostStep run m (new run) w) IsReady (visits run.log)
          (some_of-find (Makes (PostStep run m (new run) w) IsReady) (λ v. v.stage == i) (visits run.log) v found (makes v d at_i none))
          (all_each (Holds (PostStep run m (new run) w) IsReady) (λ u x y step p. post_step-holds run m (new run) w IsReady u (stage_from-each (StageHolds run m (new run) w IsReady) 1 (stages_of run) u.stage (λ t x y p o. absurd cc) ready_holds) x y step p) (visits run.log))
          x y reach)
        where
          makes : (v : Visit) → v.done ≡ true → v.stage ≡ i → has v.excused m ≡ false → Makes (PostStep run m (new run) w) IsReady v
          makes v d at_i none x y step =
              let its_kind : (stage_of run v).kind ≡ StageKind.Start = ap (λ n. (stage_at (stages_of run) n).kind) at_i ∙ kind in
              let its_machine : has (stage_of run v).machines m ≡ true = ap (λ n. has (stage_at (stages_of run) n).machines m) at_i ∙ listed in
              let worked : works run (stage_of run v) m (new run) ≡ true = rw (its_machine, its_kind) (same_side_itself (new run)) in
              let made : y ≡ Post.Ready w = rw (worked, d, none, its_kind) at step in
              rw made refl

      go : (o : Option Visit) → find (λ v. v.stage == i) (visits run.log) ≡ o → is_visit_done o ≡ true → (is_ready y ≡ true) ⊎ (list_any (is_aside m) run.log ≡ true)
      go None found d = absurd cc
      go (Some v) found d = of_visit v found d (eqb-true v.stage i (find-passes (λ v. v.stage == i) (visits run.log) v found)) (has v.excused m) refl

-- below a begun stage all stages are done
pub below_done : (run : Run) (v : Visit) (earlier : List Visit) → visits run.log ≡ v ∷ earlier → IsInSequence run → (i : ℕ) → 1 ≤ i → i < v.stage → is_done run.log i ≡ true
below_done run v earlier shape s i above below = rw shape (rw (ne_eqb v.stage i (λ same. omega arith)) (done_if_visited i earlier before (later filled)))
  where
    before : Each (λ u. u.done ≡ true) earlier
    before = let b = s.gone.before in rw shape at b

    filled : Visits_at i (v ∷ earlier)
    filled = let f = s.filled in (rw shape at f).0 i above below

    later : Visits_at i (v ∷ earlier) → Visits_at i earlier
    later (inl same) = absurd (omega arith)
    later (inr l) = l
