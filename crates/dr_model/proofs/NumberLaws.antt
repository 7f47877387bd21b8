-- How records change what is said of a pair's numbers.
use Rattle.std.specs.Prelude.{◌≡◌, ℕ, ◌≤◌, ◌==◌, ◌⊎◌, Bool, true, false, not, ◌&&◌, ◌||◌, List, [], ◌∷◌, Option, Some, None, IfSome, option_map, cond, find, map}
use Rattle.std.proofs.Common.{refl, sym, ap, ◌∙◌, inl, inr, subst}
use Rattle.std.proofs.lemmas.Bool.{eqb-true}
use Rattle.dr_meaning.specs.Types.{Op, Pair, Record}
use Rattle.dr_meaning.specs.declared.stage.StageKind.{StageKind}
use Rattle.dr_meaning.specs.declared.stage.Stage.{Stage}
use Rattle.dr_outside.specs.BySide.{at}
use Rattle.dr_base.specs.Lists.{has}
use Rattle.dr_meaning.specs.Stages.{stage_at}
use Rattle.dr_meaning.specs.Visits.{Visit, visits, mark_done, excuse, all}
use Rattle.dr_meaning.specs.Runs.{Run, number, op, stages_of, holds, last_of_group, run_at, run_named, with_record, take_in}
use Rattle.dr_meaning.specs.Meaning.{same_kind, is_of_kind}
use Rattle.dr_meaning.specs.Fits.{pair_row, is_recovery, is_visit_whole, is_done_whole, held, IsReplicatedTest, HoldsAll, IsSplitIn, FitsWrites, FitsNumbers, splits}
pub use Rattle.dr_meaning.specs.Backing.{ShowsDone}
use Rattle.dr_meaning.proofs.Lists.{each-find}
use Rattle.dr_model.proofs.LogLaws.{only_run}
use Rattle.dr_model.proofs.ReachLaws.{kind_at}
use Rattle.dr_model.proofs.ExpectedLaws.{Falls, holds-take_in}

-- What is done for all pairs, after one more record

abbrev pub NoMoreDone : Run → Record → Type 0
NoMoreDone run item = (kind : StageKind) → is_done_whole (with_record run item) kind ≡ true → is_done_whole run kind ≡ true

pub no_more-begin : (run : Run) (n stage : ℕ) → NoMoreDone run (Record.Begin n stage)
no_more-begin run n stage kind = go (is_of_kind kind (stage_at (stages_of run) stage))
  where
    rest : Option Visit
    rest = find (λ v. is_of_kind kind (stage_at (stages_of run) v.stage)) (visits run.log)

    go : (b : Bool) → is_visit_whole (cond b (Some (record { stage = stage; done = false; excused = [] })) (find (λ v. is_of_kind kind (stage_at (stages_of run) v.stage)) (visits run.log))) ≡ true → is_done_whole run kind ≡ true
    go true h = absurd cc
    go false h = h

less : (d e f : Bool) → d && not (e || f) ≡ true → d && not f ≡ true
less true true f h = absurd cc
less true false f h = h
less false e f h = absurd cc

whole-excuse : (test : Visit → Bool) (m : ℕ) (vs : List Visit) → ((v : Visit) → test (record v { excused = m ∷ v.excused }) ≡ test v) → is_visit_whole (find test (excuse m vs)) ≡ true → is_visit_whole (find test vs) ≡ true
whole-excuse test m [] same h = h
whole-excuse test m (v ∷ vs) same h = go (test v) (rw (same v) at h)
  where
    go : (b : Bool) → is_visit_whole (cond b (Some (record v { excused = m ∷ v.excused })) (find test vs)) ≡ true → is_visit_whole (cond b (Some v) (find test vs)) ≡ true
    go true h = less v.done (m == all) (has v.excused all) h
    go false h = h

pub no_more-skip : (run : Run) (n stage m : ℕ) → NoMoreDone run (Record.Skip n stage m)
no_more-skip run n stage m kind h = whole-excuse (λ v. is_of_kind kind (stage_at (stages_of run) v.stage)) m (visits run.log) (λ v. refl) h

pub no_more-aside : (run : Run) (n m by : ℕ) → NoMoreDone run (Record.Aside n m by)
no_more-aside run n m by kind h = whole-excuse (λ v. is_of_kind kind (stage_at (stages_of run) v.stage)) m (visits run.log) (λ v. refl) h

or_map : (a b c d : Bool) → (c ≡ true → a ≡ true) → (d ≡ true → b ≡ true) → c || d ≡ true → a || b ≡ true
or_map a b true d f g h = rw (f refl) refl
or_map true b false d f g h = refl
or_map false b false d f g h = g h

and_map : (a b c d : Bool) → (c ≡ true → a ≡ true) → (d ≡ true → b ≡ true) → c && d ≡ true → a && b ≡ true
and_map a b true d f g h = rw (f refl) (g h)
and_map a b false d f g h = absurd cc

-- a record after which no more is done
pub fits_writes-record : (k : ℕ) (pair : Pair) (run : Run) (item : Record) → NoMoreDone run item → FitsWrites k pair run → FitsWrites k pair (with_record run item)
fits_writes-record k pair run item no_more h = record {
  since_start = h.since_start;
  since_migration = h.since_migration;
  tested = λ e done. h.tested e (no_more StageKind.Sync done);
  replicated = λ e done. h.replicated e (or_map (is_done_whole run StageKind.Sync) _ (is_done_whole (with_record run item) StageKind.Sync) _ (no_more StageKind.Sync) (no_more StageKind.FinalSync) done);
  kept_all = λ e done. h.kept_all e (and_map (is_done_whole run StageKind.Prepare) _ (is_done_whole (with_record run item) StageKind.Prepare) _ (no_more StageKind.Prepare) (no_more StageKind.FinalSync) done);
  kept_all_before = h.kept_all_before;
  reversed = λ e done. h.reversed e (no_more StageKind.FinalSync done);
}

-- A Done

pub kind-same : (a b : StageKind) → same_kind a b ≡ true → a ≡ b
kind-same StageKind.Sync StageKind.Sync e = refl
kind-same StageKind.FinalSync StageKind.FinalSync e = refl
kind-same StageKind.TestStart StageKind.TestStart e = refl
kind-same StageKind.TestStop StageKind.TestStop e = refl
kind-same StageKind.Prepare StageKind.Prepare e = refl
kind-same StageKind.Split StageKind.Split e = refl
kind-same StageKind.Reverse StageKind.Reverse e = refl
kind-same StageKind.Start StageKind.Start e = refl
kind-same StageKind.Stop StageKind.Stop e = refl
kind-same StageKind.Clear StageKind.Clear e = refl
kind-same StageKind.Command StageKind.Command e = refl
kind-same StageKind.Prompt StageKind.Prompt e = refl
kind-same _ _ e = absurd cc

whole-done : (stages : List Stage) (kind : StageKind) (v : Visit) (vs : List Visit) → is_visit_whole (find (λ u. is_of_kind kind (stage_at stages u.stage)) (mark_done (v ∷ vs))) ≡ true → (is_visit_whole (find (λ u. is_of_kind kind (stage_at stages u.stage)) (v ∷ vs)) ≡ true) ⊎ (((stage_at stages v.stage).kind ≡ kind) × (has v.excused all ≡ false))
whole-done stages kind v vs = go (same_kind (stage_at stages v.stage).kind kind) refl
  where
    is_false : (b : Bool) → not b ≡ true → b ≡ false
    is_false true e = absurd cc
    is_false false e = refl

    go : (b : Bool) → same_kind (stage_at stages v.stage).kind kind ≡ b → is_visit_whole (cond b (Some (record v { done = true })) (find (λ u. is_of_kind kind (stage_at stages u.stage)) vs)) ≡ true → (is_visit_whole (cond b (Some v) (find (λ u. is_of_kind kind (stage_at stages u.stage)) vs)) ≡ true) ⊎ (((stage_at stages v.stage).kind ≡ kind) × (has v.excused all ≡ false))
    go true e h = inr (kind-same _ kind e, is_false (has v.excused all) h)
    go false e h = inl h

module _ (k : ℕ) (pair : Pair) (run : Run) (n stage : ℕ) (v : Visit) (vs : List Visit) (begun : visits run.log ≡ v ∷ vs) where
  after : Run
  after = with_record run (Record.Done n stage)

  -- what is done now was done before, or is this stage
  done_now : (kind : StageKind) → is_done_whole (with_record run (Record.Done n stage)) kind ≡ true → (is_done_whole run kind ≡ true) ⊎ ((kind_at run v.stage ≡ kind) × (has v.excused all ≡ false))
  done_now kind h = rw begun (whole-done (stages_of run) kind v vs (rw begun at h))

  pub fits_writes-done : (has v.excused all ≡ false → ShowsDone k pair run (kind_at run v.stage)) → FitsWrites k pair run → FitsWrites k pair (with_record run (Record.Done n stage))
  fits_writes-done shows h = record {
    since_start = h.since_start;
    since_migration = h.since_migration;
    tested = λ e done. tested e (done_now StageKind.Sync done);
    replicated = λ e done. replicated e (either _ _ done);
    kept_all = λ e done. kept_all e (done_now StageKind.Prepare (first _ _ done)) (done_now StageKind.FinalSync (second _ _ done));
    kept_all_before = h.kept_all_before;
    reversed = λ e done. reversed e (done_now StageKind.FinalSync done);
  }
    where
      Now : StageKind → Type 0
      Now kind = (is_done_whole run kind ≡ true) ⊎ ((kind_at run v.stage ≡ kind) × (has v.excused all ≡ false))

      first : (a b : Bool) → a && b ≡ true → a ≡ true
      first true b e = refl
      first false b e = absurd cc

      second : (a b : Bool) → a && b ≡ true → b ≡ true
      second true b e = e
      second false b e = absurd cc

      either : (a b : Bool) → a || b ≡ true → (a ≡ true) ⊎ (b ≡ true)
      either true b e = inl refl
      either false b e = inr e

      or_right : (a b : Bool) → b ≡ true → a || b ≡ true
      or_right true b e = refl
      or_right false b e = e

      tested : op run ≡ Op.Testing → Now StageKind.Sync → IfSome (pair_row k run.start) (IsReplicatedTest (number run) run.old pair)
      tested e (inl done) = h.tested e done
      tested e (inr (kind, whole)) = (shows whole).tested e kind

      final : is_recovery (op run) ≡ true → Now StageKind.FinalSync → IfSome (pair_row k run.start) (λ row. row.seen ≡ true → row.old_writes ≤ held run.old pair)
      final e (inl done) = h.replicated e (or_right (is_done_whole run StageKind.Sync) _ done)
      final e (inr (kind, whole)) = (shows whole).replicated e (inr kind)

      sync : is_recovery (op run) ≡ true → Now StageKind.Sync → IfSome (pair_row k run.start) (λ row. row.seen ≡ true → row.old_writes ≤ held run.old pair)
      sync e (inl done) = h.replicated e (rw done refl)
      sync e (inr (kind, whole)) = (shows whole).replicated e (inl kind)

      replicated : is_recovery (op run) ≡ true → (is_done_whole (with_record run (Record.Done n stage)) StageKind.Sync ≡ true) ⊎ (is_done_whole (with_record run (Record.Done n stage)) StageKind.FinalSync ≡ true) → IfSome (pair_row k run.start) (λ row. row.seen ≡ true → row.old_writes ≤ held run.old pair)
      replicated e (inl done) = sync e (done_now StageKind.Sync done)
      replicated e (inr done) = final e (done_now StageKind.FinalSync done)

      kept_all : is_recovery (op run) ≡ true → Now StageKind.Prepare → Now StageKind.FinalSync → HoldsAll run.old pair
      kept_all e (inl prepared) (inl synced) = h.kept_all e (rw (prepared, synced) refl)
      kept_all e (inl prepared) (inr (kind, whole)) = (shows whole).kept_all e (inl (kind, prepared))
      kept_all e (inr (kind, whole)) (inl synced) = (shows whole).kept_all e (inr (kind, synced))
      kept_all e (inr (kind, whole)) (inr (other, _)) = absurd (let wrong : StageKind.Prepare ≡ StageKind.FinalSync = sym kind ∙ other in cc)

      reversed : op run ≡ Op.Reprotect → Now StageKind.FinalSync → IfSome (pair_row k run.start) (λ row. row.new_writes ≤ (at run.old pair.content).writes)
      reversed e (inl done) = h.reversed e done
      reversed e (inr (kind, whole)) = (shows whole).reversed e kind

-- In the table of runs

-- a change of runs that keeps the test changes what is found
pub find-map : {X : Type 0} (p : X → Bool) (f : X → X) → ((x : X) → p (f x) ≡ p x) → (xs : List X) → find p (map f xs) ≡ option_map f (find p xs)
find-map p f same [] = refl
find-map p f same (x ∷ xs) = rw (same x) (go (p x) (find-map p f same xs))
  where
    go : (b : Bool) → find p (map f xs) ≡ option_map f (find p xs) → cond b (Some (f x)) (find p (map f xs)) ≡ option_map f (cond b (Some x) (find p xs))
    go true e = refl
    go false e = e

pub if_some-map : {X : Type 0} (P Q : X → Type 0) (f : X → X) (o : Option X) → ((x : X) → o ≡ Some x → P x → Q (f x)) → IfSome o P → IfSome (option_map f o) Q
if_some-map P Q f None g h = tt
if_some-map P Q f (Some x) g h = g x refl h

splits-take_in : (g : ℕ) (item : Record) (r : Run) → splits g (take_in item r) ≡ splits g r
splits-take_in g item r = go (number r == run_named item)
  where
    go : (b : Bool) → splits g (cond b (record r { log = item ∷ r.log }) r) ≡ splits g r
    go true = refl
    go false = refl

split-take_in : (k : ℕ) (pair : Pair) (item : Record) (r : Run) → IsSplitIn k pair r → IsSplitIn k pair (take_in item r)
split-take_in k pair item r h = go (number r == run_named item)
  where
    go : (b : Bool) → IsSplitIn k pair (cond b (record r { log = item ∷ r.log }) r)
    go true = h
    go false = h

-- a record of a run keeps the numbers of every pair, if it keeps what that run says of them
pub numbers-record : (runs : List Run) (r : Run) (item : Record) (g k : ℕ) (pair : Pair) → Falls runs → run_at (run_named item) runs ≡ Some r → (last_of_group g runs ≡ Some r → FitsWrites k pair r → FitsWrites k pair (with_record r item)) → FitsNumbers runs g k pair → FitsNumbers (map (take_in item) runs) g k pair
numbers-record runs r item g k pair falls at_n keeps h = record {
  live = h.live;
  split = λ e. rw (find-map (splits g) (take_in item) (splits-take_in g item) runs) (if_some-map (IsSplitIn k pair) (IsSplitIn k pair) (take_in item) (find (splits g) runs) (λ q f s. split-take_in k pair item q s) (h.split e));
  writes = rw (find-map (holds g) (take_in item) (holds-take_in g item) runs) (if_some-map (FitsWrites k pair) (FitsWrites k pair) (take_in item) (last_of_group g runs) last (h.writes));
}
  where
    last : (q : Run) → last_of_group g runs ≡ Some q → FitsWrites k pair q → FitsWrites k pair (take_in item q)
    last q found w = go (number q == run_named item) refl
      where
        go : (b : Bool) → (number q == run_named item) ≡ b → FitsWrites k pair (cond b (record q { log = item ∷ q.log }) q)
        go true own =
            let is : q ≡ r = each-find (λ p. number p ≡ run_named item → p ≡ r) (holds g) runs q (only_run (run_named item) runs r falls at_n) found (eqb-true (number q) (run_named item) own) in
            let at_r : FitsWrites k pair (with_record r item) = keeps (found ∙ ap Some is) (subst (FitsWrites k pair) is w) in
            subst (λ p. FitsWrites k pair (with_record p item)) (sym is) at_r
        go false own = w

-- each record but a Start and a Done
pub numbers-fewer : (runs : List Run) (r : Run) (item : Record) (g k : ℕ) (pair : Pair) → Falls runs → run_at (run_named item) runs ≡ Some r → NoMoreDone r item → FitsNumbers runs g k pair → FitsNumbers (map (take_in item) runs) g k pair
numbers-fewer runs r item g k pair falls at_n no_more = numbers-record runs r item g k pair falls at_n (λ last. fits_writes-record k pair r item no_more)

abbrev pub IsQuiet : Record → Type 0
IsQuiet (Record.Estate bytes) = ⊥
IsQuiet (Record.Start row) = ⊥
IsQuiet (Record.Done n stage) = ⊥
IsQuiet _ = Unit {0}

pub no_more-quiet : (run : Run) (item : Record) → IsQuiet item → NoMoreDone run item
no_more-quiet run (Record.Begin n stage) quiet = no_more-begin run n stage
no_more-quiet run (Record.Skip n stage m) quiet = no_more-skip run n stage m
no_more-quiet run (Record.Aside n m by) quiet = no_more-aside run n m by
no_more-quiet run (Record.Attempt n moment) quiet = λ kind h. h
no_more-quiet run (Record.Answer n step text) quiet = λ kind h. h
no_more-quiet run (Record.Code n token m code) quiet = λ kind h. h
no_more-quiet run (Record.Finish n moment ms) quiet = λ kind h. h
no_more-quiet run (Record.Estate bytes) quiet = elim quiet [ ]
no_more-quiet run (Record.Start row) quiet = elim quiet [ ]
no_more-quiet run (Record.Done n stage) quiet = elim quiet [ ]

-- a Done, once the pair shows what its stage is to show, or all pairs are skipped
pub numbers-done : (runs : List Run) (r : Run) (stage : ℕ) (v : Visit) (vs : List Visit) (g k : ℕ) (pair : Pair) → Falls runs → run_at (number r) runs ≡ Some r → visits r.log ≡ v ∷ vs → (last_of_group g runs ≡ Some r → has v.excused all ≡ false → ShowsDone k pair r (kind_at r v.stage)) → FitsNumbers runs g k pair → FitsNumbers (map (take_in (Record.Done (number r) stage)) runs) g k pair
numbers-done runs r stage v vs g k pair falls at_n begun shows =
    numbers-record runs r (Record.Done (number r) stage) g k pair falls at_n (λ last. fits_writes-done k pair r (number r) stage v vs begun (shows last))
