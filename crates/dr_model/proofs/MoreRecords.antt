-- When a record comes, its run goes on: what new records touch, and which commands have begun, only grows.
use Rattle.std.specs.Prelude.{◌≡◌, ℕ, zero, suc, ◌==◌, Bool, true, false, ◌&&◌, ◌||◌, not, List, [], ◌∷◌, ◌++◌, Contains, Option, Some, None, cond, map, fold, slice_get}
use Rattle.std.specs.List.{list_any, list_all}
use Rattle.std.proofs.Common.{refl, sym, ap, ◌∙◌, inl, inr, subst, arith}
use Rattle.std.proofs.lemmas.Bool.{eq-eqb, eqb-true}
use Rattle.std.proofs.lemmas.List.{append_assoc, append-nil, map-id}
use Rattle.std.proofs.lemmas.List.Folds.{list_any-append}
use Rattle.std.proofs.lemmas.List.Elements.{Contains-append_right}
use Rattle.dr_base.specs.Lists.{has}
use Rattle.dr_base.specs.Sides.{other}
use Rattle.dr_outside.specs.BySide.{at}
use Rattle.dr_meaning.specs.Types.{Side, Op, Plan, GroupState, Kept, StartRow, Estate, Record}
use Rattle.dr_meaning.specs.declared.stage.Stage.{Stage}
use Rattle.dr_meaning.specs.Worlds.{World}
use Rattle.dr_meaning.specs.Stages.{stages}
use Rattle.dr_meaning.specs.Runs.{Setting, Run, TakenOver, number, op, holds, is_finish, is_finished, finish, group_state, run_named, take_in, take_over, begin_run, add_record, root_number, migration_of}
use Rattle.dr_meaning.specs.Lawful.{machine_in_plan, token_of}
use Rattle.dr_meaning.specs.Changes.{is_of_run, has_new, is_touched, is_test, is_only_tested, begins, TakenBegan, HasBegun, all_commands_of, IsMachineCommand, IsCommandStep, IsStepCommand, is_reprotect, ChangesWorld}
use Rattle.dr_meaning.proofs.Lists.{Each, all_each}
use Rattle.dr_model.proofs.TableLaws.{start_take_in}
use Rattle.dr_model.proofs.ChainLaws.{fresh_run}
use Rattle.dr_model.proofs.GrowsOn.{grows_map}

-- A run goes on --------------------------------------------------------------------------------------------------

-- a run with more records in its log, or taken over
pub record GoesOn (old new : Run) : Type 0 where
  pub start : new.start ≡ old.start
  pub plan : new.plan ≡ old.plan
  pub old_side : new.old ≡ old.old
  pub took : new.took ≡ old.took
  pub log : (k : ℕ) → list_any (begins k) old.log ≡ true → list_any (begins k) new.log ≡ true

same_on : (r : Run) → GoesOn r r
same_on r = record { start = refl; plan = refl; old_side = refl; took = refl; log = λ k h. h }

pub or_right : (a b : Bool) → b ≡ true → a || b ≡ true
or_right true b e = refl
or_right false b e = e

pub take_in_on : (item : Record) (r : Run) → GoesOn r (take_in item r)
take_in_on item r = go (number r == run_named item)
  where
    go : (b : Bool) → GoesOn r (cond b (record r { log = item ∷ r.log }) r)
    go true = record { start = refl; plan = refl; old_side = refl; took = refl; log = λ k h. or_right (begins k item) _ h }
    go false = same_on r

pub take_over_on : (row : StartRow) (r : Run) → GoesOn r (take_over row r)
take_over_on row r = go ((number r == row.over) && (r.by == 0))
  where
    go : (b : Bool) → GoesOn r (cond b (record r { by = row.run }) r)
    go true = record { start = refl; plan = refl; old_side = refl; took = refl; log = λ k h. h }
    go false = same_on r

-- the runs after a record: those before it, each of which goes on, and perhaps a new one
pub record Later (runs later : List Run) : Type 0 where
  pub front : List Run
  pub step : Run → Run
  pub goes_on : (r : Run) → GoesOn r (step r)
  pub are : later ≡ front ++ map step runs

same_later : (runs : List Run) → Later runs runs
same_later runs = record { front = []; step = λ r. r; goes_on = same_on; are = sym (map-id runs) }

take_in_later : (item : Record) (runs : List Run) → Later runs (map (take_in item) runs)
take_in_later item runs = record { front = []; step = take_in item; goes_on = take_in_on item; are = refl }

begin_later : (setting : Setting) (row : StartRow) (o : Option Plan) (runs : List Run) → Later runs (begin_run setting row o runs)
begin_later setting row None runs = same_later runs
begin_later setting row (Some plan) runs = record { front = _ ∷ []; step = take_over row; goes_on = take_over_on row; are = refl }

pub added_later : (setting : Setting) (runs : List Run) (item : Record) → Later runs (add_record setting runs item)
added_later setting runs (Record.Estate bytes) = same_later runs
added_later setting runs (Record.Start row) = begin_later setting row (slice_get setting.plans row.plan) runs
added_later setting runs item = take_in_later item runs

-- What new records touch ---------------------------------------------------------------------------------------------

pub or_false : (a b : Bool) → a || b ≡ false → (a ≡ false) × (b ≡ false)
or_false true b e = absurd cc
or_false false b e = (refl, e)

and_falls : (a b c : Bool) → (b ≡ false → c ≡ false) → a && b ≡ false → a && c ≡ false
and_falls true b c f e = f e
and_falls false b c f e = refl

any_falls-front : (q : Run → Bool) (front runs : List Run) → list_any q (front ++ runs) ≡ false → list_any q runs ≡ false
any_falls-front q front runs e = (or_false (list_any q front) (list_any q runs) (sym (list_any-append q front runs) ∙ e)).1

any_falls-map : (p q : Run → Bool) (step : Run → Run) → ((r : Run) → q (step r) ≡ false → p r ≡ false) → (runs : List Run) → list_any q (map step runs) ≡ false → list_any p runs ≡ false
any_falls-map p q step f [] e = refl
any_falls-map p q step f (r ∷ runs) e = let both = or_false (q (step r)) _ e in rw (f r both.0) (any_falls-map p q step f runs both.1)

-- of fewer records none is of the run, where of all none is
abbrev pub HasAmong : (fewer all : List Record) → Type 0
HasAmong fewer all = (n : ℕ) → list_any (is_of_run n) all ≡ false → list_any (is_of_run n) fewer ≡ false

pub among_left : (xs ys : List Record) → HasAmong xs (xs ++ ys)
among_left xs ys n e = (or_false (list_any (is_of_run n) xs) _ (sym (list_any-append (is_of_run n) xs ys) ∙ e)).0

pub among_right : (xs ys : List Record) → HasAmong ys (xs ++ ys)
among_right xs ys n e = (or_false (list_any (is_of_run n) xs) _ (sym (list_any-append (is_of_run n) xs ys) ∙ e)).1

-- whether a run is a test or a cleanup, or has none of these records, or doesn't hold the group
abbrev tested_by : ℕ → List Record → StartRow → Bool
tested_by g records s = not (has s.groups g && list_any (is_of_run s.run) records) || is_test s.op

and_both : (a b : Bool) → a && b ≡ true → (a ≡ true) × (b ≡ true)
and_both true b e = (refl, e)
and_both false b e = absurd cc

module _ (fewer all : List Record) (among : HasAmong fewer all) (runs later : List Run) (on : Later runs later) (g : ℕ) where
  new_of : (r : Run) → has_new g all (on.step r) ≡ false → has_new g fewer r ≡ false
  new_of r e = and_falls (holds g r) (list_any (is_of_run (number r)) all) (list_any (is_of_run (number r)) fewer) (among (number r)) (subst (λ (s : StartRow). has s.groups g && list_any (is_of_run s.run) all ≡ false) (on.goes_on r).start e)

  pub touched_falls : is_touched g all later ≡ false → is_touched g fewer runs ≡ false
  touched_falls e = any_falls-map (has_new g fewer) (has_new g all) on.step new_of runs (any_falls-front (has_new g all) on.front (map on.step runs) (rw on.are at e))

  rises : (b c t : Bool) → (b ≡ false → c ≡ false) → not b || t ≡ true → not c || t ≡ true
  rises true true t f e = e
  rises true false t f e = refl
  rises false true t f e = absurd (let wrong : true ≡ false = f refl in cc)
  rises false false t f e = refl

  tested_of : (r : Run) → tested_by g all (on.step r).start ≡ true → tested_by g fewer r.start ≡ true
  tested_of r e =
      rises (has_new g all r) (has_new g fewer r) (is_test (op r))
      (and_falls (holds g r) (list_any (is_of_run (number r)) all) (list_any (is_of_run (number r)) fewer) (among (number r)))
      (subst (λ (s : StartRow). tested_by g all s ≡ true) (on.goes_on r).start e)

  all-front : (front rest : List Run) → list_all (λ run. tested_by g all run.start) (front ++ rest) ≡ true → list_all (λ run. tested_by g all run.start) rest ≡ true
  all-front [] rest e = e
  all-front (r ∷ front) rest e = all-front front rest (and_both (tested_by g all r.start) _ e).1

  all-map : (rest : List Run) → list_all (λ run. tested_by g all run.start) (map on.step rest) ≡ true → list_all (λ run. tested_by g fewer run.start) rest ≡ true
  all-map [] e = refl
  all-map (r ∷ rest) e = let both = and_both (tested_by g all (on.step r).start) _ e in rw (tested_of r both.0) (all-map rest both.1)

  pub only_tested_rises : is_only_tested g all later ≡ true → is_only_tested g fewer runs ≡ true
  only_tested_rises e = all-map runs (all-front on.front (map on.step runs) (rw on.are at e))

-- Commands ---------------------------------------------------------------------------------------------------------------

contains-map : (f : Run → Run) (runs : List Run) (r : Run) → Contains runs r → Contains (map f runs) (f r)
contains-map f [] r (k, l, e) = absurd (omega arith)
contains-map f (q ∷ runs) r (zero, l, e) = (0, omega arith, ap f e)
contains-map f (q ∷ runs) r (suc k, l, e) = let later = contains-map f runs r (k, omega arith, e) in (suc later.0, omega (arith, later.1), later.2)

module _ (runs later : List Run) (on : Later runs later) where
  listed_later : (r : Run) → Contains runs r → Contains later (on.step r)
  listed_later r c = rw on.are (Contains-append_right on.front (map on.step runs) (on.step r) (contains-map on.step runs r c))

  begun_later : (r : Run) (Is : Stage → Type 0) → HasBegun r Is → HasBegun (on.step r) Is
  begun_later r Is (inl (k, b, is)) =
      let its = on.goes_on r in
      let same : stages (on.step r).plan (on.step r).start.op (on.step r).start.forced ≡ stages r.plan r.start.op r.start.forced = λ i. stages (its.plan i) (its.start i).op (its.start i).forced in
      inl (k, its.log k b, rw same is)
  begun_later r Is (inr t) =
      let its = on.goes_on r in
      let same : migration_of (on.step r).start.op (on.step r).took ≡ migration_of r.start.op r.took = λ i. migration_of (its.start i).op (its.took i) in
      inr (subst (λ (o : Option TakenOver). TakenBegan o Is) (sym same) t)

  same_root : (r : Run) (index : ℕ) → token_of (root_number (on.step r).start.op (on.step r).start) index ≡ token_of (root_number r.start.op r.start) index
  same_root r index = ap (λ (s : StartRow). token_of (root_number s.op s) index) (on.goes_on r).start

  pub machine_command_later : (m : ℕ) (kept : Kept) → IsMachineCommand runs m kept → IsMachineCommand later m kept
  machine_command_later m kept c =
      let its = on.goes_on c.run in
      record {
        run = on.step c.run;
        listed = listed_later c.run c.listed;
        index = c.index;
        command = ap (λ (p : Plan). slice_get (all_commands_of (machine_in_plan p m)) c.index) its.plan ∙ c.command;
        token = c.token ∙ sym (same_root c.run c.index);
        side = c.side ∙ sym (ap (λ (s : Side). Some (other s)) its.old_side);
        begun = begun_later c.run _ c.begun;
      }

  pub step_command_later : (kept : Kept) → IsStepCommand runs kept → IsStepCommand later kept
  step_command_later kept c =
      let its = on.goes_on c.run in
      record {
        run = on.step c.run;
        listed = listed_later c.run c.listed;
        number = c.number;
        command = subst (λ (p : Plan). IsCommandStep p.steps c.number kept.name) (sym its.plan) c.command;
        token = c.token ∙ sym (same_root c.run c.number);
        side = c.side;
        begun = begun_later c.run _ c.begun;
      }

-- The protected side -----------------------------------------------------------------------------------------------------

-- whether a run has turned the group's protected side
abbrev pub turns : ℕ → Run → Bool
turns g run = holds g run && (is_finished run && is_reprotect (op run))

abbrev turned : Bool → Side → Side
turned b side = cond b (other side) side

side_step : (h f : Bool) (o : Op) (plan : ℕ) (state : GroupState) → (cond (h && f) (finish o plan state) state).protected ≡ turned (h && (f && is_reprotect o)) state.protected
side_step false f o plan state = refl
side_step true false o plan state = refl
side_step true true Op.Testing plan state = refl
side_step true true Op.Cleanup plan state = refl
side_step true true Op.Migrate plan state = refl
side_step true true Op.Failover plan state = refl
side_step true true Op.Reprotect plan state = refl

module _ (estate : Estate) (g : ℕ) where
  abbrev pub side_after : List Run → Side
  side_after runs = (group_state estate g runs).protected

  side_of_run : (r : Run) (earlier : List Run) → side_after (r ∷ earlier) ≡ turned (turns g r) (side_after earlier)
  side_of_run r earlier = side_step (holds g r) (is_finished r) (op r) r.start.plan (group_state estate g earlier)

  pub side-map : (step : Run → Run) (runs : List Run) → Each (λ r. turns g (step r) ≡ turns g r) runs → side_after (map step runs) ≡ side_after runs
  side-map step [] h = refl
  side-map step (r ∷ runs) h = side_of_run (step r) (map step runs) ∙ (λ i. turned (h.0 i) (side-map step runs h.1 i)) ∙ sym (side_of_run r runs)

  turns_open : (item : Record) → is_finish item ≡ false → (r : Run) → turns g (take_in item r) ≡ turns g r
  turns_open item e r = go (number r == run_named item)
    where
      go : (b : Bool) → turns g (cond b (record r { log = item ∷ r.log }) r) ≡ turns g r
      go true = ap (λ (f : Bool). holds g r && ((f || is_finished r) && is_reprotect (op r))) e
      go false = refl

  turns_over : (row : StartRow) (r : Run) → turns g (take_over row r) ≡ turns g r
  turns_over row r = go ((number r == row.over) && (r.by == 0))
    where
      go : (b : Bool) → turns g (cond b (record r { by = row.run }) r) ≡ turns g r
      go true = refl
      go false = refl

  no_reprotect : (o : Op) → is_test o ≡ true → is_reprotect o ≡ false
  no_reprotect Op.Testing e = refl
  no_reprotect Op.Cleanup e = refl
  no_reprotect Op.Migrate e = absurd cc
  no_reprotect Op.Failover e = absurd cc
  no_reprotect Op.Reprotect e = absurd cc

  -- a run that is finished with others of tests and cleanups turns no side
  turns_finish : (more : List Record) (n moment : ℕ) (ms : List ℕ) (r : Run) → tested_by g (more ++ Record.Finish n moment ms ∷ []) r.start ≡ true → turns g (take_in (Record.Finish n moment ms) r) ≡ turns g r
  turns_finish more n moment ms r tested = go (number r == n) refl
    where
      has_it : number r ≡ n → list_any (is_of_run (number r)) (more ++ Record.Finish n moment ms ∷ []) ≡ true
      has_it own = list_any-append (is_of_run (number r)) more (Record.Finish n moment ms ∷ []) ∙ or_right (list_any (is_of_run (number r)) more) _ (rw (eq-eqb n (number r) (sym own)) refl)

      by_op : (h l t : Bool) → l ≡ true → (t ≡ true → is_reprotect (op r) ≡ false) → not (h && l) || t ≡ true → h && (true && is_reprotect (op r)) ≡ h && (is_finished r && is_reprotect (op r))
      by_op false l t e f is = refl
      by_op true l t e f is = let test : t ≡ true = rw e at is in rw (f test) (sym (none (is_finished r)))
        where
          none : (b : Bool) → b && false ≡ false
          none true = refl
          none false = refl

      go : (b : Bool) → (number r == n) ≡ b → turns g (cond b (record r { log = Record.Finish n moment ms ∷ r.log }) r) ≡ turns g r
      go true own = by_op (holds g r) _ (is_test (op r)) (has_it (eqb-true (number r) n own)) (no_reprotect (op r)) tested
      go false own = refl

  each_finish : (more : List Record) (n moment : ℕ) (ms : List ℕ) (runs : List Run) → is_only_tested g (more ++ Record.Finish n moment ms ∷ []) (map (take_in (Record.Finish n moment ms)) runs) ≡ true → Each (λ r. turns g (take_in (Record.Finish n moment ms) r) ≡ turns g r) runs
  each_finish more n moment ms [] e = tt
  each_finish more n moment ms (r ∷ runs) e =
      let item : Record = Record.Finish n moment ms in
      let both = and_both (tested_by g (more ++ Record.Finish n moment ms ∷ []) (take_in (Record.Finish n moment ms) r).start) _ e in
      (turns_finish more n moment ms r (subst (λ (s : StartRow). tested_by g (more ++ Record.Finish n moment ms ∷ []) s ≡ true) (start_take_in (Record.Finish n moment ms) r) both.0), each_finish more n moment ms runs both.1)

  side_begun : (setting : Setting) (row : StartRow) (o : Option Plan) (runs : List Run) → side_after (begin_run setting row o runs) ≡ side_after runs
  side_begun setting row None runs = refl
  side_begun setting row (Some plan) runs =
      side_of_run (fresh_run setting runs row plan) (map (take_over row) runs) ∙ ap (λ b. turned b (side_after (map (take_over row) runs))) (none (has row.groups g)) ∙ side-map (take_over row) runs (all_each (λ r. turns g (take_over row r) ≡ turns g r) (turns_over row) runs)
    where
      none : (b : Bool) → b && false ≡ false
      none true = refl
      none false = refl

  -- a record that finishes nothing, or only tests and cleanups, turns no side
  pub side_stays : (setting : Setting) (runs : List Run) (item : Record) → is_finish item ≡ false → side_after (add_record setting runs item) ≡ side_after runs
  side_stays setting runs (Record.Estate bytes) e = refl
  side_stays setting runs (Record.Start row) e = side_begun setting row (slice_get setting.plans row.plan) runs
  side_stays setting runs (Record.Finish n moment ms) e = absurd cc
  side_stays setting runs item e = side-map (take_in item) runs (all_each (λ r. turns g (take_in item r) ≡ turns g r) (turns_open item e) runs)

  tested_side : (setting : Setting) (runs : List Run) (more : List Record) (item : Record) → is_only_tested g (more ++ item ∷ []) (add_record setting runs item) ≡ true → side_after (add_record setting runs item) ≡ side_after runs
  tested_side setting runs more (Record.Finish n moment ms) e = side-map (take_in (Record.Finish n moment ms)) runs (each_finish more n moment ms runs e)
  tested_side setting runs more item e = side_stays setting runs item refl

-- All that changes -----------------------------------------------------------------------------------------------------

-- what changed by fewer records, and by runs that went on since, changed by all
pub changes_later : (setting : Setting) (runs later : List Run) (fewer all : List Record) (a b : World) → HasAmong fewer all → Later runs later → ((g : ℕ) → is_only_tested g all later ≡ true → side_after setting.estate g later ≡ side_after setting.estate g runs) → ChangesWorld setting runs fewer a b → ChangesWorld setting later all a b
changes_later setting runs later fewer all a b among on side c = record {
  idle_pairs = λ p idle. c.idle_pairs p (λ g of_group. touched_falls fewer all among runs later on g (idle g of_group));
  idle_posts = λ m idle. c.idle_posts m (λ g of_group. touched_falls fewer all among runs later on g (idle g of_group));
  tested_pairs = λ g p of_group there tested. c.tested_pairs g p of_group there (only_tested_rises fewer all among runs later on g tested);
  tested_posts = λ g m of_group tested.
      subst (λ (s : Side). at s (b.post m) ≡ at s (a.post m)) (sym (side g tested))
      (c.tested_posts g m of_group (only_tested_rises fewer all among runs later on g tested));
  pair_count = c.pair_count;
  machine_count = c.machine_count;
  kept = λ m. grows_map (IsMachineCommand runs m) (IsMachineCommand later m) (machine_command_later runs later on m) (a.kept m) (b.kept m) (c.kept m);
  runner = grows_map (IsStepCommand runs) (IsStepCommand later) (step_command_later runs later on) a.runner b.runner c.runner;
}

-- what changed by some records changed by more
pub changes_among : (setting : Setting) (runs : List Run) (fewer all : List Record) (a b : World) → HasAmong fewer all → ChangesWorld setting runs fewer a b → ChangesWorld setting runs all a b
changes_among setting runs fewer all a b among c = changes_later setting runs runs fewer all a b among (same_later runs) (λ g e. refl) c

-- what changed while records came goes on to be so when more come
pub changes_record : (setting : Setting) (runs : List Run) (more : List Record) (item : Record) (a b : World) → ChangesWorld setting runs more a b → ChangesWorld setting (add_record setting runs item) (more ++ item ∷ []) a b
changes_record setting runs more item a b c = changes_later setting runs (add_record setting runs item) more (more ++ item ∷ []) a b (among_left more (item ∷ [])) (added_later setting runs item) (λ g. tested_side setting.estate g setting runs more item) c

pub changes_records : (setting : Setting) (runs : List Run) (more items : List Record) (a b : World) → ChangesWorld setting runs more a b → ChangesWorld setting (fold (add_record setting) runs items) (more ++ items) a b
changes_records setting runs more [] a b c = subst (λ l. ChangesWorld setting runs l a b) (sym (append-nil more)) c
changes_records setting runs more (item ∷ rest) a b c =
    subst (λ l. ChangesWorld setting (fold (add_record setting) (add_record setting runs item) rest) l a b) (append_assoc more (item ∷ []) rest)
    (changes_records setting (add_record setting runs item) (more ++ item ∷ []) rest a b (changes_record setting runs more item a b c))
