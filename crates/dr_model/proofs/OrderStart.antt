-- A lawful Start keeps all machines in order: a run that takes over none finds no machine running at its new side.
use Rattle.std.specs.Prelude.{◌≡◌, ◌≢◌, ℕ, ◌+◌, ◌*◌, ◌^◌, ◌<◌, ◌==◌, ◌⊎◌, Bool, true, false, ◌&&◌, ◌||◌, List, [], ◌∷◌, Option, Some, None, IsTrue, option_map, cond, find, filter, map, fold, slice_get, take}
use Rattle.std.specs.List.{list_any}
use Rattle.std.proofs.Common.{refl, sym, ap, ◌∙◌, inl, inr, subst, arith}
use Rattle.std.proofs.lemmas.Bool.{eq-eqb, eqb-true, ne_eqb}
use Rattle.dr_meaning.proofs.Elements.{pick}
use Rattle.dr_meaning.specs.Types.{Side, Op, Link, Pair, Post, Callout, Step, PlanMachine, Plan, StartRow, Record, GroupState, Phase}
use Rattle.dr_meaning.specs.Worlds.{World}
use Rattle.dr_base.specs.Sides.{other, same_side}
use Rattle.dr_outside.specs.BySide.{at}
use Rattle.dr_base.specs.Lists.{has}
use Rattle.dr_meaning.specs.Runs.{is_open, group_state, Setting, Run, number, op, new, root, migration_of, holds, last_of_group, run_at, run_named, with_record, take_over, as_taken, add_record}
use Rattle.dr_meaning.specs.Lawful.{StartsFrom, MayStart, MayCome, LawfulAfter, takes_over, is_taken_over, is_answer, was_answered, is_answered, tokens_from}
use Rattle.dr_meaning.specs.StartUp.{is_started}
use Rattle.dr_meaning.specs.InOrder.{IsPairOfMachine, is_ready, is_ready_at_new, is_aside, is_start_up, has_code, IsServing, StepTaken, StepsTaken, MayRun, InOrder}
use Rattle.dr_meaning.proofs.Lists.{Each, each-map, each-find, find-passes, find-filter}
use Rattle.dr_model.proofs.TableLaws.{start_take_over}
use Rattle.dr_meaning.specs.Expected.{ExpectedPost}
use Rattle.dr_meaning.specs.Phases.{IsAtRest, PostAtRest}
use Rattle.dr_model.proofs.StageLaws.{IsMachineOf}
use Rattle.dr_model.proofs.WholeMigrate.{side_of_other}
use Rattle.dr_model.proofs.PhaseLaws.{StartsAt}
use Rattle.dr_model.proofs.PostLaws.{post-rest}
use Rattle.dr_model.proofs.EachRun.{each-lawful}
use Rattle.dr_model.proofs.PostPhase.{migrate_of}
use Rattle.dr_model.proofs.NumberLaws.{find-map}
use Rattle.dr_model.proofs.NumberStart.{same_old, at_over, took_facts}
use Rattle.dr_model.proofs.ChainLaws.{over_none, HeadFree, open_if, old_fresh, starts_fresh, group_state-filter, and_right, IsWellKept, HasPlan, fresh_run, over_groups, positive, same_number, holds-take_over, taken, over_is_last}

-- Only a failover has Asides
pub record HasNoAsides (r : Run) : Type 0 where
  pub none : op r ≢ Op.Failover → (m : ℕ) → list_any (is_aside m) r.log ≡ false

asides-record : (setting : Setting) (runs : List Run) (r : Run) (item : Record) → MayCome setting runs item → run_at (run_named item) runs ≡ Some r → HasNoAsides r → HasNoAsides (with_record r item)
asides-record setting runs r (Record.Estate bytes) may at_n h = elim may [ ]
asides-record setting runs r (Record.Aside n m by) may at_n h =
    let (stage, aside) = (rw at_n at may).1 in
    record { none = λ ne k. absurd (ne aside.failover) }
asides-record setting runs r (Record.Start row) may at_n h = record { none = h.none }
asides-record setting runs r (Record.Attempt n moment) may at_n h = record { none = h.none }
asides-record setting runs r (Record.Begin n stage) may at_n h = record { none = h.none }
asides-record setting runs r (Record.Done n stage) may at_n h = record { none = h.none }
asides-record setting runs r (Record.Skip n stage m) may at_n h = record { none = h.none }
asides-record setting runs r (Record.Answer n step text) may at_n h = record { none = h.none }
asides-record setting runs r (Record.Code n token m code) may at_n h = record { none = h.none }
asides-record setting runs r (Record.Finish n moment ms) may at_n h = record { none = h.none }

pub asides-lawful : (setting : Setting) (records : List Record) → LawfulAfter setting [] records → Each HasNoAsides (fold (add_record setting) [] records)
asides-lawful setting records lawful = each-lawful setting HasNoAsides (λ r n h. record { none = h.none }) (λ runs row plan may. record { none = λ ne m. refl }) (asides-record setting) [] records lawful tt tt

or_false : (b : Bool) → b || false ≡ true → b ≡ true
or_false true h = refl
or_false false h = absurd cc

each_has : (groups : List ℕ) → Each (λ k. has groups k ≡ true) groups
each_has [] = tt
each_has (x ∷ groups) = (rw (eq-eqb x x refl) refl, each-map (λ k. has groups k ≡ true) (λ k. has (x ∷ groups) k ≡ true) (λ k h. or_true (x == k) _ h) groups (each_has groups))
  where
    or_true : (a b : Bool) → b ≡ true → a || b ≡ true
    or_true true b e = refl
    or_true false b e = e

pub start_up_takes : (o oq : Op) → takes_over o oq ≡ true → is_start_up o ≡ true → (o ≡ Op.Failover) × (oq ≡ Op.Migrate)
start_up_takes Op.Failover oq takes e = (refl, migrate_of oq takes)
start_up_takes Op.Testing oq takes e = absurd cc
start_up_takes Op.Cleanup oq takes e = absurd cc
start_up_takes Op.Migrate oq takes e = absurd cc
start_up_takes Op.Reprotect oq takes e = absurd cc

-- What may run in a migration may run in the failover that takes it over

module _ (w : World) (q f : Run) (migrates : op q ≡ Op.Migrate) (fails : op f ≡ Op.Failover) (same_old_side : q.old ≡ f.old) (same_plan : q.plan ≡ f.plan) (same_root : root q ≡ root f) (same_estate : q.estate ≡ f.estate) (took : f.took ≡ Some (as_taken q)) (fresh : f.log ≡ []) (no_asides : HasNoAsides q) where
  answered_over : (n : ℕ) → is_answered q n ≡ true → is_answered f n ≡ true
  answered_over n h =
      let own : list_any (is_answer n) q.log ≡ true = or_false _ (sym (ap (λ o. list_any (is_answer n) q.log || was_answered n (migration_of o q.took)) migrates) ∙ h) in
      let by_f : is_answered f n ≡ list_any (is_answer n) q.log =
      ap (λ l. list_any (is_answer n) l || was_answered n (migration_of (op f) f.took)) fresh
      ∙ ap (λ o. was_answered n (migration_of o f.took)) fails
      ∙ ap (λ t. was_answered n t) took in
      by_f ∙ own

  steps_over : (priority k : ℕ) (steps : List Step) → StepsTaken w.runner q priority k steps → StepsTaken w.runner f priority k steps
  steps_over priority k [] h = tt
  steps_over priority k (step ∷ steps) h = (λ le. taken_over step.what (h.0 le), steps_over priority (k + 1) steps h.1)
    where
      taken_over : (what : Callout) → StepTaken w.runner q k what → StepTaken w.runner f k what
      taken_over (Callout.Command name) t = ap (λ n. has_code w.runner (n * 2 ^ 32 + k)) (sym same_root) ∙ t
      taken_over (Callout.Prompt text) t = answered_over k t

  ready_over : (m : ℕ) → is_ready_at_new w q m ≡ true → is_ready_at_new w f m ≡ true
  ready_over m h = ap (λ s. is_ready (at (other s) (w.post m))) (sym same_old_side) ∙ h

  serving_over : (p : Pair) → IsServing (op q) (number q) p → IsServing (op f) (number f) p
  serving_over p h =
      let split : IsServing Op.Migrate (number q) p = subst (λ o. IsServing o (number q) p) migrates h in
      subst (λ o. IsServing o (number f) p) (sym fails) split

  may_run_over : (m : PlanMachine) → MayRun w q m → MayRun w f m
  may_run_over m h = record {
    dependencies = each-map (λ d. IsTrue (is_ready_at_new w q d)) (λ d. IsTrue (is_ready_at_new w f d)) ready_over m.after h.dependencies;
    priorities = subst (λ p. Each (λ x. x.priority < m.priority → (is_ready_at_new w f x.machine ≡ true) ⊎ (list_any (is_aside x.machine) f.log ≡ true)) p.machines) same_plan
        (each-map (λ x. x.priority < m.priority → (is_ready_at_new w q x.machine ≡ true) ⊎ (list_any (is_aside x.machine) q.log ≡ true)) (λ x. x.priority < m.priority → (is_ready_at_new w f x.machine ≡ true) ⊎ (list_any (is_aside x.machine) f.log ≡ true)) (λ x g below. ready x (g below)) q.plan.machines h.priorities);
    commands = subst (λ ts. Each (λ t. IsTrue (has_code (w.kept m.machine) t)) ts) (ap (λ n. tokens_from n 0 (take 2 m.commands)) same_root) h.commands;
    steps = subst (λ p. StepsTaken w.runner f m.priority 1 p.steps) same_plan (steps_over m.priority 1 q.plan.steps h.steps);
    serving = λ p on. serving_over (w.pair p) (h.serving p (subst (λ e. IsPairOfMachine e m.machine p) (sym same_estate) on));
  }
    where
      ready : (x : PlanMachine) → (is_ready_at_new w q x.machine ≡ true) ⊎ (list_any (is_aside x.machine) q.log ≡ true) → (is_ready_at_new w f x.machine ≡ true) ⊎ (list_any (is_aside x.machine) f.log ≡ true)
      ready x (inl r) = inl (ready_over x.machine r)
      ready x (inr a) = absurd (let none : list_any (is_aside x.machine) q.log ≡ false = no_asides.none (λ e. let wrong : Op.Migrate ≡ Op.Failover = sym migrates ∙ e in absurd cc) x.machine in let wrong : true ≡ false = sym a ∙ none in cc)

  ordered_over : Each (λ m. is_started (at (new q) (w.post m.machine)) ≡ true → MayRun w q m) q.plan.machines → Each (λ m. is_started (at (new f) (w.post m.machine)) ≡ true → MayRun w f m) f.plan.machines
  ordered_over h =
      subst (λ p. Each (λ m. is_started (at (new f) (w.post m.machine)) ≡ true → MayRun w f m) p.machines) same_plan
      (each-map (λ m. is_started (at (new q) (w.post m.machine)) ≡ true → MayRun w q m) (λ m. is_started (at (new f) (w.post m.machine)) ≡ true → MayRun w f m)
      (λ m g running. may_run_over m (g (ap (λ s. is_started (at (other s) (w.post m.machine))) same_old_side ∙ running))) q.plan.machines h)

-- The Start

abbrev pub any_pair : Pair
any_pair =
    record {
      source = Side.A;
      link = Link.Live;
      writable = record { a = true; b = false };
      content = record { a = record { line = 0; base = 0; writes = 0 }; b = record { line = 0; base = 0; writes = 0 } };
      snapshot = None;
    }

module _ (setting : Setting) (runs : List Run) (well : IsWellKept setting runs) (row : StartRow) (plan : Plan) (may : MayStart setting runs row plan) (at_plan : slice_get setting.plans row.plan ≡ Some plan) (no_asides : Each HasNoAsides runs) (w : World) (h : InOrder w runs) where
  abbrev fresh : Run
  fresh = fresh_run setting runs row plan

  -- no machine of the plan runs at the new side of a start-up that takes over no run
  abbrev pub IsIdle : Type 0
  IsIdle = row.over ≡ 0 → is_start_up row.op ≡ true → Each (λ m. is_started (at (new fresh) (w.post m.machine)) ≡ false) plan.machines

  abbrev Ordered : Run → Type 0
  Ordered r = Each (λ m. is_started (at (new r) (w.post m.machine)) ≡ true → MayRun w r m) r.plan.machines

  plan_is : (q : Run) → find (is_taken_over row) runs ≡ Some q → q.plan ≡ plan
  plan_is q f =
      let passes : is_open q && takes_over row.op (op q) && (q.start.plan == row.plan) ≡ true = find-passes (is_taken_over row) runs q f in
      let number_same : q.start.plan ≡ row.plan = eqb-true _ _ (and_right (is_open q && takes_over row.op (op q)) _ passes) in
      let own : HasPlan setting q = each-find (HasPlan setting) (is_taken_over row) runs q well.plans f in
      let same : Some q.plan ≡ Some plan = sym own.plan ∙ ap (λ k. slice_get setting.plans k) number_same ∙ at_plan in
      cc

  estate_is : (q : Run) → find (is_taken_over row) runs ≡ Some q → q.estate ≡ setting.estate
  estate_is q f = let own : HasPlan setting q = each-find (HasPlan setting) (is_taken_over row) runs q well.plans f in own.estate

  -- the fresh run
  fresh_ordered : IsIdle → (g : ℕ) → has row.groups g ≡ true → is_start_up row.op ≡ true → (row.over ≡ 0) ⊎ ((q : Run) × (find (is_taken_over row) runs ≡ Some q) × (row.over ≡ number q)) → Ordered fresh
  fresh_ordered idle g held up (inl none) =
      each-map (λ m. is_started (at (new fresh) (w.post m.machine)) ≡ false) (λ m. is_started (at (new fresh) (w.post m.machine)) ≡ true → MayRun w fresh m)
      (λ m off running. absurd (let wrong : true ≡ false = sym running ∙ off in cc)) plan.machines (idle none up)
  fresh_ordered idle g held up (inr (q, f, over)) =
      let takes = took_facts setting runs row plan g may well.table well.plans at_plan held (well.groups g) 0 any_pair q f in
      let (fails, migrates) = start_up_takes row.op (op q) takes up in
      let at_q : run_at row.over runs ≡ Some q = at_over setting runs row plan g may well.table well.plans at_plan held (well.groups g) 0 any_pair q f over in
      let above : 0 < number q = each-find (λ r. 0 < number r) (is_taken_over row) runs q (positive runs well.table) f in
      let roots : root q ≡ root fresh = rw (migrates, fails, over, ne_eqb (number q) 0 (λ same. omega arith)) refl in
      let groups : q.start.groups ≡ row.groups = over_groups setting runs row plan may well.plans at_plan q f in
      let all_last : Each (λ k. last_of_group k runs ≡ Some q) q.start.groups =
      subst (λ gs. Each (λ k. last_of_group k runs ≡ Some q) gs) (sym groups)
      (each-map (λ k. has row.groups k ≡ true) (λ k. last_of_group k runs ≡ Some q) (λ k its. over_is_last setting runs row plan k may well.table well.plans at_plan its (well.groups k) q f) row.groups (each_has row.groups)) in
      ordered_over w q fresh migrates fails (same_old setting runs row plan g may well.table well.plans at_plan held (well.groups g) 0 any_pair q f) (plan_is q f) roots (estate_is q f) (ap (option_map as_taken) at_q) refl
      (each-find HasNoAsides (is_taken_over row) runs q no_asides f)
      (h g q (over_is_last setting runs row plan g may well.table well.plans at_plan held (well.groups g) q f) all_last (rw migrates refl))

  -- an earlier run
  by_ordered : (q : Run) (n : ℕ) → Ordered q → Ordered (record q { by = n })
  by_ordered q n o =
      each-map (λ m. is_started (at (new q) (w.post m.machine)) ≡ true → MayRun w q m) (λ m. is_started (at (new q) (w.post m.machine)) ≡ true → MayRun w (record q { by = n }) m)
      (λ m f running. let r = f running in record { dependencies = r.dependencies; priorities = r.priorities; commands = r.commands; steps = steps m.priority 1 q.plan.steps r.steps; serving = r.serving }) q.plan.machines o
    where
      taken_by : (k : ℕ) (what : Callout) → StepTaken w.runner q k what → StepTaken w.runner (record q { by = n }) k what
      taken_by k (Callout.Command name) t = t
      taken_by k (Callout.Prompt text) t = t

      steps : (priority k : ℕ) (ss : List Step) → StepsTaken w.runner q priority k ss → StepsTaken w.runner (record q { by = n }) priority k ss
      steps priority k [] s = tt
      steps priority k (step ∷ ss) s = (λ le. taken_by k step.what (s.0 le), steps priority (k + 1) ss s.1)

  over_ordered : (q : Run) → Ordered q → Ordered (take_over row q)
  over_ordered q o = go ((number q == row.over) && (q.by == 0))
    where
      go : (b : Bool) → Ordered (cond b (record q { by = row.run }) q)
      go true = by_ordered q row.run o
      go false = o

  -- A lawful Start keeps all machines in order.
  pub in_order-start : IsIdle → InOrder w (fresh_run setting runs row plan ∷ map (take_over row) runs)
  in_order-start idle g run last all_last up = go (has row.groups g) refl
    where
      earlier : has row.groups g ≡ false → (o : Option Run) → last_of_group g runs ≡ o → option_map (take_over row) o ≡ Some run → Ordered run
      earlier none None own e = absurd cc
      earlier none (Some q) own e =
          let is : take_over row q ≡ run = cc in
          let same : (take_over row q).start ≡ q.start = start_take_over row q in
          let all_q : Each (λ k. last_of_group k (fresh_run setting runs row plan ∷ map (take_over row) runs) ≡ Some (take_over row q)) (take_over row q).start.groups = subst (λ r. Each (λ k. last_of_group k (fresh_run setting runs row plan ∷ map (take_over row) runs) ≡ Some r) r.start.groups) (sym is) all_last in
          let all_groups = subst (λ s. Each (λ k. last_of_group k (fresh_run setting runs row plan ∷ map (take_over row) runs) ≡ Some (take_over row q)) s.groups) same all_q in
          let up_q : is_start_up (op q) ≡ true = ap (λ s. is_start_up s.op) (sym same) ∙ ap (λ r. is_start_up (op r)) is ∙ up in
          subst Ordered is (over_ordered q (h g q own (each-map (λ k. last_of_group k (fresh_run setting runs row plan ∷ map (take_over row) runs) ≡ Some (take_over row q)) (λ k. last_of_group k runs ≡ Some q) (λ k x. back k (has row.groups k) refl x) q.start.groups all_groups) up_q))
        where
          at_k : (k : ℕ) (o : Option Run) → last_of_group k runs ≡ o → option_map (take_over row) o ≡ Some (take_over row q) → last_of_group k runs ≡ Some q
          at_k k None is f = absurd cc
          at_k k (Some p) is f =
              let same : take_over row p ≡ take_over row q = cc in
              let numbers : number p ≡ number q = ap (λ s. s.run) (sym (start_take_over row p)) ∙ ap number same ∙ ap (λ s. s.run) (start_take_over row q) in
              is ∙ ap Some (same_number runs p q well.table (holds k) (holds g) is own numbers)

          back : (k : ℕ) (b : Bool) → has row.groups k ≡ b → last_of_group k (fresh_run setting runs row plan ∷ map (take_over row) runs) ≡ Some (take_over row q) → last_of_group k runs ≡ Some q
          back k true its e =
              let same : Some (fresh_run setting runs row plan) ≡ Some (take_over row q) = rw its at e in
              let is : fresh_run setting runs row plan ≡ take_over row q = cc in
              let rows : row ≡ q.start = ap (λ r. r.start) is ∙ start_take_over row q in
              let holds_it : has q.start.groups g ≡ true = find-passes (holds g) runs q own in
              absurd (let wrong : true ≡ false = sym holds_it ∙ sym (ap (λ s. has s.groups g) rows) ∙ none in cc)
          back k false its e = at_k k (last_of_group k runs) refl (rw (its, find-map (holds k) (take_over row) (holds-take_over k row) runs) at e)

      go : (b : Bool) → has row.groups g ≡ b → Ordered run
      go true held =
          let same : Some (fresh_run setting runs row plan) ≡ Some run = rw held at last in
          let is : fresh_run setting runs row plan ≡ run = cc in
          subst Ordered is (fresh_ordered idle g held (ap (λ r. is_start_up (op r)) is ∙ up) (taken row runs (find (is_taken_over row) runs) refl may.over))
      go false none = earlier none (last_of_group g runs) refl (rw (none, find-map (holds g) (take_over row) (holds-take_over g row) runs) at last)

  -- where each machine of the plan is of a group of it and stands as expected, none runs there
  ready_phase : (o : Op) (n : ℕ) (state : GroupState) → is_start_up o ≡ true → StartsFrom o n state → state.phase ≡ Phase.Ready
  ready_phase Op.Testing n state e from = from
  ready_phase Op.Migrate n state e from = from
  ready_phase Op.Failover n state e from = from
  ready_phase Op.Cleanup n state e from = absurd cc
  ready_phase Op.Reprotect n state e from = absurd cc

  module _ (g : ℕ) (held : has row.groups g ≡ true) (none : row.over ≡ 0) (up : is_start_up row.op ≡ true) where
    at_rest : (hs : List Run) → filter (holds g) runs ≡ hs → StartsAt setting.estate g fresh hs → HeadFree hs → IsAtRest hs
    at_rest [] shape from free = tt
    at_rest (q ∷ rest) shape (inl (fin, from)) free = fin
    at_rest (q ∷ rest) shape (inr (going, takes)) free =
        let last : last_of_group g runs ≡ Some q = find-filter (holds g) runs q rest shape in
        let clear = each-find (λ run. is_open run ≡ true → number run ≢ row.over → Each (λ k. holds k run ≡ false) row.groups) (holds g) runs q may.free last in
        let above : 0 < number q = each-find (λ run. 0 < number run) (holds g) runs q (positive runs well.table) last in
        let clear_g : holds g q ≡ false = pick (λ k. holds k q ≡ false) row.groups g (clear (open_if q going free) (λ same. omega arith)) held in
        absurd (let wrong : false ≡ true = sym clear_g ∙ find-passes (holds g) runs q last in cc)

    -- a post at the new side is a Placeholder
    pub none_there : (m : ℕ) (y : Post) → ExpectedPost setting.estate g m (new fresh) runs y → y ≡ Post.Placeholder
    none_there m y expected =
        let rest : IsAtRest (filter (holds g) runs) = at_rest (filter (holds g) runs) refl (starts_fresh setting runs row plan g may well.table well.plans at_plan held (well.groups g) (filter (holds g) runs) refl) (well.groups g).free in
        let at_state : PostAtRest m (filter (holds g) runs) (new fresh) (group_state setting.estate g runs) y = post-rest setting runs well g m (new fresh) y rest expected in
        let phase : (group_state setting.estate g runs).phase ≡ Phase.Ready = ready_phase row.op row.plan (group_state setting.estate g runs) up (pick (λ k. StartsFrom row.op row.plan (group_state setting.estate k runs)) row.groups g (may.phases (over_none row.op row.over none)) held) in
        let old : fresh.old ≡ (group_state setting.estate g runs).protected = old_fresh setting runs row plan g may well.table well.plans at_plan held (well.groups g) ∙ ap (λ state. state.protected) (group_state-filter setting.estate g runs) in
        let away : same_side (new fresh) (group_state setting.estate g runs).protected ≡ false = ap (same_side (new fresh)) (sym old) ∙ side_of_other fresh.old in
        rw (phase, away) at at_state

  pub idle_if : ((m : PlanMachine) → IsMachineOf plan m → (g : ℕ) × (has row.groups g ≡ true) × ExpectedPost setting.estate g m.machine (new fresh) runs (at (new fresh) (w.post m.machine))) → Each (IsMachineOf plan) plan.machines → IsIdle
  idle_if stands machines none up =
      each-map (IsMachineOf plan) (λ m. is_started (at (new fresh) (w.post m.machine)) ≡ false)
      (λ m of_plan. let (g, held, expected) = stands m of_plan in ap is_started (none_there g held none up m.machine _ expected)) plan.machines machines
