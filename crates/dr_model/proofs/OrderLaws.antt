-- Records of a run leave its machines in order.
use Rattle.std.specs.Prelude.{◌≡◌, ℕ, ◌+◌, ◌==◌, ◌⊎◌, Bool, true, false, ◌||◌, List, [], ◌∷◌, Option, Some, None, option_map, cond, map}
use Rattle.std.specs.List.{list_any}
use Rattle.std.proofs.Common.{refl, sym, ap, ◌∙◌, inl, inr, subst}
use Rattle.dr_meaning.specs.Types.{Callout, Step, PlanMachine, Record, Kept}
use Rattle.dr_meaning.specs.Worlds.{World}
use Rattle.dr_outside.specs.BySide.{at}
use Rattle.dr_meaning.specs.Runs.{Run, migration, number, op, new, holds, last_of_group, run_named, with_record, take_in}
use Rattle.dr_meaning.specs.Lawful.{is_answer, was_answered, is_answered}
use Rattle.dr_meaning.specs.StartUp.{is_started}
use Rattle.dr_meaning.specs.InOrder.{is_ready_at_new, is_aside, is_start_up, StepTaken, StepsTaken, MayRun, InOrder}
use Rattle.dr_meaning.proofs.Lists.{Each, each-map}
use Rattle.dr_model.proofs.TableLaws.{IsTable, start_take_in}
use Rattle.dr_model.proofs.ExpectedLaws.{holds-take_in}
use Rattle.dr_model.proofs.ChainLaws.{same_number}
use Rattle.dr_model.proofs.NumberLaws.{find-map}

pub or_right : (a b : Bool) → b ≡ true → a || b ≡ true
or_right true b e = refl
or_right false b e = e

pub or_either : (a b c d : Bool) → (a ≡ true → c ≡ true) → (b ≡ true → d ≡ true) → a || b ≡ true → c || d ≡ true
or_either true b c d f g h = rw (f refl) refl
or_either false b c d f g h = or_right c d (g h)

number_take_in : (item : Record) (q : Run) → number (take_in item q) ≡ number q
number_take_in item q = go (number q == run_named item)
  where
    go : (b : Bool) → number (cond b (record q { log = item ∷ q.log }) q) ≡ number q
    go true = refl
    go false = refl

module _ (item : Record) (world : World) (q : Run) where
  abbrev runner : List Kept
  runner = world.runner

  -- in the run with one more record
  answered-more : (n : ℕ) → is_answered q n ≡ true → is_answered (with_record q item) n ≡ true
  answered-more n h = or_either (list_any (is_answer n) q.log) (was_answered n (migration q)) (is_answer n item || list_any (is_answer n) q.log) _ (λ a. or_right (is_answer n item) _ a) (λ a. a) h

  steps-more : (priority k : ℕ) (steps : List Step) → StepsTaken runner q priority k steps → StepsTaken runner (with_record q item) priority k steps
  steps-more priority k [] h = tt
  steps-more priority k (step ∷ steps) h = (λ le. taken step.what (h.0 le), steps-more priority (k + 1) steps h.1)
    where
      taken : (what : Callout) → StepTaken runner q k what → StepTaken runner (with_record q item) k what
      taken (Callout.Command name) t = t
      taken (Callout.Prompt text) t = answered-more k t

  may_run-more : (m : PlanMachine) → MayRun world q m → MayRun world (with_record q item) m
  may_run-more m h = record {
    dependencies = h.dependencies;
    priorities = each-map _ _ (λ x f below. aside x (f below)) q.plan.machines h.priorities;
    commands = h.commands;
    steps = steps-more m.priority 1 q.plan.steps h.steps;
    serving = h.serving;
  }
    where
      aside : (x : PlanMachine) → (is_ready_at_new world q x.machine ≡ true) ⊎ (list_any (is_aside x.machine) q.log ≡ true) → (is_ready_at_new world q x.machine ≡ true) ⊎ (is_aside x.machine item || list_any (is_aside x.machine) q.log ≡ true)
      aside x (inl ready) = inl ready
      aside x (inr set) = inr (or_right (is_aside x.machine item) _ set)

-- A record of a run keeps all machines in order.
pub in_order-record : (world : World) (item : Record) (runs : List Run) → IsTable runs → InOrder world runs → InOrder world (map (take_in item) runs)
in_order-record world item runs table h g run last all_last up = go (last_of_group g runs) refl (sym (find-map (holds g) (take_in item) (holds-take_in g item) runs) ∙ last)
  where
    Ordered : Run → Type 0
    Ordered r = Each (λ m. is_started (at (new r) (world.post m.machine)) ≡ true → MayRun world r m) r.plan.machines

    back : (q : Run) (k : ℕ) → last_of_group g runs ≡ Some q → last_of_group k (map (take_in item) runs) ≡ Some (take_in item q) → last_of_group k runs ≡ Some q
    back q k own e = at_k (last_of_group k runs) refl (sym (find-map (holds k) (take_in item) (holds-take_in k item) runs) ∙ e)
      where
        at_k : (o : Option Run) → last_of_group k runs ≡ o → option_map (take_in item) o ≡ Some (take_in item q) → last_of_group k runs ≡ Some q
        at_k None is f = absurd cc
        at_k (Some p) is f =
            let same : take_in item p ≡ take_in item q = cc in
            let numbers : number p ≡ number q = sym (number_take_in item p) ∙ ap number same ∙ number_take_in item q in
            is ∙ ap Some (same_number runs p q table (holds k) (holds g) is own numbers)

    ordered : (q : Run) → last_of_group g runs ≡ Some q → Each (λ k. last_of_group k runs ≡ Some q) q.start.groups → is_start_up (op q) ≡ true → (b : Bool) → (number q == run_named item) ≡ b → Ordered (cond b (record q { log = item ∷ q.log }) q)
    ordered q own all_own up true e = each-map (λ m. is_started (at (new q) (world.post m.machine)) ≡ true → MayRun world q m) (λ m. is_started (at (new q) (world.post m.machine)) ≡ true → MayRun world (with_record q item) m) (λ m f running. may_run-more item world q m (f running)) q.plan.machines (h g q own all_own up)
    ordered q own all_own up false e = each-map (λ m. is_started (at (new q) (world.post m.machine)) ≡ true → MayRun world q m) (λ m. is_started (at (new q) (world.post m.machine)) ≡ true → MayRun world q m) (λ m f. f) q.plan.machines (h g q own all_own up)

    go : (o : Option Run) → last_of_group g runs ≡ o → option_map (take_in item) o ≡ Some run → Ordered run
    go None own e = absurd cc
    go (Some q) own e =
        let is : take_in item q ≡ run = cc in
        let all_q : Each (λ k. last_of_group k (map (take_in item) runs) ≡ Some (take_in item q)) (take_in item q).start.groups = subst (λ r. Each (λ k. last_of_group k (map (take_in item) runs) ≡ Some r) r.start.groups) (sym is) all_last in
        let all_groups : Each (λ k. last_of_group k (map (take_in item) runs) ≡ Some (take_in item q)) q.start.groups = subst (λ s. Each (λ k. last_of_group k (map (take_in item) runs) ≡ Some (take_in item q)) s.groups) (start_take_in item q) all_q in
        let all_own : Each (λ k. last_of_group k runs ≡ Some q) q.start.groups = each-map (λ k. last_of_group k (map (take_in item) runs) ≡ Some (take_in item q)) (λ k. last_of_group k runs ≡ Some q) (λ k f. back q k own f) q.start.groups all_groups in
        let up_q : is_start_up (op q) ≡ true = ap (λ s. is_start_up s.op) (sym (start_take_in item q)) ∙ ap (λ r. is_start_up (op r)) is ∙ up in
        subst Ordered is (ordered q own all_own up_q (number q == run_named item) refl)
