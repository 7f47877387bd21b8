-- Which stages an operation has.
use Rattle.std.specs.Prelude.{◌≡◌, ℕ, zero, suc, ◌+◌, ◌<◌, ◌≤◌, ◌==◌, ◌⊎◌, Bool, true, false, ◌&&◌, ◌||◌, not, cond, map, flat_map, filter, List, [], ◌∷◌, ◌++◌, Some, None, if◌then◌else◌}
use Rattle.std.specs.List.{range_with_len}
use Rattle.std.proofs.Common.{refl, sym, ap, ◌∙◌, inl, inr, arith}
use Rattle.std.proofs.lemmas.Bool.{cases_eq, eq-eqb, ne_eqb}
use Rattle.dr_meaning.specs.Types.{Op, Callout, Step, PlanMachine, Plan, Wave, Record}
use Rattle.dr_meaning.specs.declared.stage.StageKind.{StageKind}
use Rattle.dr_meaning.specs.declared.stage.Stage.{Stage}
use Rattle.dr_plan.specs.Waves.{above, machines_at, wave_of, wave_at, waves_at, waves_of, priorities}
use Rattle.dr_base.specs.Lists.{has}
use Rattle.dr_meaning.specs.Stages.{stages, array_stage, recovery, step_stage, wave_stage, steps_before, start_priority, start_up, wind_down, no_stage, stage_from}
use Rattle.dr_meaning.specs.Visits.{is_done}
use Rattle.dr_meaning.specs.InOrder.{is_start_up}
use Rattle.dr_meaning.specs.Next.{least_stage}
use Rattle.dr_meaning.proofs.Lists.{some_of-flat_map, some_of-right, some_of-reverse, Each, Some_of, all_each, each-append, each-reverse, each-cond, each-map, each-of-map}

-- a wave of this kind
abbrev pub IsWave : StageKind → Stage → Type 0
IsWave kind stage = stage.kind ≡ kind

-- a command or a prompt: no machines
abbrev pub IsCallout : Stage → Type 0
IsCallout stage = ((stage.kind ≡ StageKind.Command) ⊎ (stage.kind ≡ StageKind.Prompt)) × (stage.machines ≡ [])

-- whatever waves are mapped to is of the kind
pub waves-kind : (kind : StageKind) (waves : List Wave) → Each (IsWave kind) (map (wave_stage kind) waves)
waves-kind kind [] = tt
waves-kind kind (w ∷ waves) = (refl, waves-kind kind waves)

pub wind_down-kind : (kind : StageKind) (plan : Plan) → Each (IsWave kind) (wind_down kind plan)
wind_down-kind kind plan = each-reverse (IsWave kind) _ (waves-kind kind (waves_of plan))

step_stage-kind : (number : ℕ) (what : Callout) (before : ℕ) → IsCallout (step_stage number (record { before = before; what = what }))
step_stage-kind number (Callout.Command name) before = (inl refl, refl)
step_stage-kind number (Callout.Prompt text) before = (inr refl, refl)

pub steps_before-kind : (priority number : ℕ) (steps : List Step) → Each IsCallout (steps_before priority number steps)
steps_before-kind priority number [] = tt
steps_before-kind priority number (step ∷ steps) =
    each-cond IsCallout (step.before == priority) _ _
    (step_stage-kind number step.what step.before, steps_before-kind priority (number + 1) steps)
    (steps_before-kind priority (number + 1) steps)

-- what each of two lists has, where each of both has it
each-parts : {X : Type 0} (P : X → Type 0) (xs ys : List X) → Each P (xs ++ ys) → Each P xs × Each P ys
each-parts P [] ys h = (tt, h)
each-parts P (x ∷ xs) ys h = let (left, right) = each-parts P xs ys h.1 in ((h.0, left), right)

-- a property of callouts and of the Start stage of each wave of the plan holds in the whole start-up
pub each-start_waves : (P : Stage → Type 0) (plan : Plan) → ((s : Stage) → IsCallout s → P s) → Each (λ w. P (wave_stage StageKind.Start w)) (waves_of plan) → Each P (start_up plan)
each-start_waves P plan callouts = go priorities
  where
    go : (numbers : List ℕ) → Each (λ w. P (wave_stage StageKind.Start w)) (flat_map (waves_at plan.machines) numbers) → Each P (flat_map (start_priority plan) numbers)
    go [] h = tt
    go (priority ∷ numbers) h =
        let (here, later) = each-parts (λ w. P (wave_stage StageKind.Start w)) (waves_at plan.machines priority) _ h in
        each-append P (start_priority plan priority) _
        (each-append P (steps_before priority 1 plan.steps) _
        (each-map IsCallout P callouts _ (steps_before-kind priority 1 plan.steps))
        (each-of-map P (wave_stage StageKind.Start) (waves_at plan.machines priority) here))
        (go numbers later)

-- a property of callouts and of Start waves holds in the whole start-up
pub each-start_up : (P : Stage → Type 0) (plan : Plan) → ((s : Stage) → IsCallout s → P s) → ((s : Stage) → s.kind ≡ StageKind.Start → P s) → Each P (start_up plan)
each-start_up P plan callouts starts = each-start_waves P plan callouts (all_each (λ w. P (wave_stage StageKind.Start w)) (λ w. starts (wave_stage StageKind.Start w) refl) (waves_of plan))

-- a property of all that a migration or failover does
pub each-recovery : (P : Stage → Type 0) (plan : Plan) → ((s : Stage) → IsCallout s → P s) → ((s : Stage) → s.kind ≡ StageKind.Start → P s) → ((s : Stage) → s.kind ≡ StageKind.Stop → P s) → P (array_stage StageKind.Sync) → P (array_stage StageKind.Prepare) → P (array_stage StageKind.FinalSync) → P (array_stage StageKind.Split) → Each P (recovery plan)
each-recovery P plan callouts starts stops sync prepare final_sync split = (
  sync,
  each-append P (wind_down StageKind.Stop plan) _
      (each-map (IsWave StageKind.Stop) P stops _ (wind_down-kind StageKind.Stop plan))
      (prepare, (final_sync, (split, each-start_up P plan callouts starts))),
)

-- a property of all that an operation does, by that of its waves and of the start-up
pub each-op : (P : Stage → Type 0) (plan : Plan) (o : Op) (forced : Bool) → ((kind : StageKind) → P (array_stage kind)) → (is_start_up o ≡ true → Each P (wind_down StageKind.Stop plan) × Each P (start_up plan)) → (is_start_up o ≡ false → Each P (wind_down StageKind.Clear plan)) → Each P (stages plan o forced)
each-op P plan o forced arrays starts clears = go o forced starts clears
  where
    recovers : Each P (wind_down StageKind.Stop plan) × Each P (start_up plan) → Each P (recovery plan)
    recovers (down, up) = (
      arrays StageKind.Sync,
      each-append P (wind_down StageKind.Stop plan) _ down (arrays StageKind.Prepare, (arrays StageKind.FinalSync, (arrays StageKind.Split, up))),
    )

    go : (o : Op) (forced : Bool) → (is_start_up o ≡ true → Each P (wind_down StageKind.Stop plan) × Each P (start_up plan)) → (is_start_up o ≡ false → Each P (wind_down StageKind.Clear plan)) → Each P (stages plan o forced)
    go Op.Testing forced both down = (arrays StageKind.Sync, (arrays StageKind.TestStart, (both refl).1))
    go Op.Cleanup forced both down = each-append P (wind_down StageKind.Clear plan) _ (down refl) (arrays StageKind.TestStop, tt)
    go Op.Migrate forced both down = recovers (both refl)
    go Op.Failover false both down = recovers (both refl)
    go Op.Failover true both down = (arrays StageKind.Split, (both refl).1)
    go Op.Reprotect forced both down = each-append P (wind_down StageKind.Clear plan) _ (down refl) (arrays StageKind.Prepare, (arrays StageKind.Reverse, (arrays StageKind.FinalSync, tt)))

wound_down : (P : Stage → Type 0) (kind : StageKind) (plan : Plan) → ((s : Stage) → s.kind ≡ kind → P s) → Each P (wind_down kind plan)
wound_down P kind plan h = each-map (IsWave kind) P h _ (wind_down-kind kind plan)

-- the same of an operation with start-up
pub each-stages : (P : Stage → Type 0) (plan : Plan) (o : Op) (forced : Bool) → is_start_up o ≡ true → Each P (start_up plan) → ((s : Stage) → s.kind ≡ StageKind.Stop → P s) → ((kind : StageKind) → P (array_stage kind)) → Each P (stages plan o forced)
each-stages P plan o forced is starts stops arrays =
    each-op P plan o forced arrays (λ up. (wound_down P StageKind.Stop plan stops, starts))
    (λ other. absurd (let wrong : true ≡ false = sym is ∙ other in cc))

-- a property of all that an operation with start-up does
pub each-start_up_op : (P : Stage → Type 0) (plan : Plan) (o : Op) (forced : Bool) → is_start_up o ≡ true → ((s : Stage) → IsCallout s → P s) → ((s : Stage) → s.kind ≡ StageKind.Start → P s) → ((s : Stage) → s.kind ≡ StageKind.Stop → P s) → ((kind : StageKind) → P (array_stage kind)) → Each P (stages plan o forced)
each-start_up_op P plan o forced is callouts starts stops arrays = each-stages P plan o forced is (each-start_up P plan callouts starts) stops arrays

-- a property of all that a cleanup or a reprotect does
pub each-clear_op : (P : Stage → Type 0) (plan : Plan) (o : Op) (forced : Bool) → is_start_up o ≡ false → ((s : Stage) → s.kind ≡ StageKind.Clear → P s) → ((kind : StageKind) → P (array_stage kind)) → Each P (stages plan o forced)
each-clear_op P plan o forced is clears arrays =
    each-op P plan o forced arrays (λ up. absurd (let wrong : true ≡ false = sym up ∙ is in cc)) (λ other. wound_down P StageKind.Clear plan clears)

-- what holds of each stage holds of the stage of any number
pub stage_from-each : (P : Stage → Type 0) (n : ℕ) (stages : List Stage) (k : ℕ) → P no_stage → Each P stages → P (stage_from n stages k)
stage_from-each P n [] k none h = none
stage_from-each P n (s ∷ stages) k none h = go (k == n) (stage_from-each P (n + 1) stages k none h.1)
  where
    go : (b : Bool) → P (stage_from (n + 1) stages k) → P (if b then s else stage_from (n + 1) stages k)
    go true later = h.0
    go false later = later

-- a number whose stage has P is one from n on, where no stage is without P
pub counted : (P : Stage → Type 0) → (P no_stage → ⊥) → (n : ℕ) (ss : List Stage) (k : ℕ) → P (stage_from n ss k) → n ≤ k
counted P none n [] k p = absurd (none p)
counted P none n (s ∷ ss) k p = go (cases_eq k n) (λ ne. counted P none (n + 1) ss k (rw (ne_eqb k n ne) at p))
  where
    go : (k ≡ n) ⊎ (k ≡ n → ⊥) → ((k ≡ n → ⊥) → n + 1 ≤ k) → n ≤ k
    go (inl same) later = omega (arith, same)
    go (inr ne) later = omega (arith, later ne)

-- where no stage is left undone, a stage with P has a number that is done
pub done_number : (P : Stage → Type 0) (log : List Record) (n : ℕ) (stages : List Stage) → least_stage (λ k stage. not (is_done log k)) n stages ≡ None → Some_of P stages → (k : ℕ) × (n ≤ k) × P (stage_from n stages k) × (is_done log k ≡ true)
done_number P log n [] none some = elim some [ ]
done_number P log n (s ∷ stages) none some = go (is_done log n) refl (λ h p. done_number P log (n + 1) stages h p) some
  where
    Found : ℕ → List Stage → Type 0
    Found m ss = (k : ℕ) × (m ≤ k) × P (stage_from m ss k) × (is_done log k ≡ true)

    later : Found (n + 1) stages → Found n (s ∷ stages)
    later (k, above, p, done) = (k, omega arith, rw (ne_eqb k n (λ e. omega arith)) p, done)

    go : (b : Bool) → is_done log n ≡ b → (least_stage (λ k stage. not (is_done log k)) (n + 1) stages ≡ None → Some_of P stages → Found (n + 1) stages) → P s ⊎ Some_of P stages → Found n (s ∷ stages)
    go true e rest (inl p) = (n, omega arith, rw (eq-eqb n n refl) p, e)
    go true e rest (inr p) = later (rest (rw e at none) p)
    go false e rest p = absurd (let stuck : Some n ≡ None = rw e at none in cc)

-- Each machine of a plan has its Start stage.

-- a machine of the plan, with a priority from 1 to 5
pub record IsMachineOf (plan : Plan) (m : PlanMachine) : Type 0 where
  pub listed : Some_of (λ x. x ≡ m) plan.machines
  pub at_least : 1 ≤ m.priority
  pub at_most : m.priority ≤ 5

-- the stage is a wave of this kind that has the machine
abbrev pub Waves : StageKind → ℕ → Stage → Type 0
Waves kind machine s = (s.kind ≡ kind) × (has s.machines machine ≡ true)

abbrev pub Starts : ℕ → Stage → Type 0
Starts machine s = Waves StageKind.Start machine s

or_true : (a b : Bool) → b ≡ true → a || b ≡ true
or_true true b e = refl
or_true false b e = e

pub wave-has : (machines : List PlanMachine) (m : PlanMachine) → Some_of (λ x. x ≡ m) machines → has (machines_at machines m.priority m.depth) m.machine ≡ true
wave-has [] m h = elim h [ ]
wave-has (x ∷ machines) m (inl e) = rw (e, eq-eqb m.priority m.priority refl, eq-eqb m.depth m.depth refl, eq-eqb m.machine m.machine refl) refl
wave-has (x ∷ machines) m (inr h) = go ((x.priority == m.priority) && (x.depth == m.depth)) (wave-has machines m h)
  where
    go : (b : Bool) → has (machines_at machines m.priority m.depth) m.machine ≡ true → has (map (λ (y : PlanMachine). y.machine) (cond b (x ∷ filter (λ y. (y.priority == m.priority) && (y.depth == m.depth)) machines) (filter (λ y. (y.priority == m.priority) && (y.depth == m.depth)) machines))) m.machine ≡ true
    go true later = or_true (x.machine == m.machine) _ later
    go false later = later

-- a wave that has the machine
abbrev pub HasMachine : ℕ → Wave → Type 0
HasMachine machine w = has w.machines machine ≡ true

wave_of-has : (priority depth : ℕ) (ms : List ℕ) (machine : ℕ) → has ms machine ≡ true → Some_of (HasMachine machine) (wave_of priority depth ms)
wave_of-has priority depth [] machine h = absurd cc
wave_of-has priority depth (m ∷ ms) machine h = inl h

pub range-has : (P : ℕ → Type 0) (a n k : ℕ) → a ≤ k → k < a + n → P k → Some_of P (range_with_len a n)
range-has P a zero k above below p = absurd (omega arith)
range-has P a (suc n) k above below p = go (cases_eq a k) (λ h. range-has P (a + 1) n k h (omega arith) p)
  where
    go : (a ≡ k) ⊎ (a ≡ k → ⊥) → (a + 1 ≤ k → Some_of P (range_with_len (a + 1) n)) → Some_of P (range_with_len a (suc n))
    go (inl e) rest = inl (rw e p)
    go (inr ne) rest = inr (rest (omega arith))

-- a priority from 1 to 5 is one of the priorities
pub priorities-has : (P : ℕ → Type 0) (k : ℕ) → 1 ≤ k → k ≤ 5 → P k → Some_of P priorities
priorities-has P k least greatest p = range-has P 1 5 k least (omega (arith, greatest)) p

pub depth-below : (machines : List PlanMachine) (m : PlanMachine) → Some_of (λ x. x ≡ m) machines → m.depth < above (map (λ x. x.depth) machines)
depth-below [] m h = elim h [ ]
depth-below (x ∷ machines) m (inl e) = omega (arith, ap (λ (y : PlanMachine). y.depth) e)
depth-below (x ∷ machines) m (inr h) = omega (arith, depth-below machines m h)

pub waves_at-has : (machines : List PlanMachine) (m : PlanMachine) → Some_of (λ x. x ≡ m) machines → Some_of (HasMachine m.machine) (waves_at machines m.priority)
waves_at-has machines m h =
    some_of-flat_map (HasMachine m.machine) (wave_at machines m.priority) _
    (range-has (λ depth. Some_of (HasMachine m.machine) (wave_at machines m.priority depth))
    0 (above (map (λ x. x.depth) machines)) m.depth (omega arith) (omega (arith, depth-below machines m h))
    (wave_of-has m.priority m.depth _ m.machine (wave-has machines m h)))

pub waves_of-has : (plan : Plan) (m : PlanMachine) → IsMachineOf plan m → Some_of (HasMachine m.machine) (waves_of plan)
waves_of-has plan m h =
    some_of-flat_map (HasMachine m.machine) (waves_at plan.machines) priorities
    (priorities-has (λ priority. Some_of (HasMachine m.machine) (waves_at plan.machines priority)) m.priority h.at_least h.at_most (waves_at-has plan.machines m h.listed))

stages-have : (kind : StageKind) (machine : ℕ) (waves : List Wave) → Some_of (HasMachine machine) waves → Some_of (Waves kind machine) (map (wave_stage kind) waves)
stages-have kind machine [] h = elim h [ ]
stages-have kind machine (w ∷ waves) (inl h) = inl (refl, h)
stages-have kind machine (w ∷ waves) (inr h) = inr (stages-have kind machine waves h)

pub starts_machine : (plan : Plan) (m : PlanMachine) → IsMachineOf plan m → Some_of (Starts m.machine) (start_up plan)
starts_machine plan m h =
    some_of-flat_map (Starts m.machine) (start_priority plan) priorities
    (priorities-has (λ priority. Some_of (Starts m.machine) (start_priority plan priority)) m.priority h.at_least h.at_most
    (some_of-right (Starts m.machine) (steps_before m.priority 1 plan.steps) _ (stages-have StageKind.Start m.machine _ (waves_at-has plan.machines m h.listed))))

pub winds_down_machine : (kind : StageKind) (plan : Plan) (m : PlanMachine) → IsMachineOf plan m → Some_of (Waves kind m.machine) (wind_down kind plan)
winds_down_machine kind plan m h = some_of-reverse (Waves kind m.machine) _ (stages-have kind m.machine (waves_of plan) (waves_of-has plan m h))
