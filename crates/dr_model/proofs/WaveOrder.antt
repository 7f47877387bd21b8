-- Start waves stand by priority, then by depth.
use Rattle.std.specs.Prelude.{◌≡◌, ℕ, zero, suc, ◌+◌, ◌<◌, ◌≤◌, ◌⊎◌, Bool, true, List, [], ◌∷◌, ◌++◌, map, flat_map}
use Rattle.std.specs.List.{range_with_len}
use Rattle.std.proofs.Common.{refl, sym, ◌∙◌, inl, inr, arith, subst}
use Rattle.std.proofs.lemmas.Bool.{eq-eqb, ne_eqb, cases_eq, cases_lt}
use Rattle.dr_meaning.specs.Types.{Op, PlanMachine, Plan, Wave}
use Rattle.dr_meaning.specs.declared.stage.StageKind.{StageKind}
use Rattle.dr_meaning.specs.declared.stage.Stage.{Stage}
use Rattle.std.proofs.lemmas.List.{map-append}
use Rattle.dr_plan.specs.Waves.{above, machines_at, wave_of, wave_at, priorities}
use Rattle.dr_base.specs.Lists.{has}
use Rattle.dr_meaning.specs.Stages.{stages, start_priority, steps_before, start_up, stage_from}
use Rattle.dr_meaning.specs.InOrder.{is_start_up}
pub use Rattle.dr_meaning.specs.Backing.{IsEarlier}
use Rattle.dr_meaning.proofs.Lists.{Each, each-append, each-map, Some_of, some_of-right, some_of-flat_map}
use Rattle.dr_model.proofs.StageOrder.{started, some_of-stages, IsSortedBy, sorted-append, sorted_numbers, stages_sorted}
use Rattle.dr_model.proofs.StageLaws.{IsMachineOf, priorities-has, wave-has, range-has, depth-below}

-- of two Start waves the first comes before the second: it has a lower priority, or the same and a lower depth
abbrev pub IsWaveBefore : Stage → Stage → Type 0
IsWaveBefore s t = s.kind ≡ StageKind.Start → t.kind ≡ StageKind.Start → (s.priority < t.priority) ⊎ ((s.priority ≡ t.priority) × (s.depth < t.depth))

abbrev IsSorted : List Stage → Type 0
IsSorted ss = IsSortedBy IsWaveBefore ss

-- a wave's place
abbrev FromDepth : ℕ → ℕ → Stage → Type 0
FromDepth p d s = (s.priority ≡ p) × (d ≤ s.depth)

wave_stage-place : (p d : ℕ) (ms : List ℕ) → Each (λ s. (s.priority ≡ p) × (s.depth ≡ d)) (map started (wave_of p d ms))
wave_stage-place p d [] = tt
wave_stage-place p d (m ∷ ms) = ((refl, refl), tt)

wave_stage-sorted : (p d : ℕ) (ms : List ℕ) → IsSorted (map started (wave_of p d ms))
wave_stage-sorted p d [] = tt
wave_stage-sorted p d (m ∷ ms) = (tt, tt)

module _ (machines : List PlanMachine) (p : ℕ) where
  abbrev waves_from : ℕ → ℕ → List Stage
  waves_from a n = map started (flat_map (wave_at machines p) (range_with_len a n))

  abbrev first_waves : ℕ → List Stage
  first_waves a = map started (wave_at machines p a)

  next_waves : (a n : ℕ) → waves_from a (suc n) ≡ first_waves a ++ waves_from (a + 1) n
  next_waves a n = map-append started (wave_at machines p a) (flat_map (wave_at machines p) (range_with_len (a + 1) n))

  waves_from-place : (a n : ℕ) → Each (FromDepth p a) (waves_from a n)
  waves_from-place a zero = tt
  waves_from-place a (suc n) =
      subst (Each (FromDepth p a)) (sym (next_waves a n))
      (each-append (FromDepth p a) (first_waves a) (waves_from (a + 1) n)
      (each-map (λ s. (s.priority ≡ p) × (s.depth ≡ a)) (FromDepth p a) (λ s h. (h.0, omega (arith, h.1))) _ (wave_stage-place p a (machines_at machines p a)))
      (each-map (FromDepth p (a + 1)) (FromDepth p a) (λ s h. (h.0, omega (arith, h.1))) _ (waves_from-place (a + 1) n)))

  waves_from-sorted : (a n : ℕ) → IsSorted (waves_from a n)
  waves_from-sorted a zero = tt
  waves_from-sorted a (suc n) =
      subst IsSorted (sym (next_waves a n))
      (sorted-append IsWaveBefore (first_waves a) (waves_from (a + 1) n) (wave_stage-sorted p a (machines_at machines p a)) (waves_from-sorted (a + 1) n)
      (each-map (λ s. (s.priority ≡ p) × (s.depth ≡ a)) (λ s. Each (IsWaveBefore s) (waves_from (a + 1) n))
      (λ s h. each-map (FromDepth p (a + 1)) (IsWaveBefore s) (λ t k x y. inr (h.0 ∙ sym k.0, omega (arith, h.1, k.1))) (waves_from (a + 1) n) (waves_from-place (a + 1) n))
      _ (wave_stage-place p a (machines_at machines p a))))

-- the stages of a start-up operation
pub wave_numbers : (plan : Plan) (o : Op) (forced : Bool) → is_start_up o ≡ true → (i j : ℕ) → 1 ≤ i → i < j → IsWaveBefore (stage_from 1 (stages plan o forced) i) (stage_from 1 (stages plan o forced) j)
wave_numbers plan o forced up =
    sorted_numbers IsWaveBefore (λ s k l. let wrong : StageKind.Prompt ≡ StageKind.Start = l in cc) 1 (stages plan o forced)
    (stages_sorted IsWaveBefore (λ s t h k l. absurd (h k)) (λ s t lt k l. inl lt) plan (λ p. waves_from-sorted plan.machines p 0 (above (map (λ m. m.depth) plan.machines))) o forced up)

-- where a stage has P, it has a number
pub number_with : (P : Stage → Type 0) (n : ℕ) (ss : List Stage) → Some_of P ss → (i : ℕ) × (n ≤ i) × P (stage_from n ss i)
number_with P n [] some = elim some [ ]
number_with P n (s ∷ ss) (inl p) = (n, omega arith, rw (eq-eqb n n refl) p)
number_with P n (s ∷ ss) (inr later) = let (i, above, p) = number_with P (n + 1) ss later in (i, omega arith, rw (ne_eqb i n (λ same. omega arith)) p)

-- The Start wave of a machine

abbrev pub StartsIt : PlanMachine → Stage → Type 0
StartsIt x s = (s.kind ≡ StageKind.Start) × (has s.machines x.machine ≡ true) × (s.priority ≡ x.priority) × (s.depth ≡ x.depth)

-- the wave of this priority and depth has the machine
abbrev HasIt : PlanMachine → Wave → Type 0
HasIt x w = (has w.machines x.machine ≡ true) × (w.priority ≡ x.priority) × (w.depth ≡ x.depth)

wave_of-it : (x : PlanMachine) (ms : List ℕ) → has ms x.machine ≡ true → Some_of (HasIt x) (wave_of x.priority x.depth ms)
wave_of-it x [] h = absurd cc
wave_of-it x (m ∷ ms) h = inl (h, refl, refl)

started-it : (x : PlanMachine) (waves : List Wave) → Some_of (HasIt x) waves → Some_of (StartsIt x) (map started waves)
started-it x [] h = elim h [ ]
started-it x (w ∷ waves) (inl h) = inl (refl, h.0, h.1, h.2)
started-it x (w ∷ waves) (inr h) = inr (started-it x waves h)

start_up-starts : (plan : Plan) (x : PlanMachine) → IsMachineOf plan x → Some_of (StartsIt x) (start_up plan)
start_up-starts plan x h =
    some_of-flat_map (StartsIt x) (start_priority plan) priorities
    (priorities-has (λ priority. Some_of (StartsIt x) (start_priority plan priority)) x.priority h.at_least h.at_most
    (some_of-right (StartsIt x) (steps_before x.priority 1 plan.steps) _
    (started-it x _
    (some_of-flat_map (HasIt x) (wave_at plan.machines x.priority) _
    (range-has (λ depth. Some_of (HasIt x) (wave_at plan.machines x.priority depth))
    0 (above (map (λ y. y.depth) plan.machines)) x.depth (omega arith) (omega (arith, depth-below plan.machines x h.listed))
    (wave_of-it x _ (wave-has plan.machines x h.listed)))))))

pub stages-starts : (plan : Plan) (x : PlanMachine) (o : Op) (forced : Bool) → is_start_up o ≡ true → IsMachineOf plan x → Some_of (StartsIt x) (stages plan o forced)
stages-starts plan x o forced up h = some_of-stages (StartsIt x) plan o forced up (start_up-starts plan x h)

pub earlier_number : (plan : Plan) (x : PlanMachine) (o : Op) (forced : Bool) → is_start_up o ≡ true → IsMachineOf plan x → (j : ℕ) → 1 ≤ j → (stage_from 1 (stages plan o forced) j).kind ≡ StageKind.Start → IsEarlier x (stage_from 1 (stages plan o forced) j) → (i : ℕ) × (1 ≤ i) × (i < j) × StartsIt x (stage_from 1 (stages plan o forced) i)
earlier_number plan x o forced up h j at_least kind earlier =
    let (i, above, starts) = number_with (StartsIt x) 1 (stages plan o forced) (stages-starts plan x o forced up h) in
    (i, above, go i above starts (cases_lt i j) (cases_eq i j), starts)
  where
    -- a machine's wave isn't earlier than itself
    not_same : (s : Stage) → StartsIt x s → IsEarlier x s → ⊥
    not_same s its (inl lt) = omega (arith, its.2)
    not_same s its (inr low) = omega (arith, its.3, low.1)

    -- nor than one that comes before it
    not_later : (s t : Stage) → StartsIt x s → IsEarlier x t → (t.priority < s.priority) ⊎ ((t.priority ≡ s.priority) × (t.depth < s.depth)) → ⊥
    not_later s t its (inl lt) (inl gt) = omega (arith, its.2)
    not_later s t its (inl lt) (inr same) = omega (arith, its.2, same.0)
    not_later s t its (inr low) (inl gt) = omega (arith, its.2, low.0)
    not_later s t its (inr low) (inr same) = omega (arith, its.3, low.1, same.1)

    go : (i : ℕ) → 1 ≤ i → StartsIt x (stage_from 1 (stages plan o forced) i) → (i < j) ⊎ (j ≤ i) → (i ≡ j) ⊎ (i ≡ j → ⊥) → i < j
    go i least s (inl lt) either = lt
    go i least s (inr le) (inl same) = absurd (not_same (stage_from 1 (stages plan o forced) j) (subst (λ k. StartsIt x (stage_from 1 (stages plan o forced) k)) same s) earlier)
    go i least s (inr le) (inr ne) = absurd (not_later (stage_from 1 (stages plan o forced) i) (stage_from 1 (stages plan o forced) j) s earlier (wave_numbers plan o forced up j i at_least (omega arith) kind s.0))
