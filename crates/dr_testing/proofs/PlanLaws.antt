-- In which wave each machine of a plan is.
use Rattle.std.proofs.Common.{◌≡◌, ℕ, ◌≤◌, ◌<◌, ◌⊎◌, ◌==◌, inl, inr, true, false, List, length, get_or, map, sym, ◌∙◌, ap, subst, arith}
use Rattle.std.proofs.lemmas.Bool.{cases_order, eq-eqb, eqb-true}
use Rattle.std.proofs.lemmas.List.{get_or_default, get_or-map, length-map}
use Rattle.std.proofs.lemmas.List.Elements.{All-contains, Contains-get_or}
use Rattle.std.proofs.lemmas.List.Folds.{list_any_at, Any-from_list_any}
use Rattle.std.proofs.lemmas.List.Sums.{passes_at_first, fails_before_first}
use Rattle.std.proofs.lemmas.Option.{get_or_from_slice_get, slice_get-get_or, slice_get_within}
use Rattle.std.specs.Prelude.{Some, slice_get, Contains}
use Rattle.std.specs.List.{Any}
use Rattle.dr_inventory.specs.declared.estate.Estate.{Estate}
use Rattle.dr_plan.specs.declared.plan.Plan.{Plan}
use Rattle.dr_plan.specs.declared.plan.PlanMachine.{PlanMachine}
use Rattle.dr_plan.specs.declared.plan.Wave.{Wave}
use Rattle.dr_plan.specs.Orders.{IsOrdered, AreWaves, IsWave, IsAt, HasIn, IsEarlierWave}
use Rattle.dr_base.specs.Lists.{has}
use Rattle.dr_outside.proofs.Listed.{mono, place_of}
use Rattle.dr_testing.specs.Placing.{wave_of, is_planned, IsPlaced, AreStartable, IsStartable}
use Rattle.dr_testing.specs.Tests.{IsTestable}

-- a number of a list, as its test and as a place
listed_of : (xs : List ℕ) (v : ℕ) → Contains xs v → has xs v ≡ true
listed_of xs v c = list_any_at (λ x. x == v) xs c.0 v c.1 (eq-eqb _ _ c.2)

pub contains_of : (xs : List ℕ) (v : ℕ) → has xs v ≡ true → Contains xs v
contains_of xs v l =
    let p : (k : ℕ) × (k < length xs) × (get_or xs k 0 ≡ v) = place_of xs v l in
    (p.0, p.1, get_or_default xs p.0 v 0 p.1 ∙ p.2)

-- a machine of the plan, as its test and as what the plan says of it
pub planned_of : (plan : Plan) (m : PlanMachine) → Contains plan.machines m → is_planned plan m.machine ≡ true
planned_of plan m c = list_any_at (λ x. x.machine == m.machine) plan.machines c.0 m c.1 (eq-eqb _ _ (ap (λ (x : PlanMachine). x.machine) c.2))

-- what the plan says of one of its machines
pub record IsRowOf (plan : Plan) (machine : ℕ) : Type 0 where
  pub row : PlanMachine
  pub listed : Contains plan.machines row
  pub number : row.machine ≡ machine

pub row_of : (plan : Plan) (i : ℕ) → is_planned plan i ≡ true → IsRowOf plan i
row_of plan i h =
    let any : Any (λ x. (x.machine == i) ≡ true) plan.machines = Any-from_list_any (λ x. x.machine == i) plan.machines h in
    record { row = any.1; listed = (any.0, any.2, any.3); number = eqb-true _ _ any.4 }

-- what a plan says of one number is one
same_row : (plan : Plan) → IsOrdered plan → (x y : PlanMachine) → Contains plan.machines x → Contains plan.machines y → x.machine ≡ y.machine → x ≡ y
same_row plan ordered x y cx cy e =
    let number_at : (k : ℕ) (z : PlanMachine) → k < length plan.machines → get_or plan.machines k z ≡ z → get_or (map (λ m. m.machine) plan.machines) k 0 ≡ z.machine =
    λ k z l is. get_or-map (λ m. m.machine) plan.machines k z 0 l ∙ ap (λ m. m.machine) is in
    let long : length (map (λ m. m.machine) plan.machines) ≡ length plan.machines = length-map plan.machines (λ m. m.machine) in
    let nx : get_or (map (λ m. m.machine) plan.machines) cx.0 0 ≡ x.machine = number_at cx.0 x cx.1 cx.2 in
    let ny : get_or (map (λ m. m.machine) plan.machines) cy.0 0 ≡ y.machine = number_at cy.0 y cy.1 cy.2 in
    elim (cases_order cx.0 cy.0) [
      | inl same ↦ sym cx.2 ∙ ap (λ k. get_or plan.machines k x) same ∙ get_or_default plan.machines cy.0 x y cy.1 ∙ cy.2
      | inr o ↦ elim o [
        | inl lt ↦ absurd (omega (arith, mono (map (λ m. m.machine) plan.machines) ordered.ascending cx.0 cy.0 lt (omega (arith, long, cy.1)), nx, ny, e))
        | inr gt ↦ absurd (omega (arith, mono (map (λ m. m.machine) plan.machines) ordered.ascending cy.0 cx.0 gt (omega (arith, long, cx.1)), nx, ny, e))
      ]
    ]

module _ (plan : Plan) (ordered : IsOrdered plan) (waves : List Wave) (are : AreWaves plan waves) where
  -- a wave that has the machine isn't before its wave
  wave_of_most : (n i : ℕ) (d : Wave) → has (get_or waves n d).machines i ≡ true → wave_of waves i ≤ n
  wave_of_most n i d within_wave = elim (cases_order (wave_of waves i) n) [
    | inl e ↦ omega (arith, e)
    | inr o ↦ elim o [
      | inl lt ↦ omega (arith, lt)
      | inr gt ↦ absurd (let isnt : has (get_or waves n d).machines i ≡ false = fails_before_first (λ w. has w.machines i) waves n d gt in cc (within_wave, isnt))
    ]
  ]

  -- the wave of a machine that has one
  record IsInWave (i : ℕ) (wave : Wave) : Type 0 where
    listed : wave_of waves i < length waves
    at : slice_get waves (wave_of waves i) ≡ Some wave
    within_wave : has wave.machines i ≡ true
    is : IsWave plan wave
    row : IsAt plan wave.priority wave.depth i

  in_wave : (i : ℕ) (d : Wave) → wave_of waves i < length waves → IsInWave i (get_or waves (wave_of waves i) d)
  in_wave i d l =
      let wave : Wave = get_or waves (wave_of waves i) d in
      let within_wave : has wave.machines i ≡ true = passes_at_first (λ w. has w.machines i) waves d l in
      let is : IsWave plan wave = are.each (wave_of waves i) d l in
      record { listed = l; at = slice_get-get_or waves (wave_of waves i) d l; within_wave = within_wave; is = is; row = is.only i (contains_of wave.machines i within_wave) }

  -- a machine that a wave has is in that wave alone
  apart : (n i : ℕ) (w : Wave) → slice_get waves n ≡ Some w → has w.machines i ≡ true → n < length waves → wave_of waves i ≡ n
  apart n i w here within_wave within =
      let there : get_or waves n w ≡ w = get_or_from_slice_get waves n w w here in
      let most : wave_of waves i ≤ n = wave_of_most n i w (subst (λ (v : Wave). has v.machines i ≡ true) (sym there) within_wave) in
      let first : IsInWave i (get_or waves (wave_of waves i) w) = in_wave i w (omega (arith, most, within)) in
      let is : IsWave plan w = subst (IsWave plan) there (are.each n w within) in
      let row : IsAt plan w.priority w.depth i = is.only i (contains_of w.machines i within_wave) in
      let same : first.row.entry ≡ row.entry = same_row plan ordered first.row.entry row.entry first.row.listed row.listed (first.row.number ∙ sym row.number) in
      let priority : (get_or waves (wave_of waves i) w).priority ≡ w.priority = sym first.row.same_priority ∙ ap (λ (m : PlanMachine). m.priority) same ∙ row.same_priority in
      let depth : (get_or waves (wave_of waves i) w).depth ≡ w.depth = sym first.row.same_depth ∙ ap (λ (m : PlanMachine). m.depth) same ∙ row.same_depth in
      elim (cases_order (wave_of waves i) n) [
        | inl e ↦ e
        | inr o ↦ elim o [
          | inl lt ↦ elim (are.in_order (wave_of waves i) n (get_or waves (wave_of waves i) w) w lt first.at here) [
            | inl less ↦ absurd (omega (arith, less, priority))
            | inr deeper ↦ absurd (omega (arith, deeper.1, depth))
          ]
          | inr gt ↦ absurd (omega (arith, gt, most))
        ]
      ]

  -- each machine of the plan has a wave, of its priority and depth
  record IsWaveOf (m : PlanMachine) (wave : Wave) : Type 0 where
    listed : wave_of waves m.machine < length waves
    at : slice_get waves (wave_of waves m.machine) ≡ Some wave
    priority : wave.priority ≡ m.priority
    depth : wave.depth ≡ m.depth

  wave_for : (m : PlanMachine) → Contains plan.machines m → (wave : Wave) × IsWaveOf m wave
  wave_for m c =
      let within_wave : HasIn waves m.priority m.depth m.machine = are.complete m c in
      let at : slice_get waves within_wave.listed.0 ≡ Some within_wave.wave = slice_get-get_or waves within_wave.listed.0 within_wave.wave within_wave.listed.1 ∙ ap Some within_wave.listed.2 in
      let here : wave_of waves m.machine ≡ within_wave.listed.0 = apart within_wave.listed.0 m.machine within_wave.wave at (listed_of within_wave.wave.machines m.machine within_wave.of_wave) within_wave.listed.1 in
      (within_wave.wave, record { listed = omega (arith, here, within_wave.listed.1); at = ap (slice_get waves) here ∙ at; priority = within_wave.same_priority; depth = within_wave.same_depth })

  pub planned_in_wave : (i : ℕ) → is_planned plan i ≡ true → wave_of waves i < length waves
  planned_in_wave i h =
      let r : IsRowOf plan i = row_of plan i h in
      subst (λ k. wave_of waves k < length waves) r.number (wave_for r.row r.listed).1.listed

  pub in_wave_planned : (i : ℕ) (d : Wave) → wave_of waves i < length waves → is_planned plan i ≡ true
  in_wave_planned i d l =
      let r : IsAt plan (get_or waves (wave_of waves i) d).priority (get_or waves (wave_of waves i) d).depth i = (in_wave i d l).row in
      subst (λ k. is_planned plan k ≡ true) r.number (planned_of plan r.entry r.listed)

  -- a machine of a lower priority, or of the same and a lower depth, is in an earlier wave
  pub earlier_wave : (x y : PlanMachine) → Contains plan.machines x → Contains plan.machines y → (x.priority < y.priority) ⊎ ((x.priority ≡ y.priority) × (x.depth < y.depth)) → wave_of waves x.machine < wave_of waves y.machine
  earlier_wave x y cx cy before =
      let v : (wave : Wave) × IsWaveOf x wave = wave_for x cx in
      let w : (wave : Wave) × IsWaveOf y wave = wave_for y cy in
      elim (cases_order (wave_of waves x.machine) (wave_of waves y.machine)) [
        | inl e ↦
            let same : v.0 ≡ w.0 = sym (get_or_from_slice_get waves (wave_of waves x.machine) v.0 v.0 v.1.at) ∙ ap (λ k. get_or waves k v.0) e ∙ get_or_from_slice_get waves (wave_of waves y.machine) w.0 v.0 w.1.at in
            let priority : x.priority ≡ y.priority = sym v.1.priority ∙ ap (λ (u : Wave). u.priority) same ∙ w.1.priority in
            let depth : x.depth ≡ y.depth = sym v.1.depth ∙ ap (λ (u : Wave). u.depth) same ∙ w.1.depth in
            elim before [
              | inl less ↦ absurd (omega (arith, less, priority))
              | inr lower ↦ absurd (omega (arith, lower.1, depth))
            ]
        | inr o ↦ elim o [
          | inl lt ↦ lt
          | inr gt ↦
              let turned : IsEarlierWave w.0 v.0 = are.in_order (wave_of waves y.machine) (wave_of waves x.machine) w.0 v.0 gt w.1.at v.1.at in
              absurd (against before turned v.1.priority v.1.depth w.1.priority w.1.depth)
        ]
      ]
    where
      against : {xp xd yp yd vp vd wp wd : ℕ} → (xp < yp) ⊎ ((xp ≡ yp) × (xd < yd)) → (wp < vp) ⊎ ((wp ≡ vp) × (wd < vd)) → vp ≡ xp → vd ≡ xd → wp ≡ yp → wd ≡ yd → ⊥
      against (inl a) (inl b) p q r s = omega (arith, a, b, p, r)
      against (inl a) (inr b) p q r s = omega (arith, a, b.0, p, r)
      against (inr a) (inl b) p q r s = omega (arith, a.0, b, p, r)
      against (inr a) (inr b) p q r s = omega (arith, a.1, b.1, q, s)

  -- each wave can be started
  pub waves_startable : (estate : Estate) → IsTestable estate plan → AreStartable estate waves
  waves_startable estate t = record {
    each = λ n d l. startable (get_or waves n d) (are.each n d l);
    apart = λ n i w here within_wave. apart n i w here within_wave (within n w here);
  }
    where
      within : (n : ℕ) (w : Wave) → slice_get waves n ≡ Some w → n < length waves
      within n w here = slice_get_within waves n w here

      row : (w : Wave) → IsWave plan w → (k : ℕ) (d : ℕ) → k < length w.machines → IsAt plan w.priority w.depth (get_or w.machines k d)
      row w is k d l = is.only (get_or w.machines k d) (Contains-get_or w.machines k d l)

      startable : (w : Wave) → IsWave plan w → IsStartable estate w.machines
      startable w is = record {
        ascending = is.ascending;
        within = λ k d l. subst (λ m. m < length estate.machines) (row w is k d l).number (All-contains (λ (m : PlanMachine). m.machine < length estate.machines) plan.machines (row w is k d l).entry t.machines (row w is k d l).listed);
        placed = λ k d l. subst (IsPlaced estate) (row w is k d l).number (All-contains (λ (m : PlanMachine). IsPlaced estate m.machine) plan.machines (row w is k d l).entry t.placed (row w is k d l).listed);
      }
