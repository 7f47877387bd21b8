-- The stages of an operation with start-up stand in order, by a relation that holds behind each stage that starts nothing and before each later priority.
use Rattle.std.specs.Prelude.{◌≡◌, ℕ, zero, suc, ◌+◌, ◌<◌, ◌≤◌, ◌==◌, ◌⊎◌, Bool, true, false, List, [], ◌∷◌, ◌++◌, cond, map, flat_map}
use Rattle.std.specs.List.{range_with_len}
use Rattle.std.proofs.Common.{refl, sym, ◌∙◌, inl, inr, arith}
use Rattle.std.proofs.lemmas.Bool.{eq-eqb, eqb-true, ne_eqb, cases_eq}
use Rattle.dr_plan.specs.Waves.{machines_at, wave_of, wave_at, waves_at, depths_in}
use Rattle.dr_meaning.specs.Types.{Op, Step, Plan, Wave}
use Rattle.dr_meaning.specs.declared.stage.StageKind.{StageKind}
use Rattle.dr_meaning.specs.declared.stage.Stage.{Stage}
use Rattle.dr_meaning.specs.Stages.{array_stage, recovery, stages, no_stage, step_stage, wave_stage, start_priority, steps_before, start_up, wind_down, stage_from}
use Rattle.dr_meaning.specs.InOrder.{is_start_up}
use Rattle.dr_meaning.proofs.Lists.{Each, each-append, each-map, each-flat_map, each-of-map, Some_of, some_of-right}
use Rattle.dr_model.proofs.StageLaws.{IsCallout, IsWave, wind_down-kind, steps_before-kind, stage_from-each}

abbrev pub StartsNothing : Stage → Type 0
StartsNothing s = s.kind ≡ StageKind.Start → ⊥

quiet_callout : (s : Stage) → IsCallout s → StartsNothing s
quiet_callout s (inl e, none) k = let wrong : StageKind.Command ≡ StageKind.Start = sym e ∙ k in cc
quiet_callout s (inr e, none) k = let wrong : StageKind.Prompt ≡ StageKind.Start = sym e ∙ k in cc

quiet_stops : (plan : Plan) → Each StartsNothing (wind_down StageKind.Stop plan)
quiet_stops plan = each-map (IsWave StageKind.Stop) StartsNothing (λ s e k. let wrong : StageKind.Stop ≡ StageKind.Start = sym e ∙ k in cc) _ (wind_down-kind StageKind.Stop plan)

-- the Start stage of a wave
abbrev pub started : Wave → Stage
started w = wave_stage StageKind.Start w

-- what some stage of the start-up is
pub some_of-stages : (P : Stage → Type 0) (plan : Plan) (o : Op) (forced : Bool) → is_start_up o ≡ true → Some_of P (start_up plan) → Some_of P (stages plan o forced)
some_of-stages P plan Op.Testing forced up h = inr (inr h)
some_of-stages P plan Op.Migrate forced up h = inr (some_of-right P (wind_down StageKind.Stop plan) _ (inr (inr (inr h))))
some_of-stages P plan Op.Failover false up h = inr (some_of-right P (wind_down StageKind.Stop plan) _ (inr (inr (inr h))))
some_of-stages P plan Op.Failover true up h = inr h
some_of-stages P plan Op.Cleanup forced up h = absurd cc
some_of-stages P plan Op.Reprotect forced up h = absurd cc

-- The priorities

steps-at : (p n : ℕ) (steps : List Step) → Each (λ s. s.priority ≡ p) (steps_before p n steps)
steps-at p n [] = tt
steps-at p n (step ∷ steps) = go (step.before == p) refl (steps-at p (n + 1) steps)
  where
    go : (b : Bool) → (step.before == p) ≡ b → Each (λ s. s.priority ≡ p) (steps_before p (n + 1) steps) → Each (λ s. s.priority ≡ p) (cond b (step_stage n step ∷ steps_before p (n + 1) steps) (steps_before p (n + 1) steps))
    go true e rest = (eqb-true step.before p e, rest)
    go false e rest = rest

wave-at : (p d : ℕ) (ms : List ℕ) → Each (λ (w : Wave). w.priority ≡ p) (wave_of p d ms)
wave-at p d [] = tt
wave-at p d (m ∷ ms) = (refl, tt)

module _ (plan : Plan) where
  block-at : (p : ℕ) → Each (λ s. s.priority ≡ p) (start_priority plan p)
  block-at p =
      each-append (λ s. s.priority ≡ p) (steps_before p 1 plan.steps) _ (steps-at p 1 plan.steps)
      (each-of-map (λ s. s.priority ≡ p) started (waves_at plan.machines p)
      (each-flat_map (λ (w : Wave). w.priority ≡ p) (wave_at plan.machines p) (λ d. wave-at p d (machines_at plan.machines p d)) (depths_in plan.machines)))

  abbrev blocks : ℕ → ℕ → List Stage
  blocks a n = flat_map (start_priority plan) (range_with_len a n)

  blocks-from : (a n : ℕ) → Each (λ s. a ≤ s.priority) (blocks a n)
  blocks-from a zero = tt
  blocks-from a (suc n) =
      each-append (λ s. a ≤ s.priority) (start_priority plan a) _
      (each-map (λ s. s.priority ≡ a) (λ s. a ≤ s.priority) (λ s h. omega (arith, h)) _ (block-at a))
      (each-map (λ s. a + 1 ≤ s.priority) (λ s. a ≤ s.priority) (λ s h. omega (arith, h)) _ (blocks-from (a + 1) n))

-- The order

module _ (R : Stage → Stage → Type 0) where
  abbrev pub IsSortedBy : List Stage → Type 0
  IsSortedBy [] = Unit {0}
  IsSortedBy (s ∷ rest) = Each (R s) rest × IsSortedBy rest

  pub sorted-append : (xs ys : List Stage) → IsSortedBy xs → IsSortedBy ys → Each (λ x. Each (R x) ys) xs → IsSortedBy (xs ++ ys)
  sorted-append [] ys hx hy between = hy
  sorted-append (x ∷ xs) ys hx hy between = (each-append (R x) xs ys hx.0 between.0, sorted-append xs ys hx.1 hy between.1)

  -- by numbers
  pub sorted_numbers : ((s : Stage) → R s no_stage) → (n : ℕ) (ss : List Stage) → IsSortedBy ss → (i j : ℕ) → n ≤ i → i < j → R (stage_from n ss i) (stage_from n ss j)
  sorted_numbers past n [] h i j above below = past no_stage
  sorted_numbers past n (s ∷ ss) h i j above below = go (cases_eq i n) (λ le. sorted_numbers past (n + 1) ss h.1 i j le below)
    where
      go : (i ≡ n) ⊎ (i ≡ n → ⊥) → (n + 1 ≤ i → R (stage_from (n + 1) ss i) (stage_from (n + 1) ss j)) → R (stage_from n (s ∷ ss) i) (stage_from n (s ∷ ss) j)
      go (inl e) later = rw (eq-eqb i n e, ne_eqb j n (λ same. omega arith)) (stage_from-each (R s) (n + 1) ss j (past s) h.0)
      go (inr ne) later = rw (ne_eqb i n ne, ne_eqb j n (λ same. omega arith)) (later (omega arith))

  module _ (quiet : (s t : Stage) → StartsNothing s → R s t) (across : (s t : Stage) → s.priority < t.priority → R s t) where
    -- before anything, what starts nothing
    before_all : (s : Stage) → StartsNothing s → (ys : List Stage) → Each (R s) ys
    before_all s h [] = tt
    before_all s h (y ∷ ys) = (quiet s y h, before_all s h ys)

    sorted-quiet : (xs ys : List Stage) → Each StartsNothing xs → IsSortedBy ys → IsSortedBy (xs ++ ys)
    sorted-quiet [] ys h s = s
    sorted-quiet (x ∷ xs) ys h s = (before_all x h.0 (xs ++ ys), sorted-quiet xs ys h.1 s)

    module _ (plan : Plan) (waves : (p : ℕ) → IsSortedBy (map started (waves_at plan.machines p))) where
      block-sorted : (p : ℕ) → IsSortedBy (start_priority plan p)
      block-sorted p = sorted-quiet (steps_before p 1 plan.steps) (map started (waves_at plan.machines p)) (each-map IsCallout StartsNothing quiet_callout _ (steps_before-kind p 1 plan.steps)) (waves p)

      blocks-sorted : (a n : ℕ) → IsSortedBy (blocks plan a n)
      blocks-sorted a zero = tt
      blocks-sorted a (suc n) =
          sorted-append (start_priority plan a) (blocks plan (a + 1) n) (block-sorted a) (blocks-sorted (a + 1) n)
          (each-map (λ s. s.priority ≡ a) (λ s. Each (R s) (blocks plan (a + 1) n))
          (λ s h. each-map (λ t. a + 1 ≤ t.priority) (R s) (λ t k. across s t (omega (arith, h, k))) (blocks plan (a + 1) n) (blocks-from plan (a + 1) n))
          _ (block-at plan a))

      abbrev frozen_then_up : List Stage
      frozen_then_up = array_stage StageKind.Prepare ∷ array_stage StageKind.FinalSync ∷ array_stage StageKind.Split ∷ start_up plan

      pub stages_sorted : (o : Op) (forced : Bool) → is_start_up o ≡ true → IsSortedBy (stages plan o forced)
      stages_sorted o forced up = go o forced up
        where
          first : (kind : StageKind) (ys : List Stage) → (kind ≡ StageKind.Start → ⊥) → IsSortedBy ys → IsSortedBy (array_stage kind ∷ ys)
          first kind ys ne s = (before_all (array_stage kind) ne ys, s)

          starts : IsSortedBy (start_up plan)
          starts = blocks-sorted 1 5

          recovers : IsSortedBy (recovery plan)
          recovers =
              first StageKind.Sync (wind_down StageKind.Stop plan ++ frozen_then_up) (λ e. cc)
              (sorted-quiet (wind_down StageKind.Stop plan) frozen_then_up (quiet_stops plan)
              (first StageKind.Prepare (array_stage StageKind.FinalSync ∷ array_stage StageKind.Split ∷ start_up plan) (λ e. cc) (first StageKind.FinalSync (array_stage StageKind.Split ∷ start_up plan) (λ e. cc) (first StageKind.Split (start_up plan) (λ e. cc) starts))))

          go : (o : Op) (forced : Bool) → is_start_up o ≡ true → IsSortedBy (stages plan o forced)
          go Op.Testing forced e = first StageKind.Sync (array_stage StageKind.TestStart ∷ start_up plan) (λ e. cc) (first StageKind.TestStart (start_up plan) (λ e. cc) starts)
          go Op.Migrate forced e = recovers
          go Op.Failover false e = recovers
          go Op.Failover true e = first StageKind.Split (start_up plan) (λ e. cc) starts
          go Op.Cleanup forced e = absurd cc
          go Op.Reprotect forced e = absurd cc
