-- In a plan in order a machine is in one Stop wave, so one stage of a recovery stops it.
use Rattle.std.specs.Prelude.{◌≡◌, ℕ, suc, ◌<◌, Bool, true, false, List, [], ◌∷◌, ◌++◌, Some, slice_get, length, map, reverse}
use Rattle.std.proofs.Common.{refl, sym, ◌∙◌, inl, inr, subst, arith}
use Rattle.std.proofs.lemmas.List.{reverse-append}
use Rattle.std.proofs.lemmas.Option.{slice_get_within, slice_get_read, get_or_from_slice_get}
use Rattle.dr_plan.specs.Waves.{waves_of}
use Rattle.dr_plan.specs.Orders.{IsOrdered, IsEarlierWave, IsWave, AreWaves}
use Rattle.dr_plan.proofs.WaveOrder.{are_waves}
use Rattle.dr_meaning.specs.Types.{Plan, Wave}
use Rattle.dr_meaning.specs.declared.stage.StageKind.{StageKind}
use Rattle.dr_meaning.specs.declared.stage.Stage.{Stage}
use Rattle.dr_base.specs.Lists.{has}
use Rattle.dr_meaning.specs.Stages.{array_stage, wave_stage, start_up, wind_down, recovery, no_stage}
use Rattle.dr_meaning.specs.Meaning.{is_wave_of}
use Rattle.dr_meaning.proofs.Lists.{Each, each-reverse, all_each, each-map, each-of-map}
use Rattle.dr_meaning.proofs.Elements.{each-contains, contains-has}
use Rattle.dr_model.proofs.StageLaws.{IsCallout, each-start_up}
use Rattle.dr_model.proofs.StageOrder.{IsSortedBy, sorted-append, sorted_numbers}
use Rattle.dr_model.proofs.WaveEntries.{not_before}
use Rattle.dr_model.proofs.EqualLaws.{IsSingle, single_if}

-- One stage passes

module _ (p : Stage → Bool) where
  -- of the two one at most passes
  abbrev NotBoth : Stage → Stage → Type 0
  NotBoth s t = p s ≡ true → p t ≡ true → ⊥

  abbrev Fails : Stage → Type 0
  Fails s = p s ≡ true → ⊥

  -- so it is of any two, where none passes
  none_pass : (ss : List Stage) → Each Fails ss → IsSortedBy NotBoth ss
  none_pass [] h = tt
  none_pass (s ∷ ss) h = (each-map Fails (NotBoth s) (λ t fails a b. fails b) ss h.1, none_pass ss h.1)

  -- and in the list the other way round
  turned : (ss : List Stage) → IsSortedBy NotBoth ss → IsSortedBy NotBoth (reverse ss)
  turned [] h = tt
  turned (s ∷ ss) h =
      rw (reverse-append (s ∷ []) ss)
      (sorted-append NotBoth (reverse ss) (s ∷ []) (turned ss h.1) (tt, tt)
      (each-map (NotBoth s) (λ t. Each (NotBoth t) (s ∷ [])) (λ t apart. (λ a b. apart b a, tt)) (reverse ss) (each-reverse (NotBoth s) ss h.0)))

  -- then one number at most has a stage that passes
  single_of : (ss : List Stage) → p no_stage ≡ false → IsSortedBy NotBoth ss → IsSingle ss p
  single_of ss none sorted = single_if ss p none (λ i j least below a b. sorted_numbers NotBoth (λ s passes ends. let wrong : true ≡ false = sym ends ∙ none in cc) 1 ss sorted i j least below a b)

-- The Stop waves

module _ (plan : Plan) (ordered : IsOrdered plan) (k : ℕ) where
  abbrev NotIn : Wave → Wave → Type 0
  NotIn v w = has v.machines k ≡ true → has w.machines k ≡ true → ⊥

  -- of two waves, one before the other, one at most has the machine
  not_in : (v w : Wave) → IsWave plan v → IsWave plan w → IsEarlierWave v w → NotIn v w
  not_in v w is_v is_w earlier in_v in_w = not_before plan ordered v.priority v.depth w.priority w.depth k (is_v.only k (contains-has v.machines k in_v)) (is_w.only k (contains-has w.machines k in_w)) earlier

  -- of any two of these waves one at most has the machine
  abbrev AllNotIn : List Wave → Type 0
  AllNotIn ws = (i j : ℕ) (v w : Wave) → i < j → slice_get ws i ≡ Some v → slice_get ws j ≡ Some w → NotIn v w

  all_not_in : AllNotIn (waves_of plan)
  all_not_in i j v w lt at_i at_j = not_in v w (wave_at i v at_i) (wave_at j w at_j) (are.in_order i j v w lt at_i at_j)
    where
      are : AreWaves plan (waves_of plan)
      are = are_waves plan ordered

      wave_at : (n : ℕ) (u : Wave) → slice_get (waves_of plan) n ≡ Some u → IsWave plan u
      wave_at n u at_n = subst (IsWave plan) (get_or_from_slice_get (waves_of plan) n u u at_n) (are.each n u (slice_get_within (waves_of plan) n u at_n))

  abbrev Stops : Stage → Bool
  Stops s = is_wave_of StageKind.Stop k s

  -- so it is of their stages
  stop_waves : (ws : List Wave) → AllNotIn ws → IsSortedBy (NotBoth Stops) (map (wave_stage StageKind.Stop) ws)
  stop_waves [] h = tt
  stop_waves (w ∷ ws) h = (
    each-of-map (NotBoth Stops (wave_stage StageKind.Stop w)) (wave_stage StageKind.Stop) ws
        (each-contains (NotIn w) ws (λ v c. h 0 (suc c.0) w v (omega arith) refl (slice_get_read ws (length ws) c.0 v refl c.1 (sym c.2)))),
    stop_waves ws (λ i j u v lt at_i at_j. h (suc i) (suc j) u v (omega arith) at_i at_j),
  )

  -- one number at most has a stage that stops the machine
  pub stop_single : IsSingle (recovery plan) (is_wave_of StageKind.Stop k)
  stop_single =
      single_of Stops (recovery plan) refl (
        all_each (NotBoth Stops (array_stage StageKind.Sync)) (λ s passes. absurd cc) (wind_down StageKind.Stop plan ++ later),
        sorted-append (NotBoth Stops) (wind_down StageKind.Stop plan) later
            (turned Stops _ (stop_waves (waves_of plan) all_not_in)) (none_pass Stops later none_later)
            (all_each (λ s. Each (NotBoth Stops s) later) (λ s. each-map (Fails Stops) (NotBoth Stops s) (λ t fails a b. fails b) later none_later) (wind_down StageKind.Stop plan)),
      )
    where
      later : List Stage
      later = array_stage StageKind.Prepare ∷ array_stage StageKind.FinalSync ∷ array_stage StageKind.Split ∷ start_up plan

      not_callout : (s : Stage) → IsCallout s → Fails Stops s
      not_callout s (inl e, none) p = let wrong : false ≡ true = rw e at p in cc
      not_callout s (inr e, none) p = let wrong : false ≡ true = rw e at p in cc

      none_later : Each (Fails Stops) later
      none_later = (λ p. cc, (λ p. cc, (λ p. cc, each-start_up (Fails Stops) plan not_callout (λ s e p. let wrong : false ≡ true = rw e at p in cc))))
