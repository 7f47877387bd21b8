-- In a plan in order a machine is in one Start wave, so one stage of a run starts it.
use Rattle.std.specs.Prelude.{◌≡◌, ℕ, ◌<◌, ◌≤◌, Bool, true, []}
use Rattle.std.specs.List.Sorted.{IsStrictlyIncreasing}
use Rattle.std.proofs.Common.{refl, arith}
use Rattle.std.proofs.lemmas.List.Elements.{All-contains}
use Rattle.dr_plan.specs.Waves.{waves_of}
use Rattle.dr_plan.specs.Orders.{IsOrdered, IsWave, AreWaves}
use Rattle.dr_plan.proofs.WaveOrder.{are_waves}
use Rattle.dr_meaning.specs.Types.{Op, Plan, Wave}
use Rattle.dr_meaning.specs.declared.stage.StageKind.{StageKind}
use Rattle.dr_meaning.specs.declared.stage.Stage.{Stage}
use Rattle.dr_meaning.specs.Stages.{stages, wave_stage, start_up, wind_down, stage_at}
use Rattle.dr_meaning.specs.Meaning.{is_wave_of}
use Rattle.dr_meaning.specs.InOrder.{is_start_up}
use Rattle.dr_meaning.proofs.Lists.{Each, each-reverse, each-of-map}
use Rattle.dr_meaning.proofs.Elements.{each-contains}
use Rattle.dr_model.proofs.StageLaws.{each-start_waves, each-op, stage_from-each}
use Rattle.dr_model.proofs.WaveOrder.{wave_numbers}
use Rattle.dr_model.proofs.WaveEntries.{not_before, wave_parts, in_wave, starts_up}
use Rattle.dr_model.proofs.EqualLaws.{IsSingle, single_if}

abbrev Ascends : Stage → Type 0
Ascends s = IsStrictlyIncreasing s.machines

module _ (plan : Plan) (ordered : IsOrdered plan) where
  -- one number at most has a stage that starts the machine
  pub start_single : (k : ℕ) → (o : Op) (forced : Bool) → IsSingle (stages plan o forced) (is_wave_of StageKind.Start k)
  start_single k o forced = single_if (stages plan o forced) (is_wave_of StageKind.Start k) refl apart
    where
      apart : (i j : ℕ) → 1 ≤ i → i < j → is_wave_of StageKind.Start k (stage_at (stages plan o forced) i) ≡ true → is_wave_of StageKind.Start k (stage_at (stages plan o forced) j) ≡ true → ⊥
      apart i j least below a b =
          let (first, listed) = wave_parts StageKind.Start k (stage_at (stages plan o forced) i) a in
          let (second, in_it) = wave_parts StageKind.Start k (stage_at (stages plan o forced) j) b in
          let up : is_start_up o ≡ true = starts_up plan o forced i k first listed in
          not_before plan ordered _ _ _ _ k (in_wave plan o forced up i first k listed) (in_wave plan o forced up j second k in_it) (wave_numbers plan o forced up i j least below first second)

  -- the machines of each stage ascend
  pub start_ascends : (o : Op) (forced : Bool) (n : ℕ) → IsStrictlyIncreasing (stage_at (stages plan o forced) n).machines
  start_ascends o forced n = stage_from-each Ascends 1 (stages plan o forced) n none (each-op Ascends plan o forced (λ kind. none) (λ up. (winds StageKind.Stop, starts)) (λ other. winds StageKind.Clear))
    where
      none : IsStrictlyIncreasing []
      none k within = absurd (omega (arith, within))

      are : AreWaves plan (waves_of plan)
      are = are_waves plan ordered

      waves : Each (λ (w : Wave). IsStrictlyIncreasing w.machines) (waves_of plan)
      waves = each-contains (λ (w : Wave). IsStrictlyIncreasing w.machines) (waves_of plan) (λ w among. let is : IsWave plan w = All-contains (IsWave plan) (waves_of plan) w are.each among in is.ascending)

      winds : (kind : StageKind) → Each Ascends (wind_down kind plan)
      winds kind = each-reverse Ascends _ (each-of-map Ascends (wave_stage kind) (waves_of plan) waves)

      starts : Each Ascends (start_up plan)
      starts = each-start_waves Ascends plan (λ s callout. rw callout.1 none) waves
