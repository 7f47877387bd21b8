-- A wave is its stage's work on machines.
use Rattle.std.specs.Prelude.{Contains, slice_get}
use Rattle.std.proofs.Common.{◌≡◌, ℕ, ◌∙◌, ◌⊎◌, inl, inr, true, false, List, refl, ap}
use Rattle.std.proofs.lemmas.Bool.{cases_Bool}
use Rattle.dr_groups.specs.Groups.{IsMachineOf}
use Rattle.dr_base.specs.declared.side.Side.{Side}
use Rattle.dr_base.specs.declared.side.Side.TheVariants.{A, B}
use Rattle.dr_base.specs.Sides.{other, same_side}
use Rattle.dr_base.specs.Lists.{has}
use Rattle.dr_outside.specs.declared.machine.Placed.{Placed}
use Rattle.dr_outside.specs.BySide.{at}
use Rattle.dr_outside.specs.Machines.{PortState, no_machine}
use Rattle.dr_outside.proofs.Drifts.{Drift-refl}
use Rattle.dr_meaning.specs.Types.{Estate, PlanMachine}
use Rattle.dr_meaning.specs.declared.stage.Stage.{Stage}
use Rattle.dr_meaning.specs.declared.stage.StageKind.{StageKind}
use Rattle.dr_meaning.specs.Worlds.{World}
use Rattle.dr_meaning.specs.Runs.{Run, op, new, holds}
use Rattle.dr_meaning.specs.StartUp.{is_started}
use Rattle.dr_meaning.specs.Outcomes.{PostOutcome}
use Rattle.dr_meaning.specs.Reach.{works, side_of_wave}
use Rattle.dr_meaning.specs.Expected.{wanted}
use Rattle.dr_meaning.specs.InOrder.{MayRun}
use Rattle.dr_meaning.specs.Calls.{KeepsCodes, CallsMachines}
use Rattle.dr_wave.specs.declared.slot.Slot.{Slot}
use Rattle.dr_wave.specs.declared.slot.Want.{Want}
use Rattle.dr_wave.specs.declared.slot.Found.{Found}
use Rattle.dr_wave.specs.Steps.{Step, PostStep}
use Rattle.dr_wave.specs.Waves.{slot_state, want_at, StepsAt}
use Rattle.dr_wave.specs.Wants.{works_at, IsStageWant, with_slots}
use Rattle.dr_wave.proofs.SlotLaws.{by_place}
use Rattle.dr_wave.proofs.StepFacts.{step_keeps}

same_side_is : (s t : Side) → same_side s t ≡ true → t ≡ s
same_side_is A A e = refl
same_side_is A B e = absurd (cc e)
same_side_is B A e = absurd (cc e)
same_side_is B B e = refl

other_side_is : (s t : Side) → same_side s t ≡ false → other t ≡ s
other_side_is A A e = absurd (cc e)
other_side_is A B e = refl
other_side_is B A e = refl
other_side_is B B e = absurd (cc e)

module _ (tells : Type 0) (t : tells) where
  -- a step of a stage, where it works
  works_here : (kind : StageKind) (side : Side) (w : Placed) (want : Want) (old now : PortState) (found : Found) → IsStageWant kind side w want → Step tells want old now found →
      (s : Side) → works_at want s ≡ true → PostStep kind w (at s old.post) (at s now.post)
  works_here kind side w Want.Nothing old now found is step s here = absurd is
  works_here kind side w Want.Look old now found is step s here = absurd is
  works_here kind side w (Want.Start want) old now found is step s here =
      let e : want.side ≡ s = same_side_is s want.side here in
      rw (is.0, ← is.2, ← e) (step.leaves t).here
  works_here kind side w (Want.Stop own) old now found is step s here =
      let e : own ≡ s = same_side_is s own here in
      rw (is.0, ← e) ((step.leaves t).here w)
  works_here kind side w (Want.Clear own) old now found is step s here =
      let e : own ≡ s = same_side_is s own here in
      rw (is.0, ← e) ((step.leaves t).here w)

  -- any step, elsewhere
  pub works_nowhere_else : (want : Want) (old now : PortState) (found : Found) → Step tells want old now found → (s : Side) → works_at want s ≡ false → at s now.post ≡ at s old.post
  works_nowhere_else Want.Nothing old now found step s isnt = ap (at s) (step.leaves t).post
  works_nowhere_else Want.Look old now found step s isnt = ap (at s) (step.leaves t).post
  works_nowhere_else (Want.Start want) old now found step s isnt = rw (← other_side_is s want.side isnt) (step.leaves t).there
  works_nowhere_else (Want.Stop own) old now found step s isnt = rw (← other_side_is s own isnt) (step.leaves t).there
  works_nowhere_else (Want.Clear own) old now found step s isnt = rw (← other_side_is s own isnt) (step.leaves t).there

  module _ {P : Type 0} (state : P → PortState) (estate : Estate) (run : Run) (stage : Stage) (world : World) (picks : List ℕ) (was now : List (Slot P))
      (steps : (m : ℕ) → has picks m ≡ true → StepsAt tells state (want_at was m) was now m)
      (others : (m : ℕ) → has picks m ≡ false → slice_get now m ≡ slice_get was m)
      (where_worked : (m : ℕ) (side : Side) → has picks m ≡ true → works_at (want_at was m) side ≡ works run stage m side)
      (wants : (g m : ℕ) → IsMachineOf estate g m → has picks m ≡ true → (holds g run ≡ true) × IsStageWant stage.kind (side_of_wave (op run) run.old stage.kind) (wanted g run m) (want_at was m))
      (starts : (m : PlanMachine) → Contains run.plan.machines m → is_started (at (new run) (slot_state state was m.machine).post) ≡ false → is_started (at (new run) (slot_state state now m.machine).post) ≡ true → MayRun (with_slots state now world) run m) where
    still : (m : ℕ) → has picks m ≡ false → slot_state state now m ≡ slot_state state was m
    still m isnt = by_place (λ slot. state slot.port) no_machine was now m (others m isnt)

    worked : (g m : ℕ) (side : Side) → IsMachineOf estate g m → works run stage m side ≡ true →
        (at side (slot_state state now m).post ≡ at side (slot_state state was m).post) ⊎ ((holds g run ≡ true) × PostOutcome stage.kind (wanted g run m) (at side (slot_state state was m).post) (at side (slot_state state now m).post))
    worked g m side of here = elim (cases_Bool (has picks m)) [
      | inl picked ↦
          let (held, is) = wants g m of picked in
          elim (works_here stage.kind _ (wanted g run m) (want_at was m) _ _ _ is (steps m picked) side (where_worked m side picked ∙ here)) [
            | inl same ↦ inl same
            | inr outcome ↦ inr (held, outcome)
          ]
      | inr isnt ↦ inl (ap (λ (machine : PortState). at side machine.post) (still m isnt))
    ]

    elsewhere : (m : ℕ) (side : Side) → works run stage m side ≡ false → at side (slot_state state now m).post ≡ at side (slot_state state was m).post
    elsewhere m side isnt_here = elim (cases_Bool (has picks m)) [
      | inl picked ↦ works_nowhere_else (want_at was m) _ _ _ (steps m picked) side (where_worked m side picked ∙ isnt_here)
      | inr isnt ↦ ap (λ (machine : PortState). at side machine.post) (still m isnt)
    ]

    kept : (m : ℕ) → KeepsCodes (slot_state state was m).kept (slot_state state now m).kept
    kept m = elim (cases_Bool (has picks m)) [
      | inl picked ↦ step_keeps tells t (want_at was m) _ _ _ (steps m picked)
      | inr isnt ↦ λ token code h. rw (still m isnt) h
    ]

    pub wave_calls : CallsMachines estate run stage (with_slots state was world) (with_slots state now world)
    wave_calls = record { worked = worked; others = elsewhere; starts = starts; kept = kept; drifts = λ p. Drift-refl (world.pair p); rest = refl }
