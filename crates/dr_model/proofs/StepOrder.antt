-- The plan's steps before a priority stand before its Start waves.
use Rattle.std.specs.Prelude.{◌≡◌, ℕ, ◌+◌, ◌<◌, ◌≤◌, ◌==◌, ◌⊎◌, Bool, true, false, List, [], ◌∷◌, cond}
use Rattle.std.proofs.Common.{refl, sym, ap, ◌∙◌, inl, inr, arith, subst}
use Rattle.std.proofs.lemmas.Bool.{eq-eqb, cases_eq, cases_lt}
use Rattle.dr_plan.specs.Waves.{waves_at, priorities}
use Rattle.dr_meaning.specs.Types.{Op, Callout, Step, Plan}
use Rattle.dr_meaning.specs.declared.stage.StageKind.{StageKind}
use Rattle.dr_meaning.specs.declared.stage.Stage.{Stage}
use Rattle.dr_meaning.specs.Stages.{stages, step_stage, start_priority, steps_before, start_up, stage_from}
use Rattle.dr_meaning.specs.InOrder.{is_start_up}
use Rattle.dr_meaning.proofs.Lists.{Each, each-map, Some_of, some_of-left, some_of-flat_map}
use Rattle.dr_model.proofs.StageLaws.{IsWave, priorities-has, waves-kind}
use Rattle.dr_model.proofs.StageOrder.{StartsNothing, some_of-stages, IsSortedBy, sorted_numbers, stages_sorted}
use Rattle.dr_model.proofs.WaveOrder.{number_with}

-- Behind a Start wave, a step of the plan has a later priority

abbrev LaterStep : Stage → Stage → Type 0
LaterStep s t = s.kind ≡ StageKind.Start → StartsNothing t → 1 ≤ t.step → s.priority < t.priority

waves_sorted : (ss : List Stage) → Each (IsWave StageKind.Start) ss → IsSortedBy LaterStep ss
waves_sorted [] h = tt
waves_sorted (s ∷ ss) h = (each-map (IsWave StageKind.Start) (LaterStep s) (λ t e k l m. absurd (l e)) ss h.1, waves_sorted ss h.1)

step_numbers : (plan : Plan) (o : Op) (forced : Bool) → is_start_up o ≡ true → (i j : ℕ) → 1 ≤ i → i < j → LaterStep (stage_from 1 (stages plan o forced) i) (stage_from 1 (stages plan o forced) j)
step_numbers plan o forced up =
    sorted_numbers LaterStep (λ s k l m. absurd (omega (arith, m))) 1 (stages plan o forced)
    (stages_sorted LaterStep (λ s t h k l m. absurd (h k)) (λ s t lt k l m. lt) plan (λ p. waves_sorted _ (waves-kind StageKind.Start (waves_at plan.machines p))) o forced up)

-- Each step has its stage

-- each of these has P, with its number, where the first has this one
abbrev pub EachFrom : (ℕ → Step → Type 0) → ℕ → List Step → Type 0
EachFrom P n [] = Unit {0}
EachFrom P n (step ∷ steps) = P n step × EachFrom P (n + 1) steps

from-map : (P Q : ℕ → Step → Type 0) → ((k : ℕ) (step : Step) → P k step → Q k step) → (n : ℕ) (steps : List Step) → EachFrom P n steps → EachFrom Q n steps
from-map P Q f n [] h = tt
from-map P Q f n (step ∷ steps) h = (f n step h.0, from-map P Q f (n + 1) steps h.1)

abbrev pub IsBefore : ℕ → List Step → ℕ → Step → Type 0
IsBefore n steps k step = (n ≤ k) × Some_of (λ s. s ≡ step_stage k step) (steps_before step.before n steps)

pub steps-listed : (n : ℕ) (steps : List Step) → EachFrom (IsBefore n steps) n steps
steps-listed n [] = tt
steps-listed n (step ∷ steps) = ((omega arith, rw (eq-eqb step.before step.before refl) (inl refl)), from-map (IsBefore (n + 1) steps) (IsBefore n (step ∷ steps)) more (n + 1) steps (steps-listed (n + 1) steps))
  where
    more : (k : ℕ) (x : Step) → IsBefore (n + 1) steps k x → IsBefore n (step ∷ steps) k x
    more k x h = (omega (arith, h.0), go (step.before == x.before))
      where
        go : (b : Bool) → Some_of (λ s. s ≡ step_stage k x) (cond b (step_stage n step ∷ steps_before x.before (n + 1) steps) (steps_before x.before (n + 1) steps))
        go true = inr h.1
        go false = h.1

start_up-step : (plan : Plan) (k : ℕ) (step : Step) → 1 ≤ step.before → step.before ≤ 5 → IsBefore 1 plan.steps k step → Some_of (λ s. s ≡ step_stage k step) (start_up plan)
start_up-step plan k step least greatest h =
    some_of-flat_map (λ s. s ≡ step_stage k step) (start_priority plan) priorities
    (priorities-has (λ p. Some_of (λ s. s ≡ step_stage k step) (start_priority plan p)) step.before least greatest
    (some_of-left (λ s. s ≡ step_stage k step) (steps_before step.before 1 plan.steps) _ h.1))

step_quiet : (k : ℕ) (what : Callout) (before : ℕ) → StartsNothing (step_stage k (record { before = before; what = what }))
step_quiet k (Callout.Command name) before e = cc
step_quiet k (Callout.Prompt text) before e = cc

-- the stage of a step has a lower number than each Start wave that its priority doesn't come after
module _ (plan : Plan) (o : Op) (forced : Bool) (up : is_start_up o ≡ true) (j : ℕ) (from_one : 1 ≤ j) (kind : (stage_from 1 (stages plan o forced) j).kind ≡ StageKind.Start) where
  abbrev ss : List Stage
  ss = stages plan o forced

  step_below : (k : ℕ) (step : Step) → 1 ≤ k → step.before ≤ (stage_from 1 ss j).priority → (i : ℕ) → stage_from 1 ss i ≡ step_stage k step → i < j
  step_below k step counted before i its = go (cases_lt i j)
    where
      quiet : StartsNothing (stage_from 1 ss i)
      quiet = subst StartsNothing (sym its) (step_quiet k step.what step.before)

      apart : (j ≡ i) ⊎ (j ≡ i → ⊥) → j ≤ i → i < j
      apart (inl same) le = absurd (quiet (ap (λ n. (stage_from 1 ss n).kind) (sym same) ∙ kind))
      apart (inr ne) le =
          let behind : (stage_from 1 ss j).priority < (stage_from 1 ss i).priority = step_numbers plan o forced up j i from_one (omega arith) kind quiet (omega (arith, counted, ap (λ s. s.step) its)) in
          absurd (omega (arith, behind, before, ap (λ s. s.priority) its))

      go : (i < j) ⊎ (j ≤ i) → i < j
      go (inl lt) = lt
      go (inr le) = apart (cases_eq j i) le

  pub step_number : (k : ℕ) (step : Step) → 1 ≤ step.before → step.before ≤ 5 → IsBefore 1 plan.steps k step → step.before ≤ (stage_from 1 ss j).priority → (i : ℕ) × (1 ≤ i) × (i < j) × (stage_from 1 ss i ≡ step_stage k step)
  step_number k step least greatest h before =
      let (i, above, its) = number_with (λ s. s ≡ step_stage k step) 1 ss (some_of-stages (λ s. s ≡ step_stage k step) plan o forced up (start_up-step plan k step least greatest h)) in
      (i, above, step_below k step h.0 before i its, its)
