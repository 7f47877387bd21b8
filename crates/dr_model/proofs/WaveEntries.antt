-- A Start wave has machines of the plan with its priority and its depth, and a machine has one entry.
use Rattle.std.specs.Prelude.{◌≡◌, ℕ, zero, suc, ◌<◌, ◌==◌, ◌⊎◌, Bool, true, false, ◌&&◌, List, [], ◌∷◌, map, filter, Contains}
use Rattle.std.specs.List.Sorted.{IsStrictlyIncreasing}
use Rattle.std.proofs.Common.{refl, sym, ap, ◌∙◌, inl, inr, arith}
use Rattle.std.proofs.lemmas.Bool.{eqb-true}
use Rattle.std.proofs.lemmas.List.Elements.{All-contains, All-filter, All-contains_itself, filter_passes}
use Rattle.dr_plan.specs.Waves.{machines_at, wave_of, wave_at, waves_at, depths_in, priorities}
use Rattle.dr_plan.specs.Orders.{IsOrdered, IsAt}
use Rattle.dr_plan.proofs.OrderLaws.{mapped_from, mapped_to}
use Rattle.dr_plan.proofs.FaultLaws.{later, tail_up}
use Rattle.dr_meaning.specs.Types.{Op, PlanMachine, Plan}
use Rattle.dr_meaning.specs.declared.stage.StageKind.{StageKind}
use Rattle.dr_meaning.specs.declared.stage.Stage.{Stage}
use Rattle.dr_base.specs.Lists.{has}
use Rattle.dr_meaning.specs.Stages.{stages, wave_stage, start_up, stage_from}
use Rattle.dr_meaning.specs.Meaning.{same_kind, is_wave_of}
use Rattle.dr_meaning.specs.InOrder.{is_start_up}
use Rattle.dr_meaning.proofs.Lists.{Each, each-flat_map}
use Rattle.dr_meaning.proofs.Elements.{contains-has}
use Rattle.dr_model.proofs.ChainLaws.{and_left, and_right}
use Rattle.dr_model.proofs.NumberLaws.{kind-same}
use Rattle.dr_model.proofs.StageLaws.{Waves, each-start_waves, each-stages, each-clear_op, stage_from-each}

-- One entry

pub one_entry : (machines : List PlanMachine) → IsStrictlyIncreasing (map (λ m. m.machine) machines) → (x y : PlanMachine) → Contains machines x → Contains machines y → x.machine ≡ y.machine → x ≡ y
one_entry [] up x y (k, l, e) there same = absurd (omega arith)
one_entry (z ∷ zs) up x y (zero, l, e) (zero, r, f) same = sym e ∙ f
one_entry (z ∷ zs) up x y (zero, l, e) (suc k, r, f) same =
    let lt : z.machine < y.machine = later z.machine (map (λ m. m.machine) zs) up y.machine (mapped_to (λ (m : PlanMachine). m.machine) zs y (k, omega arith, f)) in
    absurd (omega (arith, lt, same, ap (λ (m : PlanMachine). m.machine) e))
one_entry (z ∷ zs) up x y (suc k, l, e) (zero, r, f) same =
    let lt : z.machine < x.machine = later z.machine (map (λ m. m.machine) zs) up x.machine (mapped_to (λ (m : PlanMachine). m.machine) zs x (k, omega arith, e)) in
    absurd (omega (arith, lt, same, ap (λ (m : PlanMachine). m.machine) f))
one_entry (z ∷ zs) up x y (suc k, l, e) (suc i, r, f) same =
    one_entry zs (tail_up z.machine (map (λ m. m.machine) zs) up) x y (k, omega arith, e) (i, omega arith, f) same

-- so its number has one priority and one depth
pub one_place : (plan : Plan) → IsOrdered plan → (p d q e k : ℕ) → IsAt plan p d k → IsAt plan q e k → (p ≡ q) × (d ≡ e)
one_place plan ordered p d q e k x y =
    let same : x.entry ≡ y.entry = one_entry plan.machines ordered.ascending x.entry y.entry x.listed y.listed (x.number ∙ sym y.number) in
    (sym x.same_priority ∙ ap (λ (m : PlanMachine). m.priority) same ∙ y.same_priority, sym x.same_depth ∙ ap (λ (m : PlanMachine). m.depth) same ∙ y.same_depth)

-- and of two places, one before the other, one at most has it
pub not_before : (plan : Plan) → IsOrdered plan → (p d q e k : ℕ) → IsAt plan p d k → IsAt plan q e k → (p < q) ⊎ ((p ≡ q) × (d < e)) → ⊥
not_before plan ordered p d q e k x y = go (one_place plan ordered p d q e k x y)
  where
    go : (p ≡ q) × (d ≡ e) → (p < q) ⊎ ((p ≡ q) × (d < e)) → ⊥
    go same (inl lower) = omega (arith, same.0, lower)
    go same (inr shallower) = omega (arith, same.1, shallower.1)

-- The machines of a wave

pub wave_parts : (kind : StageKind) (k : ℕ) (s : Stage) → is_wave_of kind k s ≡ true → Waves kind k s
wave_parts kind k s e = (kind-same s.kind kind (and_left _ (has s.machines k) e), and_right (same_kind s.kind kind) _ e)

pub at_from : (plan : Plan) (p d k : ℕ) → has (machines_at plan.machines p d) k ≡ true → IsAt plan p d k
at_from plan p d k h =
    let is_there : PlanMachine → Bool = λ m. (m.priority == p) && (m.depth == d) in
    let (x, among, number) = mapped_from (λ (m : PlanMachine). m.machine) (filter is_there plan.machines) k (contains-has _ k h) in
    let passes : is_there x ≡ true = All-contains (λ m. is_there m ≡ true) (filter is_there plan.machines) x (filter_passes is_there plan.machines) among in
    record {
      entry = x;
      listed = All-contains (Contains plan.machines) (filter is_there plan.machines) x (All-filter is_there (Contains plan.machines) plan.machines (All-contains_itself plan.machines)) among;
      number = number;
      same_priority = eqb-true x.priority p (and_left _ (x.depth == d) passes);
      same_depth = eqb-true x.depth d (and_right (x.priority == p) _ passes);
    }

module _ (plan : Plan) where
  abbrev HasEntries : Stage → Type 0
  HasEntries s = s.kind ≡ StageKind.Start → (k : ℕ) → has s.machines k ≡ true → IsAt plan s.priority s.depth k

  wave-entries : (p d : ℕ) (ks : List ℕ) → ((k : ℕ) → has ks k ≡ true → IsAt plan p d k) → Each (λ w. HasEntries (wave_stage StageKind.Start w)) (wave_of p d ks)
  wave-entries p d [] f = tt
  wave-entries p d (k ∷ ks) f = (λ e. f, tt)

  start_up-entries : Each HasEntries (start_up plan)
  start_up-entries =
      each-start_waves HasEntries plan (λ s c e k h. absurd (let wrong : has [] k ≡ true = rw c.1 at h in cc))
      (each-flat_map (λ w. HasEntries (wave_stage StageKind.Start w)) (waves_at plan.machines)
      (λ p. each-flat_map (λ w. HasEntries (wave_stage StageKind.Start w)) (wave_at plan.machines p) (λ d. wave-entries p d (machines_at plan.machines p d) (at_from plan p d)) (depths_in plan.machines))
      priorities)

  -- each machine of a Start wave
  pub in_wave : (o : Op) (forced : Bool) → is_start_up o ≡ true → (j : ℕ) → HasEntries (stage_from 1 (stages plan o forced) j)
  in_wave o forced up j =
      stage_from-each HasEntries 1 (stages plan o forced) j (λ e. cc)
      (each-stages HasEntries plan o forced up start_up-entries (λ s k e. let wrong : StageKind.Stop ≡ StageKind.Start = sym k ∙ e in cc) (λ kind e k h. absurd cc))

  abbrev Idle : Stage → Type 0
  Idle s = s.kind ≡ StageKind.Start → (k : ℕ) → has s.machines k ≡ true → ⊥

  -- only an operation with start-up has one
  pub starts_up : (o : Op) (forced : Bool) (j k : ℕ) → (stage_from 1 (stages plan o forced) j).kind ≡ StageKind.Start → has (stage_from 1 (stages plan o forced) j).machines k ≡ true → is_start_up o ≡ true
  starts_up o forced j k kind listed = go (is_start_up o) refl
    where
      go : (b : Bool) → is_start_up o ≡ b → is_start_up o ≡ true
      go true e = e
      go false e =
          absurd (stage_from-each Idle 1 (stages plan o forced) j (λ f. let wrong : StageKind.Prompt ≡ StageKind.Start = f in cc)
          (each-clear_op Idle plan o forced e (λ s c f. let wrong : StageKind.Clear ≡ StageKind.Start = sym c ∙ f in cc) (λ any f k h. absurd cc)) kind k listed)
