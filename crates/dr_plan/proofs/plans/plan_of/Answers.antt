use Rattle.std.proofs.Common.{◌≡◌, ◌∙◌, ◌≤◌, ℕ, List, length, sym, ap, subst, arith}
use Rattle.std.specs.List.{All}
use Rattle.dr_inventory.specs.Sound.{AllBelow}
use Rattle.dr_plan.specs.Waves.{waves_in}
use Rattle.dr_plan.specs.Plans.{plan_machines}
use Rattle.dr_plan.proofs.FaultLaws.{groups_right, priorities_named}
use Rattle.dr_plan.proofs.PlanLaws.{pairs_within, groups_below, all_priorities, plan_waves_few}
use Rattle.dr_plan.proofs.plans.plan_of.Goals as goal

pub all_held-requires-clause-declared : goal.all_held-requires-clause-declared
all_held-requires-clause-declared c =
    groups_below c.args.estate.now c.args.row.now (length c.as_slice.result.now) c.deref.result.now (groups_right c.args.estate.now c.args.members.now c.args.row.now c.requires.valid.named)
    (c.deref.ensures.value ∙ c.requires.groups) (ap length c.as_slice.ensures ∙ c.requires.members.pairs.one_each)

pub all_held-requires-clause-within : goal.all_held-requires-clause-within
all_held-requires-clause-within c =
    let P : ℕ → Type 0 = λ n. All (AllBelow n) c.as_slice.result.now in
    let Q : List (List ℕ) → Type 0 = λ xs. All (AllBelow (length c.args.estate.now.devices)) xs in
    subst P (sym (ap length c.as_slice-2.ensures)) (subst Q (sym c.as_slice.ensures) (pairs_within c.args.estate.now c.args.members.now c.requires.sound c.requires.members))

pub machines_of-requires-clause-priorities : goal.machines_of-requires-clause-priorities
machines_of-requires-clause-priorities c = all_priorities c.args.estate.now c.args.row.now (priorities_named c.args.estate.now c.args.members.now c.args.row.now c.requires.valid.named)

pub overflow_cast-wave_count : goal.overflow_cast-wave_count
overflow_cast-wave_count c =
    let machines = plan_machines c.args.estate.now c.args.members.now c.args.row.now c.args.depths.now in
    let long : length c.in_ok-waves_in.field-0.items ≡ length (waves_in machines) = ap length c.in_ok-waves_in.ensures ∙ ap (λ xs. length (waves_in xs)) (c.deref-2.ensures.value ∙ c.in_ok-machines.ensures) in
    let few : length (waves_in machines) ≤ 10005 = plan_waves_few c.args.estate.now c.args.members.now c.args.row.now c.args.depths.now c.requires.small in
    omega (arith, long, few, c.len-wave_count.ensures)
