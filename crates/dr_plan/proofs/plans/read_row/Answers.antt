use Rattle.std.proofs.Common.{◌≡◌, ◌∙◌, List, [], ℕ, ℤ, SFits, w64, sym, ap, subst, arith, rules}
use Rattle.std.proofs.lemmas.Int.{to_z-of_z}
use Rattle.std.proofs.lemmas.Bool.Decides.{nat_tests}
use Rattle.std.proofs.lemmas.List.{nil_from_length}
use Rattle.std.proofs.lemmas.Result.{err_from_is_err_and}
use Rattle.dr_base.specs.declared.plan_fault.PlanFault.TheVariants.{BadPosition}
use Rattle.dr_groups.specs.Marks.{ListsAscending}
use Rattle.dr_plan.specs.Cycles.{IsGraph, IsOnCycle}
use Rattle.dr_plan.specs.Rows.{dependencies}
use Rattle.dr_plan.specs.Faults.{IsFirstPosition, IsRowValid, name_faults}
use Rattle.dr_plan.specs.Plans.{AreDepths}
use Rattle.dr_plan.specs.Lookups.{number_and_position}
use Rattle.dr_plan.proofs.FirstLaws.{names_right}
use Rattle.dr_plan.proofs.PlanLaws.{graph_within, no_cycles, position_told, positions_right}
use Rattle.dr_plan.proofs.plans.read_row.Goals.{After-first_bad_position, In_default}
use Rattle.dr_plan.proofs.plans.read_row.Goals as goal

-- nothing is wrong with the names and the priorities
named : (c : After-first_bad_position) → name_faults c.args.estate.now c.args.members.now c.args.row.now ≡ []
named c =
    let groups = c.in_ok-groups.ensures.right in
    let machines = c.in_ok-found.ensures.right in
    names_right c.args.estate.now c.args.members.now c.args.row.now groups.known groups.once machines.known machines.priorities machines.same_priorities

-- no machine is on a cycle
acyclic : (c : After-first_bad_position) → (m : ℕ) → ¬ IsOnCycle (dependencies c.args.estate.now c.args.row.now) m
acyclic c =
    let cycles = c.in_ok-cycles.cycles.items in
    let Lists : List (List ℕ) → Type 0 = λ g. ListsAscending (IsOnCycle g) cycles in
    let none : cycles ≡ [] = nil_from_length cycles (grind (arith, nat_tests, c.is_empty.ensures, c.if-not-is_empty.false)) in
    no_cycles (dependencies c.args.estate.now c.args.row.now) cycles (subst Lists (c.deref-2.ensures.value ∙ c.in_ok-found.ensures.found.graph) c.in_ok-cycles.ensures) none

-- the row is right as a whole
valid : (c : In_default) → name_faults c.args.estate.now c.args.members.now c.args.row.now ≡ [] → ((m : ℕ) → ¬ IsOnCycle (dependencies c.args.estate.now c.args.row.now) m) → IsRowValid c.args.estate.now c.args.members.now c.args.row.now
valid c names no_cycle = record { named = names; no_cycle = no_cycle; positions = positions_right 1 c.args.row.now.step (c.in_default.ensures ∙ ap (number_and_position 1) c.as_slice.ensures) }

pub returns-in_err-groups-clause-stops : goal.returns-in_err-groups-clause-stops
returns-in_err-groups-clause-stops c =
    let p = err_from_is_err_and c.from_residual.result c.from_residual.ensures.1 in
    rw (p.1, p.2) (c.in_err-groups.ensures.stops c.args.members.now)

pub on_cycles-requires-clause-graph : goal.on_cycles-requires-clause-graph
on_cycles-requires-clause-graph c =
    let P : List (List ℕ) → Type 0 = λ g. IsGraph g in
    subst P (sym (c.deref-2.ensures.value ∙ c.in_ok-found.ensures.found.graph)) (graph_within c.args.estate.now c.args.row.now)

pub returns-in-Some-clause-stops : goal.returns-in-Some-clause-stops
returns-in-Some-clause-stops c =
    let e = c.args.estate.now in
    let row = c.args.row.now in
    let found = (goal.at.returns-in-Some-clause-stops c).After-first_bad_position in
    let n = c.in-Some.number in
    let fits : SFits w64 n = search rules in
    let P : ℤ → Type 0 = λ z. IsFirstPosition e c.args.members.now row (BadPosition c.in-Some.step z) in
    subst P (sym (to_z-of_z w64 n fits)) (record { named = named found; no_cycle = acyclic found; told = position_told 1 row.step (c.in-Some.step, n) (c.in-Some.ensures ∙ ap (number_and_position 1) c.as_slice.ensures) })

pub depths_of-requires-clause-graph : goal.depths_of-requires-clause-graph
depths_of-requires-clause-graph c =
    let P : List (List ℕ) → Type 0 = λ g. IsGraph g in
    subst P (sym (c.deref-3.ensures.value ∙ c.in_ok-found.ensures.found.graph)) (graph_within c.args.estate.now c.args.row.now)

pub depths_of-requires-clause-no_cycle : goal.depths_of-requires-clause-no_cycle
depths_of-requires-clause-no_cycle c =
    let P : List (List ℕ) → Type 0 = λ g. (m : ℕ) → ¬ IsOnCycle g m in
    subst P (sym (c.deref-3.ensures.value ∙ c.in_ok-found.ensures.found.graph)) (acyclic (goal.at.depths_of-requires-clause-no_cycle c).After-first_bad_position)

pub plan_of-requires-clause-valid : goal.plan_of-requires-clause-valid
plan_of-requires-clause-valid c =
    let at = goal.at.plan_of-requires-clause-valid c in
    valid at.In_default (named at.After-first_bad_position) (acyclic at.After-first_bad_position)

pub returns-clause-plan : goal.returns-clause-plan
returns-clause-plan c =
    let at = goal.at.returns-clause-plan c in
    let P : List (List ℕ) → Type 0 = λ g. AreDepths g c.deref-4.result.now in
    let Q : List ℕ → Type 0 = λ ds. AreDepths c.deref-3.result.now ds in
    record {
      row_valid = valid at.In_default (named at.After-first_bad_position) (acyclic at.After-first_bad_position);
      depths = c.deref-4.result.now;
      are_depths = subst P (c.deref-3.ensures.value ∙ c.in_ok-found.ensures.found.graph) (subst Q (sym c.deref-4.ensures.value) c.in_ok-depths.ensures.depths);
      value = c.in_ok-plan_of.ensures;
    }
