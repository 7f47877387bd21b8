use Rattle.std.proofs.Common.{◌≡◌, ◌∙◌, ℕ, ℤ, Bool, List, [], length, sym, ap, subst, arith, rules, refl, SFits, w64, Some}
use Rattle.std.proofs.lemmas.Int.{to_z-of_z}
use Rattle.dr_base.specs.declared.plan_fault.PlanFault.TheVariants.{BadPriority}
use Rattle.dr_inventory.specs.Names.{first}
use Rattle.dr_plan.specs.Faults.{name_faults, unknown_machines}
use Rattle.std.specs.List.{All}
use Rattle.std.proofs.lemmas.List.{length-map}
use Rattle.dr_inventory.specs.Sound.{AllBelow}
use Rattle.dr_inventory.specs.Places.{AllFit, number_in}
use Rattle.dr_inventory.specs.declared.estate.Machine.{Machine}
use Rattle.dr_plan.specs.Rows.{group_numbers, is_planned, machine_names, machine_number}
use Rattle.dr_plan.specs.Lookups.{is_marked_name, row_names, AreMarks}
use Rattle.dr_plan.proofs.FirstLaws.{unknown_machine_told, machines_known, bad_priority_told, priorities_right, other_priority_told, same_priorities, numbers_same}
use Rattle.dr_plan.proofs.LookupLaws.{places_below, places_fit, places_same}
use Rattle.dr_plan.proofs.PlanLaws.{machines_within, groups_below, marks_same, marked_planned, graph_same}
use Rattle.dr_plan.proofs.machines.read_machines.Goals.{In_ok-marks, After-first_unknown, In_default}
use Rattle.dr_plan.proofs.machines.read_machines.Goals as goal

-- the names are those of the estate's machines
named : (c : In_ok-marks) → c.deref.result.now ≡ machine_names c.args.estate.now
named c = c.deref.ensures.value ∙ c.in_ok-names.ensures

-- there are as many names as machines
one_each : (c : In_ok-marks) → length c.deref.result.now ≡ length c.args.estate.now.machines
one_each c =
    let name : Machine → List ℕ = λ m. m.name in
    ap length (named c) ∙ length-map c.args.estate.now.machines name

-- each place of a machine fits 32 bits
fit : (c : In_ok-marks) → AllFit c.in_ok-machines.machines
fit c = places_fit c.deref.result.now c.in_ok-machines.machines c.in_ok-machines.ensures (omega (arith, one_each c, c.requires.sound.limits.machines))

-- the number that is kept for a name is the machine's number
numbers : (c : In_ok-marks) → (n : List ℕ) → number_in c.in_ok-machines.machines n ≡ machine_number c.args.estate.now n
numbers c = numbers_same c.args.estate.now c.deref.result.now c.in_ok-machines.machines c.in_ok-machines.ensures (named c)

-- the machines of the plan's groups are marked
marked : (c : In_ok-marks) → AreMarks c.args.members.now.machines (group_numbers c.args.estate.now c.args.row.now) (length c.args.estate.now.machines) c.in_ok-marks.marks.items
marked c =
    let items = c.in_ok-marks.marks.items in
    marks_same c.as_slice.result.now c.args.members.now.machines c.args.groups.now (group_numbers c.args.estate.now c.args.row.now) (length c.as_slice-2.result.now) (length c.args.estate.now.machines) items items c.in_ok-marks.ensures c.as_slice.ensures c.requires.groups (ap length c.as_slice-2.ensures) refl

-- whether a name is marked says whether the plan's groups hold its machine
planned : (c : After-first_unknown) → (marks : AreMarks c.args.members.now.machines (group_numbers c.args.estate.now c.args.row.now) (length c.args.estate.now.machines) c.in_ok-marks.marks.items) → (n : List ℕ) → is_marked_name c.in_ok-machines.machines c.deref-3.result.now n ≡ is_planned c.args.estate.now c.args.members.now c.args.row.now n
planned c marks =
    let Marks : List Bool → Type 0 = λ xs. AreMarks c.args.members.now.machines (group_numbers c.args.estate.now c.args.row.now) (length c.args.estate.now.machines) xs in
    marked_planned c.args.estate.now c.args.members.now c.args.row.now c.deref.result.now c.in_ok-machines.machines c.deref-3.result.now c.in_ok-machines.ensures (c.deref.ensures.value ∙ c.in_ok-names.ensures) (subst Marks (sym c.deref-3.ensures.value) marks)

-- each name that the row speaks of is one of a machine of the plan's groups
known : (c : In_default) → ((n : List ℕ) → is_marked_name c.in_ok-machines.machines c.deref-3.result.now n ≡ is_planned c.args.estate.now c.args.members.now c.args.row.now n) → unknown_machines c.args.estate.now c.args.members.now c.args.row.now ≡ []
known c are = machines_known c.args.estate.now c.args.members.now c.args.row.now (is_marked_name c.in_ok-machines.machines c.deref-3.result.now) c.as_slice-3.result.now are c.as_slice-3.ensures c.in_default.ensures

pub marks_of-requires-clause-declared : goal.marks_of-requires-clause-declared
marks_of-requires-clause-declared c =
    groups_below c.args.estate.now c.args.row.now (length c.as_slice.result.now) c.args.groups.now c.requires.right.known c.requires.groups (ap length c.as_slice.ensures ∙ c.requires.members.machines.one_each)

pub marks_of-requires-clause-within : goal.marks_of-requires-clause-within
marks_of-requires-clause-within c =
    let P : ℕ → Type 0 = λ n. All (AllBelow n) c.as_slice.result.now in
    let Q : List (List ℕ) → Type 0 = λ xs. All (AllBelow (length c.args.estate.now.machines)) xs in
    subst P (sym (ap length c.as_slice-2.ensures)) (subst Q (sym c.as_slice.ensures) (machines_within c.args.estate.now c.args.members.now c.requires.members))

pub first_unknown-requires : goal.first_unknown-requires
first_unknown-requires c =
    let long = one_each (goal.at.first_unknown-requires c).In_ok-marks in
    places_below c.deref.result.now c.in_ok-machines.machines (length c.deref-3.result.now) c.in_ok-machines.ensures
    (omega (arith, long, ap length c.deref-3.ensures.value, c.in_ok-marks.ensures.one_each, ap length c.as_slice-2.ensures))

pub first_bad_priority-requires : goal.first_bad_priority-requires
first_bad_priority-requires c = fit (goal.at.first_bad_priority-requires c).In_ok-marks

pub first_other_priority-requires-clause-fit : goal.first_other_priority-requires-clause-fit
first_other_priority-requires-clause-fit c = fit (goal.at.first_other_priority-requires-clause-fit c).In_ok-marks

pub graph_of-requires-clause-fit : goal.graph_of-requires-clause-fit
graph_of-requires-clause-fit c = fit (goal.at.graph_of-requires-clause-fit c).In_ok-marks

pub returns-in-Some-clause-stops : goal.returns-in-Some-clause-stops
returns-in-Some-clause-stops c =
    let at = goal.at.returns-in-Some-clause-stops c in
    unknown_machine_told c.args.estate.now c.args.members.now c.args.row.now (is_marked_name c.in_ok-machines.machines c.deref-3.result.now) c.as_slice-3.result.now c.in-Some.name c.requires.right.known c.requires.right.once
    (planned at.After-first_unknown (marked at.In_ok-marks)) c.as_slice-3.ensures c.in-Some.ensures

pub returns-in-Some-first_bad_priority-clause-stops : goal.returns-in-Some-first_bad_priority-clause-stops
returns-in-Some-first_bad_priority-clause-stops c =
    let e = c.args.estate.now in
    let members = c.args.members.now in
    let row = c.args.row.now in
    let at = goal.at.returns-in-Some-first_bad_priority-clause-stops c in
    let n = c.in-Some-first_bad_priority.number in
    let fits : SFits w64 n = search rules in
    let P : ℤ → Type 0 = λ z. first (name_faults e members row) ≡ Some (BadPriority c.in-Some-first_bad_priority.machine z) in
    subst P (sym (to_z-of_z w64 n fits))
    (bad_priority_told e members row (number_in c.in_ok-machines.machines) c.as_slice-4.result.now (c.in-Some-first_bad_priority.machine, n) c.requires.right.known c.requires.right.once
    (known at.In_default (planned at.After-first_unknown (marked at.In_ok-marks))) (numbers at.In_ok-marks) c.as_slice-4.ensures c.in-Some-first_bad_priority.ensures)

pub returns-in-Some-first_other_priority-clause-stops : goal.returns-in-Some-first_other_priority-clause-stops
returns-in-Some-first_other_priority-clause-stops c =
    let e = c.args.estate.now in
    let row = c.args.row.now in
    let at = goal.at.returns-in-Some-first_other_priority-clause-stops c in
    let number = number_in c.in_ok-machines.machines in
    let priorities = priorities_right e row number c.as_slice-4.result.now c.as_slice-4.ensures c.in_default-first_bad_priority.ensures in
    other_priority_told e c.args.members.now row number (c.in-Some-first_other_priority.machine, c.in-Some-first_other_priority.dependency) c.requires.right.known c.requires.right.once
    (known at.In_default (planned at.After-first_unknown (marked at.In_ok-marks))) priorities (numbers at.In_ok-marks) c.in-Some-first_other_priority.ensures

pub returns-clause-right : goal.returns-clause-right
returns-clause-right c =
    let e = c.args.estate.now in
    let row = c.args.row.now in
    let at = goal.at.returns-clause-right c in
    let number = number_in c.in_ok-machines.machines in
    record {
      known = known at.In_default (planned at.After-first_unknown (marked at.In_ok-marks));
      priorities = priorities_right e row number c.as_slice-4.result.now c.as_slice-4.ensures c.in_default-first_bad_priority.ensures;
      same_priorities = same_priorities e row number (numbers at.In_ok-marks) c.in_default-first_other_priority.ensures;
    }

pub returns-clause-found : goal.returns-clause-found
returns-clause-found c =
    let row = c.args.row.now in
    let here = (goal.at.returns-clause-found c).In_ok-marks in
    record {
      marks = marked here;
      places = places_same c.deref-2.result.now (row_names row) c.in_ok-places.places (c.deref-2.ensures.value ∙ c.in_ok-spoken.ensures) c.in_ok-places.ensures;
      graph = graph_same c.args.estate.now row c.deref-4.result.now (number_in c.in_ok-machines.machines) c.in_ok-graph.graph.items (numbers here) (c.deref-4.ensures.value ∙ c.in_ok-names.ensures) c.in_ok-graph.ensures;
    }
