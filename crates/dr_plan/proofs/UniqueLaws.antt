-- A plan is one, and the numbers that its fault tells are the estate's.
use Rattle.std.proofs.Common.{◌≡◌, ◌≢◌, ◌∙◌, ◌⊎◌, ℕ, zero, suc, ◌<◌, true, not, List, [], ◌∷◌, ◌++◌, length, get_or, map, filter, flat_map, Option, Some, None, unwrap_or, IfSome, slice_index, slice_get, inl, inr, refl, sym, ap, subst, arith}
use Rattle.std.specs.List.{All}
use Rattle.std.specs.Ordering.{int_eq}
use Rattle.std.proofs.lemmas.Bool.{cases_lt}
use Rattle.std.proofs.lemmas.List.{length-map, get_or_past, ext_get_or}
use Rattle.std.proofs.lemmas.List.Elements.{All-nil, All-map, All-append}
use Rattle.std.proofs.lemmas.Option.{slice_get-get_or, same_Some}
use Rattle.dr_base.specs.declared.plan_fault.PlanFault.{PlanFault}
use Rattle.dr_base.specs.declared.plan_fault.PlanFault.TheVariants.{UnknownGroup, GroupTwice, UnknownMachine, BadPriority, OtherPriority, Cycle, BadPosition, NoMemory}
use Rattle.dr_inventory.specs.declared.estate.PlanMachineRow.{PlanMachineRow}
use Rattle.dr_inventory.specs.declared.estate.PlanRow.{PlanRow}
use Rattle.dr_inventory.specs.declared.estate.Estate.{Estate}
use Rattle.dr_inventory.specs.Names.{first, place, unknown, twice_in}
use Rattle.dr_inventory.proofs.Empty.{map_empty, kept_none}
use Rattle.dr_inventory.proofs.PlaceLaws.{place_within}
use Rattle.dr_inventory.specs.declared.members.Members.{Members}
use Rattle.dr_groups.proofs.RowLaws.{found_same}
use Rattle.dr_plan.specs.declared.plan.Plan.{Plan}
use Rattle.dr_plan.specs.Cycles.{IsOnCycle}
use Rattle.dr_plan.specs.Rows.{group_names, machine_names, machine_number, group_numbers, is_held_place, is_planned, is_priority, priority_of, after_of, dependencies}
use Rattle.dr_plan.specs.Faults.{unknown_groups, groups_twice, unknown_machines, bad_priorities, other_priorities, named_machines, other_pairs, name_faults, IsFirstOfRow, IsFirstFault}
use Rattle.dr_plan.specs.Waves.{above}
use Rattle.dr_plan.specs.Plans.{AreDepths, IsPlanOf, plan_of}
use Rattle.dr_plan.proofs.ChainLaws.{dependent-within, all-below}
use Rattle.dr_plan.proofs.DepthLaws.{map_agree}
use Rattle.dr_plan.proofs.PlanLaws.{number_small}
use Rattle.dr_plan.proofs.FaultLaws.{none_first}

-- each of the numbers is less than what is above them all
below_above : (f : ℕ → ℕ) (xs : List ℕ) (k d : ℕ) → k < length xs → f (get_or xs k d) < above (map f xs)
below_above f [] k d h = absurd (omega (arith, h))
below_above f (x ∷ xs) zero d h = omega arith
below_above f (x ∷ xs) (suc k) d h = let rest : f (get_or xs k d) < above (map f xs) = below_above f xs k d (omega (arith, h)) in omega (arith, rest)

-- depths below a bound, of one machine after the other
same_depth : (graph : List (List ℕ)) (d e : List ℕ) → AreDepths graph d → AreDepths graph e → (bound m : ℕ) → get_or d m 0 < bound → get_or d m 0 ≡ get_or e m 0
same_depth graph d e a b zero m h = absurd (omega (arith, h))
same_depth graph d e a b (suc bound) m h = elim (cases_lt m (length graph)) [
  | inl within ↦
      let row = get_or graph m [] in
      let found : slice_get graph m ≡ Some row = slice_get-get_or graph m [] within in
      let here : get_or d m 0 ≡ above (map (slice_index d) row) = a.each m row found in
      let each : All (λ x. slice_index d x ≡ slice_index e x) row = λ k k' inside.
      same_depth graph d e a b bound (get_or row k k') (omega (arith, h, here, below_above (slice_index d) row k k' inside)) in
      here ∙ ap above (map_agree (slice_index d) (slice_index e) row each) ∙ sym (b.each m row found)
  | inr past ↦
      let none : get_or d m 0 ≡ 0 = get_or_past d m 0 (omega (arith, past, a.one_each)) in
      let none' : get_or e m 0 ≡ 0 = get_or_past e m 0 (omega (arith, past, b.one_each)) in
      none ∙ sym none'
]

-- the depths of a graph are one
pub one_depths : (graph : List (List ℕ)) (d e : List ℕ) → AreDepths graph d → AreDepths graph e → d ≡ e
one_depths graph d e a b = ext_get_or 0 d e (a.one_each ∙ sym b.one_each) (λ k within. same_depth graph d e a b (suc (get_or d k 0)) k (omega arith))

-- the plan of a number is one
pub one_plan : (estate : Estate) (members : Members) (number : ℕ) (p q : Plan) → IsPlanOf estate members number p → IsPlanOf estate members number q → p ≡ q
one_plan estate members number p q a b =
    let rows : a.row ≡ b.row = found_same (slice_get estate.plans number) a.row b.row a.found b.found in
    let Depths : PlanRow → Type 0 = λ r. AreDepths (dependencies estate r) a.depths in
    let depths : a.depths ≡ b.depths = one_depths (dependencies estate b.row) a.depths b.depths (subst Depths rows a.are_depths) b.are_depths in
    a.value ∙ ap (λ (r : PlanRow). plan_of estate members r a.depths) rows ∙ ap (plan_of estate members b.row) depths ∙ sym b.value

-- the machines that a fault of a plan tells are the estate's
abbrev pub HoldsMachines : Estate → PlanFault → Type 0
HoldsMachines estate (BadPriority machine priority) = machine < length estate.machines
HoldsMachines estate (OtherPriority machine dependency) = (machine < length estate.machines) × (dependency < length estate.machines)
HoldsMachines estate (Cycle machines) = All (λ m. m < length estate.machines) machines
HoldsMachines estate _ = Unit {0}

first_split : (xs ys : List PlanFault) (f : PlanFault) → first (xs ++ ys) ≡ Some f → (first xs ≡ Some f) ⊎ ((xs ≡ []) × (first ys ≡ Some f))
first_split [] ys f h = inr (refl, h)
first_split (x ∷ xs) ys f h = inl h

-- what holds of each image holds of the first
first_holds : {X : Type 0} (P : PlanFault → Type 0) (g : X → PlanFault) (xs : List X) (f : PlanFault) → All (λ x. P (g x)) xs → first (map g xs) ≡ Some f → P f
first_holds P g [] f each h = cc
first_holds P g (x ∷ xs) f each h = subst P (same_Some (g x) f h) (each zero x (omega arith))

place_some : (lists : List (List ℕ)) (groups : List ℕ) (o : Option ℕ) (n : ℕ) → is_held_place lists groups o ≡ true → IfSome o (λ k. k < n) → 0 < n
place_some lists groups None n h within = cc
place_some lists groups (Some k) n h within = omega (arith, within)

-- an estate of which a planned machine has a name has machines
some_machine : (estate : Estate) (members : Members) (row : PlanRow) (rows : List PlanMachineRow) → filter (λ n. not (is_planned estate members row n)) (flat_map named_machines rows) ≡ [] → rows ≢ [] → 0 < length estate.machines
some_machine estate members row [] h some = absurd (some refl)
some_machine estate members row (m ∷ ms) h some =
    let names = machine_names estate in
    let planned : is_planned estate members row m.name ≡ true = kept_none (is_planned estate members row m.name) m.name (filter (λ n. not (is_planned estate members row n)) (m.after ++ flat_map named_machines ms)) h in
    let has : 0 < length names = place_some members.machines (group_numbers estate row) (place (λ (x : List ℕ). x) names m.name) (length names) planned (place_within (λ (x : List ℕ). x) names m.name) in
    omega (arith, has, length-map estate.machines (λ m. m.name))

-- what is told first of rows tells that there are rows
some_rows : (f : List PlanMachineRow → List PlanFault) (rows : List PlanMachineRow) (x : PlanFault) → f [] ≡ [] → first (f rows) ≡ Some x → rows ≢ []
some_rows f rows x none h e = none_first (f rows) x (ap f e ∙ none) h

-- where there are machines, each name's number is one of theirs
pub machine_within : (estate : Estate) → 0 < length estate.machines → (n : List ℕ) → machine_number estate n < length estate.machines
machine_within estate some n =
    let names = machine_names estate in
    let long : length names ≡ length estate.machines = length-map estate.machines (λ m. m.name) in
    let within : unwrap_or (place (λ (x : List ℕ). x) names n) 0 < length names = number_small (place (λ (x : List ℕ). x) names n) (length names) (omega (arith, some, long)) (place_within (λ (x : List ℕ). x) names n) in
    omega (arith, within, long)

pairs_within : (number_of : List ℕ → ℕ) (row : PlanRow) (n : ℕ) → ((name : List ℕ) → number_of name < n) → (ms : List PlanMachineRow) → All (λ (p : ℕ × ℕ). (p.0 < n) × (p.1 < n)) (flat_map (other_pairs number_of row) ms)
pairs_within number_of row n each [] = All-nil (λ (p : ℕ × ℕ). (p.0 < n) × (p.1 < n))
pairs_within number_of row n each (m ∷ ms) =
    let P : ℕ × ℕ → Type 0 = λ p. (p.0 < n) × (p.1 < n) in
    let others : List (List ℕ) = filter (λ name. not (int_eq (priority_of row name) m.priority)) m.after in
    let pair : List ℕ → ℕ × ℕ = λ name. (number_of m.name, number_of name) in
    All-append P (other_pairs number_of row m) (flat_map (other_pairs number_of row) ms)
    (All-map P pair others (λ k d inside. (each m.name, each (get_or others k d))))
    (pairs_within number_of row n each ms)

bad_within : (estate : Estate) (members : Members) (row : PlanRow) (f : PlanFault) → unknown_machines estate members row ≡ [] → first (bad_priorities estate row) ≡ Some f → HoldsMachines estate f
bad_within estate members row f known h =
    let tell : PlanMachineRow → PlanFault = λ m. BadPriority (machine_number estate m.name) m.priority in
    let bad : List PlanMachineRow → List PlanMachineRow = filter (λ m. not (is_priority m.priority)) in
    let some : 0 < length estate.machines = some_machine estate members row row.machine
    (map_empty (λ n. UnknownMachine n) (filter (λ n. not (is_planned estate members row n)) (flat_map named_machines row.machine)) known)
    (some_rows (λ rows. map tell (bad rows)) row.machine f refl h) in
    first_holds (HoldsMachines estate) tell (bad row.machine) f (λ k d inside. machine_within estate some (get_or (bad row.machine) k d).name) h

other_within : (estate : Estate) (members : Members) (row : PlanRow) (f : PlanFault) → unknown_machines estate members row ≡ [] → first (other_priorities estate row) ≡ Some f → HoldsMachines estate f
other_within estate members row f known h =
    let tell : ℕ × ℕ → PlanFault = λ p. OtherPriority p.0 p.1 in
    let pairs : List PlanMachineRow → List (ℕ × ℕ) = flat_map (other_pairs (machine_number estate) row) in
    let some : 0 < length estate.machines = some_machine estate members row row.machine
    (map_empty (λ n. UnknownMachine n) (filter (λ n. not (is_planned estate members row n)) (flat_map named_machines row.machine)) known)
    (some_rows (λ rows. map tell (pairs rows)) row.machine f refl h) in
    first_holds (HoldsMachines estate) tell (pairs row.machine) f (pairs_within (machine_number estate) row (length estate.machines) (machine_within estate some) row.machine) h

named_within : (estate : Estate) (members : Members) (row : PlanRow) (f : PlanFault) → first (name_faults estate members row) ≡ Some f → HoldsMachines estate f
named_within estate members row f h =
    let P = HoldsMachines estate in
    let unknown_names : List (List ℕ) = unknown (λ x. x) (group_names estate) row.groups in
    let unplanned : List (List ℕ) = filter (λ n. not (is_planned estate members row n)) (flat_map named_machines row.machine) in
    elim (first_split (unknown_groups estate row) _ f h) [
      | inl a ↦ first_holds P (λ n. UnknownGroup n) unknown_names f (λ k d inside. tt) a
      | inr b ↦ elim (first_split (groups_twice row) _ f b.1) [
        | inl a ↦ first_holds P (λ n. GroupTwice n) (twice_in row.groups) f (λ k d inside. tt) a
        | inr c ↦ elim (first_split (unknown_machines estate members row) _ f c.1) [
          | inl a ↦ first_holds P (λ n. UnknownMachine n) unplanned f (λ k d inside. tt) a
          | inr d ↦ elim (first_split (bad_priorities estate row) (other_priorities estate row) f d.1) [
            | inl a ↦ bad_within estate members row f d.0 a
            | inr e ↦ other_within estate members row f d.0 e.1
          ]
        ]
      ]
    ]

cycle_within : (estate : Estate) (row : PlanRow) (m : ℕ) → IsOnCycle (dependencies estate row) m → m < length estate.machines
cycle_within estate row m cycle =
    let within : m < length (dependencies estate row) = dependent-within (dependencies estate row) m cycle.next cycle.chain.0 in
    omega (arith, within, length-map (machine_names estate) (after_of estate row), length-map estate.machines (λ m. m.name))

row_within : (estate : Estate) (members : Members) (row : PlanRow) (f : PlanFault) → IsFirstOfRow estate members row f → HoldsMachines estate f
row_within estate members row (UnknownGroup n) h = tt
row_within estate members row (GroupTwice n) h = tt
row_within estate members row (UnknownMachine n) h = tt
row_within estate members row (BadPriority m n) h = named_within estate members row (BadPriority m n) h
row_within estate members row (OtherPriority m n) h = named_within estate members row (OtherPriority m n) h
row_within estate members row (Cycle ms) h = all-below (length estate.machines) ms (λ m listed. cycle_within estate row m ((h.on_cycles.exactly m).0 listed))
row_within estate members row (BadPosition s n) h = tt
row_within estate members row NoMemory h = tt

-- the machines that the first fault of a plan tells are the estate's
pub plan_fault_within : (estate : Estate) (members : Members) (number : ℕ) (f : PlanFault) → IsFirstFault estate members number f → HoldsMachines estate f
plan_fault_within estate members number f h = row_within estate members h.row f h.first_of_row
