-- What a plan's groups hold, and what its row says, by numbers.
use Rattle.std.proofs.Common.{◌≡◌, ◌∙◌, ℕ, ℤ, zero, suc, ◌+◌, ◌<◌, ◌≤◌, Bool, true, false, not, cond, List, [], ◌∷◌, ◌++◌, length, get_or, map, filter, Option, Some, None, is_some, unwrap_or, IfSome, IsTrue, slice_index, ◌*◌, find, flat_map, length-append, refl, sym, ap, subst, arith}
use Rattle.std.specs.List.{All, Contains}
use Rattle.std.specs.BTreeMap.{BTreeMap}
use Rattle.std.proofs.lemmas.List.{length-map}
use Rattle.std.proofs.lemmas.List.Elements.{All-nil, All-cons, All-head, All-tail, All-map, Contains-get_or}
use Rattle.std.proofs.lemmas.List.FromFn.{length-range_with_len}
use Rattle.std.proofs.lemmas.Option.{slice_get-get_or, slice_get_within, same_Some}
use Rattle.dr_inventory.specs.declared.estate.GroupRow.{GroupRow}
use Rattle.dr_inventory.specs.declared.estate.StepRow.{StepRow}
use Rattle.dr_inventory.specs.declared.estate.PlanMachineRow.{PlanMachineRow}
use Rattle.dr_inventory.specs.declared.estate.PlanRow.{PlanRow}
use Rattle.dr_inventory.specs.declared.estate.Estate.{Estate}
use Rattle.dr_inventory.specs.Names.{first, place, number}
use Rattle.dr_inventory.specs.Sound.{IsSoundEstate, AllBelow}
use Rattle.dr_inventory.proofs.Empty.{map_empty, kept_none, kept_rest}
use Rattle.dr_inventory.proofs.PlaceLaws.{place_within}
use Rattle.dr_inventory.specs.declared.members.Members.{Members}
use Rattle.dr_groups.specs.Marks.{ListsAscending}
use Rattle.dr_groups.specs.Groups.{AreMembersOf}
use Rattle.dr_groups.proofs.RowLaws.{device_below}
use Rattle.dr_base.specs.declared.plan_fault.PlanFault.{PlanFault}
use Rattle.dr_base.specs.declared.plan_fault.PlanFault.TheVariants.{UnknownGroup, BadPriority, BadPosition}
use Rattle.dr_plan.specs.Rows.{group_names, machine_names, machine_number, group_numbers, is_held_place, is_planned, is_priority, planned_machines, row_of, wanted_after, after_of, dependencies}
use Rattle.dr_plan.specs.declared.plan.PlanMachine.{PlanMachine}
use Rattle.dr_plan.specs.declared.plan.Wave.{Wave}
use Rattle.dr_plan.specs.Cycles.{IsGraph, IsOnCycle}
use Rattle.dr_plan.specs.Waves.{above, machines_at, wave_of, wave_at, depths_in, waves_at, waves_in}
use Rattle.dr_plan.specs.Plans.{plan_machine, plan_machines}
use Rattle.dr_plan.proofs.ChainLaws.{contains-nothing}
use Rattle.dr_plan.specs.Faults.{unknown_groups, bad_priorities, bad_positions}
use Rattle.dr_plan.specs.Lookups.{IsPlaces, AreMarks, AllPriorities, is_marked_place, is_marked_name, number_and_position}

-- what groups hold lies within the estate
pub machines_within : (estate : Estate) (members : Members) → AreMembersOf estate members → All (AllBelow (length estate.machines)) members.machines
machines_within estate members are = λ k d within k' d' within'.
    let row = get_or members.machines k d in
    let machine = ((are.machines.each k row (slice_get-get_or members.machines k d within)).exactly (get_or row k' d')).0 (Contains-get_or row k' d' within') in
    slice_get_within estate.machines (get_or row k' d') machine.row machine.found

pub pairs_within : (estate : Estate) (members : Members) → IsSoundEstate estate → AreMembersOf estate members → All (AllBelow (length estate.devices)) members.pairs
pairs_within estate members sound are = λ k d within k' d' within'.
    let row = get_or members.pairs k d in
    let pair = ((are.pairs.each k row (slice_get-get_or members.pairs k d within)).exactly (get_or row k' d')).0 (Contains-get_or row k' d' within') in
    device_below estate pair.datastore (get_or row k' d') sound pair.named

number_below : (o : Option ℕ) (n : ℕ) → is_some o ≡ true → IfSome o (λ k. k < n) → unwrap_or o 0 < n
number_below None n h within = cc
number_below (Some k) n h within = within

numbers_below : (names ns : List (List ℕ)) → filter (λ n. not (is_some (place (λ (x : List ℕ). x) names n))) ns ≡ [] → AllBelow (length names) (map (number (λ x. x) names) ns)
numbers_below names [] h = All-nil (λ k. k < length names)
numbers_below names (n ∷ ns) h =
    let o = place (λ (x : List ℕ). x) names n in
    let rest = filter (λ m. not (is_some (place (λ (x : List ℕ). x) names m))) ns in
    All-cons (λ k. k < length names) (unwrap_or o 0) (map (number (λ x. x) names) ns)
    (number_below o (length names) (kept_none (is_some o) n rest h) (place_within (λ (x : List ℕ). x) names n))
    (numbers_below names ns (kept_rest (is_some o) n rest h))

-- the plan's groups are the estate's
pub groups_below : (estate : Estate) (row : PlanRow) (count : ℕ) (groups : List ℕ) → unknown_groups estate row ≡ [] → groups ≡ group_numbers estate row → count ≡ length estate.groups → AllBelow count groups
groups_below estate row count groups known same long =
    let name : GroupRow → List ℕ = λ g. g.name in
    let P : List ℕ → Type 0 = λ xs. AllBelow count xs in
    let Q : ℕ → Type 0 = λ n. AllBelow n (group_numbers estate row) in
    subst P (sym same) (subst Q (length-map estate.groups name ∙ sym long)
    (numbers_below (group_names estate) row.groups (map_empty (λ n. UnknownGroup n) (filter (λ n. not (is_some (place (λ x. x) (group_names estate) n))) row.groups) known)))

pub marks_same : (lists lists' : List (List ℕ)) (groups groups' : List ℕ) (count count' : ℕ) (marks marks' : List Bool) → AreMarks lists groups count marks → lists ≡ lists' → groups ≡ groups' → count ≡ count' → marks ≡ marks' → AreMarks lists' groups' count' marks'
marks_same lists lists' groups groups' count count' marks marks' are a b c d =
    let P : List (List ℕ) → Type 0 = λ x. AreMarks x groups' count' marks' in
    let Q : List ℕ → Type 0 = λ x. AreMarks lists x count' marks' in
    let R : ℕ → Type 0 = λ x. AreMarks lists groups x marks' in
    let S : List Bool → Type 0 = λ x. AreMarks lists groups count x in
    subst P a (subst Q b (subst R c (subst S d are)))

marked_place : (lists : List (List ℕ)) (groups : List ℕ) (count : ℕ) (marks : List Bool) (o : Option ℕ) → AreMarks lists groups count marks → IfSome o (λ k. k < count) → is_marked_place marks o ≡ is_held_place lists groups o
marked_place lists groups count marks None are within = refl
marked_place lists groups count marks (Some k) are within = are.each k within

-- the marked names are those of the plan's machines
pub marked_planned : (estate : Estate) (members : Members) (row : PlanRow) (names : List (List ℕ)) (places : BTreeMap (List ℕ) ℕ) (marks : List Bool) → IsPlaces names places → names ≡ machine_names estate
    → AreMarks members.machines (group_numbers estate row) (length estate.machines) marks → (n : List ℕ) → is_marked_name places marks n ≡ is_planned estate members row n
marked_planned estate members row names places marks are same marked n =
    let o = place (λ (x : List ℕ). x) (machine_names estate) n in
    let P : ℕ → Type 0 = λ count. IfSome o (λ k. k < count) in
    ap (is_marked_place marks) (are n ∙ ap (λ (xs : List (List ℕ)). place (λ x. x) xs n) same)
    ∙ marked_place members.machines (group_numbers estate row) (length estate.machines) marks o marked (subst P (length-map estate.machines (λ m. m.name)) (place_within (λ (x : List ℕ). x) (machine_names estate) n))

-- the graph by the places of names is that of the plan
pub graph_same : (estate : Estate) (row : PlanRow) (names : List (List ℕ)) (number_of : List ℕ → ℕ) (graph : List (List ℕ)) → ((n : List ℕ) → number_of n ≡ machine_number estate n) → names ≡ machine_names estate
    → graph ≡ map (λ n. map number_of (wanted_after (row_of row n))) names → graph ≡ dependencies estate row
graph_same estate row names number_of graph same names_are is =
    let functions : number_of ≡ machine_number estate = λ i n. same n i in
    is ∙ ap (λ (f : List ℕ → ℕ). map (λ n. map f (wanted_after (row_of row n))) names) functions
    ∙ ap (map (λ n. map (machine_number estate) (wanted_after (row_of row n)))) names_are

right_one : {X : Type 0} (b : Bool) (x : X) (xs : List X) → cond b [] (x ∷ []) ++ xs ≡ [] → b ≡ true
right_one true x xs h = refl
right_one false x xs h = cc

right_rest : {X : Type 0} (b : Bool) (x : X) (xs : List X) → cond b [] (x ∷ []) ++ xs ≡ [] → xs ≡ []
right_rest true x xs h = h
right_rest false x xs h = cc

-- steps that come before a priority
pub step_right : (number : ℕ) (steps : List StepRow) (i : ℕ) (x : StepRow) → bad_positions number steps ≡ [] → i < length steps → x ≡ get_or steps i x → is_priority x.before ≡ true
unfolding bad_positions
step_right number [] i x right h e = absurd (omega arith)
step_right number (y ∷ ys) zero x right h e = ap (λ (s : StepRow). is_priority s.before) e ∙ right_one (is_priority y.before) (BadPosition number y.before) (bad_positions (number + 1) ys) right
step_right number (y ∷ ys) (suc i) x right h e = step_right (number + 1) ys i x (right_rest (is_priority y.before) (BadPosition number y.before) (bad_positions (number + 1) ys) right) (omega arith) e

-- each priority of a valid row is 1 to 5
rows_right : (rows : List PlanMachineRow) → filter (λ m. not (is_priority m.priority)) rows ≡ [] → All (λ m. IsTrue (is_priority m.priority)) rows
rows_right [] h = All-nil (λ m. IsTrue (is_priority m.priority))
rows_right (m ∷ ms) h =
    let rest = filter (λ (r : PlanMachineRow). not (is_priority r.priority)) ms in
    All-cons (λ r. IsTrue (is_priority r.priority)) m ms (kept_none (is_priority m.priority) m rest h) (rows_right ms (kept_rest (is_priority m.priority) m rest h))

pub all_priorities : (estate : Estate) (row : PlanRow) → bad_priorities estate row ≡ [] → AllPriorities row
all_priorities estate row right = rows_right row.machine (map_empty (λ m. BadPriority (machine_number estate m.name) m.priority) (filter (λ m. not (is_priority m.priority)) row.machine) right)

-- what each of a list has, the one that is found has
found_here : {X : Type 0} (P : X → Type 0) (b : Bool) (y x : X) (rest : Option X) → P y → (rest ≡ Some x → P x) → cond b (Some y) rest ≡ Some x → P x
found_here P true y x rest here there e = subst P (same_Some y x e) here
found_here P false y x rest here there e = there e

pub found_all : {X : Type 0} (P : X → Type 0) (p : X → Bool) (xs : List X) (x : X) → find p xs ≡ Some x → All P xs → P x
found_all P p [] x e all = cc
found_all P p (y ∷ ys) x e all = found_here P (p y) y x (find p ys) (All-head P y ys all) (λ e'. found_all P p ys x e' (All-tail P y ys all)) e

-- the first step before no priority
told_here : (b : Bool) (number : ℕ) (before : ℤ) (rest : Option (ℕ × ℤ)) (faults : List PlanFault) (p : ℕ × ℤ) → (Some p ≡ rest → first faults ≡ Some (BadPosition p.0 p.1)) → Some p ≡ cond b rest (Some (number, before))
    → first (cond b [] (BadPosition number before ∷ []) ++ faults) ≡ Some (BadPosition p.0 p.1)
told_here true number before rest faults p there e = there e
told_here false number before rest faults p there e = ap (λ (q : ℕ × ℤ). Some (BadPosition q.0 q.1)) (sym (same_Some p (number, before) e))

pub position_told : (number : ℕ) (steps : List StepRow) (p : ℕ × ℤ) → Some p ≡ number_and_position number steps → first (bad_positions number steps) ≡ Some (BadPosition p.0 p.1)
unfolding bad_positions
position_told number [] p e = cc
position_told number (s ∷ ss) p e = told_here (is_priority s.before) number s.before (number_and_position (number + 1) ss) (bad_positions (number + 1) ss) p (λ e'. position_told (number + 1) ss p e') e

none_here : (b : Bool) (number : ℕ) (before : ℤ) (rest : Option (ℕ × ℤ)) (faults : List PlanFault) → (None ≡ rest → faults ≡ []) → None ≡ cond b rest (Some (number, before)) → cond b [] (BadPosition number before ∷ []) ++ faults ≡ []
none_here true number before rest faults there e = there e
none_here false number before rest faults there e = cc

pub positions_right : (number : ℕ) (steps : List StepRow) → None ≡ number_and_position number steps → bad_positions number steps ≡ []
unfolding bad_positions
positions_right number [] e = refl
positions_right number (s ∷ ss) e = none_here (is_priority s.before) number s.before (number_and_position (number + 1) ss) (bad_positions (number + 1) ss) (λ e'. positions_right (number + 1) ss e') e

pub number_small : (o : Option ℕ) (n : ℕ) → 0 < n → IfSome o (λ k. k < n) → unwrap_or o 0 < n
number_small None n some within = some
number_small (Some k) n some within = within

-- the dependencies are machines of the estate
pub graph_within : (estate : Estate) (row : PlanRow) → IsGraph (dependencies estate row)
graph_within estate row =
    let names = machine_names estate in
    let n = length (dependencies estate row) in
    let long : n ≡ length names = length-map names (after_of estate row) in
    All-map (AllBelow n) (after_of estate row) names
    (λ k d within. All-map (λ m. m < n) (machine_number estate) (wanted_after (row_of row (get_or names k d)))
    (λ k' d' within'.
    let P : ℕ → Type 0 = λ count. unwrap_or (place (λ (x : List ℕ). x) names (get_or (wanted_after (row_of row (get_or names k d))) k' d')) 0 < count in
    let some : 0 < length names = omega (arith, within) in
    subst P (sym long) (number_small (place (λ (x : List ℕ). x) names (get_or (wanted_after (row_of row (get_or names k d))) k' d')) (length names) some (place_within (λ (x : List ℕ). x) names (get_or (wanted_after (row_of row (get_or names k d))) k' d')))))

pub no_cycles : (graph : List (List ℕ)) (machines : List ℕ) → ListsAscending (IsOnCycle graph) machines → machines ≡ [] → (m : ℕ) → ¬ IsOnCycle graph m
no_cycles graph machines lists none m cycle = let P : List ℕ → Type 0 = λ xs. Contains xs m in contains-nothing m (subst P none ((lists.exactly m).1 cycle))

-- few waves
flat_few : {X Y : Type 0} (f : X → List Y) (xs : List X) → ((x : X) → length (f x) ≤ 1) → length (flat_map f xs) ≤ length xs
flat_few f [] each = omega arith
flat_few f (x ∷ xs) each =
    let rest : length (flat_map f xs) ≤ length xs = flat_few f xs each in
    omega (arith, length-append (f x) (flat_map f xs), each x)

pub wave_few : (p d : ℕ) (ks : List ℕ) → length (wave_of p d ks) ≤ 1
wave_few p d [] = omega arith
wave_few p d (k ∷ ks) = omega arith

above_few : (f : ℕ → PlanMachine) (ks : List ℕ) (n : ℕ) → ((k : ℕ) → (f k).depth ≤ n) → above (map (λ m. m.depth) (map f ks)) ≤ n + 1
above_few f [] n each = omega arith
above_few f (k ∷ ks) n each = let rest : above (map (λ m. m.depth) (map f ks)) ≤ n + 1 = above_few f ks n each in omega (arith, each k)

waves_at_few : (xs : List PlanMachine) (p : ℕ) → length (waves_at xs p) ≤ above (map (λ m. m.depth) xs)
waves_at_few xs p = omega (arith, flat_few (wave_at xs p) (depths_in xs) (λ d. wave_few p d (machines_at xs p d)), length-range_with_len 0 (above (map (λ m. m.depth) xs)))

pub waves_few : (xs : List PlanMachine) → length (waves_in xs) ≤ 5 * above (map (λ m. m.depth) xs)
waves_few xs =
    let e1 = length-append (waves_at xs 1) (waves_at xs 2 ++ (waves_at xs 3 ++ (waves_at xs 4 ++ (waves_at xs 5 ++ [])))) in
    let e2 = length-append (waves_at xs 2) (waves_at xs 3 ++ (waves_at xs 4 ++ (waves_at xs 5 ++ []))) in
    let e3 = length-append (waves_at xs 3) (waves_at xs 4 ++ (waves_at xs 5 ++ [])) in
    let e4 = length-append (waves_at xs 4) (waves_at xs 5 ++ []) in
    let none : List Wave = [] in
    let e5 = length-append (waves_at xs 5) none in
    omega (arith, e1, e2, e3, e4, e5, waves_at_few xs 1, waves_at_few xs 2, waves_at_few xs 3, waves_at_few xs 4, waves_at_few xs 5)

pub plan_waves_few : (estate : Estate) (members : Members) (row : PlanRow) (depths : List ℕ) → ((k : ℕ) → slice_index depths k ≤ 2000) → length (waves_in (plan_machines estate members row depths)) ≤ 10005
plan_waves_few estate members row depths small =
    let few : above (map (λ m. m.depth) (plan_machines estate members row depths)) ≤ 2000 + 1 = above_few (plan_machine estate row depths) (planned_machines estate members row) 2000 small in
    omega (arith, few, waves_few (plan_machines estate members row depths))
