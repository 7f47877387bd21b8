-- What holds of each plan that was read.
use Rattle.std.proofs.Common.{◌≡◌, ◌∙◌, ℕ, ℤ, zero, suc, ◌+◌, ◌<◌, ◌⊎◌, Bool, true, false, not, cond, List, [], ◌∷◌, length, get_or, slice_get, slice_index, map, filter, flat_map, Option, Some, None, option_map, unwrap_or, IfSome, IsTrue, pos, negsuc, bytes_eq, inl, inr, refl, sym, ap, subst, arith}
use Rattle.std.specs.List.{All, Contains, range_with_len}
use Rattle.std.specs.List.Sorted.{IsStrictlyIncreasing}
use Rattle.std.specs.Ordering.{int_eq}
use Rattle.std.specs.Cmp.{signed_Decides}
use Rattle.std.proofs.lemmas.Bool.Decides.{nat_tests}
use Rattle.std.proofs.lemmas.Slice.Eq.{bytes_eq-Decides}
use Rattle.std.proofs.lemmas.List.{get_or-map, get_or_default, length-map}
use Rattle.std.proofs.lemmas.List.Kept.{IsStrictlyIncreasing-filter}
use Rattle.std.proofs.lemmas.List.FromFn.{length-range_with_len, get_or-range_with_len}
use Rattle.std.proofs.lemmas.List.Elements.{All-nil, All-cons, All-map, All-filter, All-contains, All-contains_itself, Contains-append_left, Contains-append_right}
use Rattle.std.proofs.lemmas.Option.{same_Some, slice_get-map, slice_get-get_or}
use Rattle.dr_inventory.specs.declared.estate.PlanMachineRow.{PlanMachineRow}
use Rattle.dr_inventory.specs.declared.estate.PlanRow.{PlanRow}
use Rattle.dr_inventory.specs.declared.estate.Estate.{Estate}
use Rattle.dr_inventory.specs.Names.{place, number}
use Rattle.dr_inventory.proofs.Empty.{map_empty, front_empty, back_empty, kept_none, kept_rest}
use Rattle.dr_inventory.proofs.PlaceLaws.{place_within}
use Rattle.dr_inventory.specs.declared.members.Members.{Members}
use Rattle.dr_groups.proofs.RowLaws.{contained_found, found_contained}
use Rattle.dr_base.specs.declared.plan_fault.PlanFault.TheVariants.{UnknownMachine, OtherPriority}
use Rattle.dr_plan.specs.declared.plan.PlanMachine.{PlanMachine}
use Rattle.dr_plan.specs.declared.plan.Plan.{Plan}
use Rattle.dr_plan.specs.Rows.{machine_names, machine_number, group_numbers, is_held, is_held_place, is_planned, is_priority, natural, row_of, priority_of, wanted_priority, wanted_after, after_of, dependencies, planned_machines}
use Rattle.dr_plan.specs.Faults.{named_machines, other_pairs, unknown_machines, other_priorities, IsRowValid}
use Rattle.dr_plan.specs.Waves.{above}
use Rattle.dr_plan.specs.Plans.{AreDepths, plan_machine, plan_machines, plan_step, plan_of, IsPlanOf}
use Rattle.dr_plan.specs.Orders.{IsPriority, IsShallower, IsOrdered}
use Rattle.dr_plan.proofs.ChainLaws.{contains-nothing}
use Rattle.dr_plan.proofs.PlanLaws.{found_all, all_priorities, step_right}
use Rattle.dr_plan.proofs.FaultLaws.{inside, behind, ahead, machines_right, priorities_named, others_named}

mapped_at : {X Y : Type 0} (f : X → Y) (xs : List X) (k : ℕ) (y : Y) (o : Option X) → slice_get xs k ≡ o → option_map f o ≡ Some y → (x : X) × Contains xs x × (f x ≡ y)
mapped_at f xs k y None e h = cc
mapped_at f xs k y (Some x) e h = (x, found_contained xs k x e, same_Some (f x) y h)

pub mapped_from : {X Y : Type 0} (f : X → Y) (xs : List X) (y : Y) → Contains (map f xs) y → (x : X) × Contains xs x × (f x ≡ y)
mapped_from f xs y h = let at = contained_found (map f xs) y h in mapped_at f xs at.0 y (slice_get xs at.0) refl (sym (slice_get-map f xs at.0) ∙ at.1)

pub mapped_to : {X Y : Type 0} (f : X → Y) (xs : List X) (x : X) → Contains xs x → Contains (map f xs) (f x)
mapped_to f xs x h = let at = contained_found xs x h in found_contained (map f xs) at.0 (f x) (slice_get-map f xs at.0 ∙ ap (option_map f) at.1)

filtered_from : (p : ℕ → Bool) (xs : List ℕ) (x : ℕ) → Contains (filter p xs) x → Contains xs x
filtered_from p xs x h = All-contains (Contains xs) (filter p xs) x (All-filter p (Contains xs) xs (All-contains_itself xs)) h

chosen : (b : Bool) (y x : ℕ) (rest : List ℕ) → ((b ≡ true) × (y ≡ x)) ⊎ Contains rest x → Contains (cond b (y ∷ rest) rest) x
chosen true y x rest (inl e) = let P : ℕ → Type 0 = λ n. Contains (y ∷ rest) n in subst P e.1 (ahead y rest)
chosen true y x rest (inr h) = behind y rest x h
chosen false y x rest (inl e) = absurd (let f : false ≡ true = e.0 in cc)
chosen false y x rest (inr h) = h

filtered_in : (p : ℕ → Bool) (xs : List ℕ) (x : ℕ) → Contains xs x → p x ≡ true → Contains (filter p xs) x
filtered_in p [] x h passes = absurd (contains-nothing x h)
filtered_in p (y ∷ ys) x h passes = elim (inside y ys x h) [
  | inl e ↦ chosen (p y) y x (filter p ys) (inl (ap p e ∙ passes, e))
  | inr rest ↦ chosen (p y) y x (filter p ys) (inr (filtered_in p ys x rest passes))
]

pub in_range : (n k : ℕ) → k < n → Contains (range_with_len 0 n) k
in_range n k below = let none : 0 + k ≡ k = omega arith in (k, omega (arith, length-range_with_len 0 n), get_or-range_with_len 0 n k k below ∙ none)

range_below : (n k : ℕ) → Contains (range_with_len 0 n) k → k < n
range_below n k h =
    let within : h.0 < n = omega (arith, h.1, length-range_with_len 0 n) in
    omega (arith, h.2, get_or-range_with_len 0 n h.0 k within, within)

pub range_up : (n : ℕ) → IsStrictlyIncreasing (range_with_len 0 n)
range_up n = λ k h.
    let within : k + 1 < n = omega (arith, h, length-range_with_len 0 n) in
    let low : k < n = omega arith in
    omega (arith, get_or-range_with_len 0 n k 0 low, get_or-range_with_len 0 n (k + 1) 0 within)

numbers_of : (estate : Estate) (row : PlanRow) (depths ks : List ℕ) → map (λ (m : PlanMachine). m.machine) (map (plan_machine estate row depths) ks) ≡ ks
numbers_of estate row depths [] = refl
numbers_of estate row depths (k ∷ ks) = ap (λ ns. k ∷ ns) (numbers_of estate row depths ks)

priority_right : (z : ℤ) → IsTrue (is_priority z) → IsPriority (natural z)
priority_right (pos n) h = record { least = grind (arith, nat_tests, h); greatest = grind (arith, nat_tests, h) }
priority_right (negsuc n) h = absurd (let e : false ≡ true = h in cc)

wanted_right : (row : PlanRow) (n : List ℕ) (o : Option PlanMachineRow) → All (λ m. IsTrue (is_priority m.priority)) row.machine → row_of row n ≡ o → IsPriority (natural (wanted_priority o))
wanted_right row n None all e = record { least = omega arith; greatest = omega arith }
wanted_right row n (Some m) all e =
    let P : PlanMachineRow → Type 0 = λ r. IsTrue (is_priority r.priority) in
    priority_right m.priority (found_all P (λ r. bytes_eq n r.name) row.machine m e all)

-- where nothing fails a test, all pass
kept_all : {X : Type 0} (t : X → Bool) (xs : List X) → filter (λ x. not (t x)) xs ≡ [] → All (λ x. t x ≡ true) xs
kept_all t [] h = All-nil (λ x. t x ≡ true)
kept_all t (x ∷ xs) h =
    let rest = filter (λ y. not (t y)) xs in
    All-cons (λ y. t y ≡ true) x xs (kept_none (t x) x rest h) (kept_all t xs (kept_rest (t x) x rest h))

flat_at : {X Y : Type 0} (f : X → List Y) (xs : List X) (k : ℕ) (x : X) (y : Y) → k < length xs → get_or xs k x ≡ x → Contains (f x) y → Contains (flat_map f xs) y
flat_at {X} {Y} f [] k x y within e h = absurd (omega arith)
flat_at {X} {Y} f (z ∷ zs) zero x y within e h = let P : X → Type 0 = λ w. Contains (f w) y in Contains-append_left (f z) (flat_map f zs) y (subst P (sym e) h)
flat_at {X} {Y} f (z ∷ zs) (suc k) x y within e h = Contains-append_right (f z) (flat_map f zs) y (flat_at f zs k x y (omega arith) e h)

none_at : {X Y : Type 0} (f : X → List Y) (xs : List X) (k : ℕ) (x : X) → k < length xs → get_or xs k x ≡ x → flat_map f xs ≡ [] → f x ≡ []
none_at f [] k x within e h = absurd (omega arith)
none_at f (z ∷ zs) zero x within e h = ap f (sym e) ∙ front_empty (f z) (flat_map f zs) h
none_at f (z ∷ zs) (suc k) x within e h = none_at f zs k x (omega arith) e (back_empty (f z) (flat_map f zs) h)

above_has : (f : ℕ → ℕ) (xs : List ℕ) (k : ℕ) → Contains xs k → f k < above (map f xs)
above_has f [] k h = absurd (contains-nothing k h)
above_has f (x ∷ xs) k h = elim (inside x xs k h) [
  | inl e ↦ omega (arith, ap f e)
  | inr rest ↦ omega (arith, above_has f xs k rest)
]

-- the name that stands at a name's place
named_there : (b : Bool) (o : Option ℕ) (y n : List ℕ) (ys : List (List ℕ)) (k : ℕ) → (b ≡ true → n ≡ y) → ((j : ℕ) → o ≡ Some j → get_or ys j [] ≡ n) → cond b (Some 0) (option_map suc o) ≡ Some k → get_or (y ∷ ys) k [] ≡ n
named_there true o y n ys k here there h = let first_one : 0 ≡ k = same_Some 0 k h in let P : ℕ → Type 0 = λ i. get_or (y ∷ ys) i [] ≡ n in subst P first_one (sym (here refl))
named_there false None y n ys k here there h = cc
named_there false (Some j) y n ys k here there h = let next : suc j ≡ k = same_Some (suc j) k h in let P : ℕ → Type 0 = λ i. get_or (y ∷ ys) i [] ≡ n in subst P next (there j refl)

place_name : (names : List (List ℕ)) (n : List ℕ) (k : ℕ) → place (λ (x : List ℕ). x) names n ≡ Some k → get_or names k [] ≡ n
place_name [] n k h = cc
place_name (y ∷ ys) n k h = named_there (bytes_eq n y) (place (λ (x : List ℕ). x) ys n) y n ys k (λ e. (bytes_eq-Decides n y).0 e) (λ j e. place_name ys n j e) h

held_there : (lists : List (List ℕ)) (groups : List ℕ) (count : ℕ) (o : Option ℕ) → is_held_place lists groups o ≡ true → IfSome o (λ k. k < count) → (k : ℕ) × (o ≡ Some k) × (is_held lists groups k ≡ true) × (k < count)
held_there lists groups count None h within = cc
held_there lists groups count (Some k) h within = (k, refl, h, within)

-- a name in a row is that of a machine of the plan
pub name_planned : (estate : Estate) (members : Members) (row : PlanRow) (r : PlanMachineRow) (n : List ℕ) → unknown_machines estate members row ≡ [] → Contains row.machine r → Contains r.after n → is_planned estate members row n ≡ true
name_planned estate members row r n known listed named =
    let all = kept_all (is_planned estate members row) (flat_map named_machines row.machine) (map_empty (λ m. UnknownMachine m) (filter (λ m. not (is_planned estate members row m)) (flat_map named_machines row.machine)) known) in
    let here : Contains (named_machines r) n = Contains-append_right (r.name ∷ []) r.after n named in
    All-contains (λ m. is_planned estate members row m ≡ true) (flat_map named_machines row.machine) n all (flat_at named_machines row.machine listed.0 r n listed.1 listed.2 here)

-- a dependency has the priority of the machine
pub priority_same : (estate : Estate) (row : PlanRow) (r : PlanMachineRow) (n : List ℕ) → other_priorities estate row ≡ [] → Contains row.machine r → Contains r.after n → priority_of row n ≡ r.priority
priority_same estate row r n same listed named =
    let number_of = machine_number estate in
    let flat : flat_map (other_pairs number_of row) row.machine ≡ [] = map_empty (λ (pair : ℕ × ℕ). OtherPriority pair.0 pair.1) (flat_map (other_pairs number_of row) row.machine) same in
    let pairs : other_pairs number_of row r ≡ [] = none_at (other_pairs number_of row) row.machine listed.0 r listed.1 listed.2 flat in
    let all = kept_all (λ (m : List ℕ). int_eq (priority_of row m) r.priority) r.after (map_empty (λ (m : List ℕ). (number_of r.name, number_of m)) (filter (λ m. not (int_eq (priority_of row m) r.priority)) r.after) pairs) in
    (signed_Decides (priority_of row n) r.priority).0 (All-contains (λ (m : List ℕ). int_eq (priority_of row m) r.priority ≡ true) r.after n all named)

nothing_wanted : {X : Type 0} (x : X) → Contains [] x → ⊥
nothing_wanted x h = omega (arith, h.1)

-- the dependency of a machine of the plan, by what the row says of the machine
dependency_at : (estate : Estate) (members : Members) (row : PlanRow) (depths : List ℕ) (j k : ℕ) (a : List ℕ) (o : Option PlanMachineRow) → IsRowValid estate members row → AreDepths (dependencies estate row) depths
    → j < length (machine_names estate) → row_of row (get_or (machine_names estate) j []) ≡ o → Contains (wanted_after o) a → machine_number estate a ≡ k → Contains (get_or (dependencies estate row) j []) k
    → IsShallower (plan_of estate members row depths) (natural (priority_of row (get_or (machine_names estate) j []))) (slice_index depths j) k
dependency_at estate members row depths j k a None valid are within e named is listed = absurd (nothing_wanted a named)
dependency_at estate members row depths j k a (Some r) valid are within e named is listed =
    let names = machine_names estate in
    let f = plan_machine estate row depths in
    let graph = dependencies estate row in
    let there : Contains row.machine r = found_all (Contains row.machine) (λ m. bytes_eq (get_or names j []) m.name) row.machine r e (All-contains_itself row.machine) in
    let planned = name_planned estate members row r a (machines_right estate members row valid.named) there named in
    let at = held_there members.machines (group_numbers estate row) (length names) (place (λ (x : List ℕ). x) names a) planned (place_within (λ (x : List ℕ). x) names a) in
    let same : at.0 ≡ k = ap (λ (p : Option ℕ). unwrap_or p 0) (sym at.1) ∙ is in
    let Held : ℕ → Type 0 = λ i. is_held members.machines (group_numbers estate row) i ≡ true in
    let Below : ℕ → Type 0 = λ i. i < length names in
    let below : k < length names = subst Below same at.3 in
    let inner : k < length estate.machines = omega (arith, below, length-map estate.machines (λ m. m.name)) in
    let member : Contains (planned_machines estate members row) k = filtered_in (is_held members.machines (group_numbers estate row)) (range_with_len 0 (length estate.machines)) k (in_range (length estate.machines) k inner) (subst Held same at.2) in
    let name : get_or names k [] ≡ a = ap (λ (i : ℕ). get_or names i []) (sym same) ∙ place_name names a at.0 at.1 in
    let priority : priority_of row (get_or names k []) ≡ priority_of row (get_or names j []) = ap (priority_of row) name ∙ priority_same estate row r a (others_named estate members row valid.named) there named ∙ sym (ap wanted_priority e) in
    let graph_long : length graph ≡ length names = length-map names (after_of estate row) in
    let inside_graph : j < length graph = omega arith in
    let depth : slice_index depths j ≡ above (map (slice_index depths) (get_or graph j [])) = are.each j (get_or graph j []) (slice_get-get_or graph j [] inside_graph) in
    record {
      entry = f k;
      listed = mapped_to f (planned_machines estate members row) k member;
      number = refl;
      same_priority = ap natural priority;
      lower = omega (arith, depth, above_has (slice_index depths) (get_or graph j []) k listed);
    }

dependency_of : (estate : Estate) (members : Members) (row : PlanRow) (depths : List ℕ) → IsRowValid estate members row → AreDepths (dependencies estate row) depths
    → (m : PlanMachine) (k : ℕ) → Contains (plan_machines estate members row depths) m → Contains m.after k → IsShallower (plan_of estate members row depths) m.priority m.depth k
dependency_of estate members row depths valid are m k listed depends =
    let names = machine_names estate in
    let f = plan_machine estate row depths in
    let plan = plan_of estate members row depths in
    let at = mapped_from f (planned_machines estate members row) m listed in
    let j = at.0 in
    let within : j < length names = omega (arith, range_below (length estate.machines) j (filtered_from (is_held members.machines (group_numbers estate row)) (range_with_len 0 (length estate.machines)) j at.1), length-map estate.machines (λ m. m.name)) in
    let After : PlanMachine → Type 0 = λ x. Contains x.after k in
    let here : Contains (get_or (dependencies estate row) j []) k = subst After (sym at.2) depends in
    let Row : List ℕ → Type 0 = λ xs. Contains xs k in
    let by_row = mapped_from (machine_number estate) (wanted_after (row_of row (get_or names j []))) k (subst Row (get_or-map (after_of estate row) names j [] [] within) here) in
    let Is : PlanMachine → Type 0 = λ x. IsShallower plan x.priority x.depth k in
    subst Is at.2 (dependency_at estate members row depths j k by_row.0 (row_of row (get_or names j [])) valid are within refl by_row.1 by_row.2 here)

step_read : {X : Type 0} (xs : List X) (i : ℕ) (d : X) → i < length xs → get_or xs i d ≡ get_or xs i (get_or xs i d)
step_read xs i d within = get_or_default xs i d (get_or xs i d) within

-- a plan that was read is ordered
pub plan_ordered : (estate : Estate) (members : Members) (number : ℕ) (plan : Plan) → IsPlanOf estate members number plan → IsOrdered plan
plan_ordered estate members number plan is =
    let row = is.row in
    let depths = is.depths in
    let ks = planned_machines estate members row in
    let f = plan_machine estate row depths in
    let all = all_priorities estate row (priorities_named estate members row is.row_valid.named) in
    let Up : List ℕ → Type 0 = λ xs. IsStrictlyIncreasing xs in
    let ordered : IsOrdered (plan_of estate members row depths) = record {
      ascending = subst Up (sym (numbers_of estate row depths ks)) (IsStrictlyIncreasing-filter (is_held members.machines (group_numbers estate row)) (range_with_len 0 (length estate.machines)) (range_up (length estate.machines)));
      priorities = All-map (λ m. IsPriority m.priority) f ks (λ i d within. wanted_right row (get_or (machine_names estate) (get_or ks i d) []) (row_of row (get_or (machine_names estate) (get_or ks i d) [])) all refl);
      dependencies = dependency_of estate members row depths is.row_valid is.are_depths;
      steps = All-map (λ s. IsPriority s.before) plan_step row.step (λ i d within. priority_right (get_or row.step i d).before (step_right 1 row.step i (get_or row.step i d) is.row_valid.positions within (step_read row.step i d within)));
    } in
    let P : Plan → Type 0 = λ p. IsOrdered p in
    subst P (sym is.value) ordered
