-- Of a row there is one first fault, and none where nothing is wrong.
use Rattle.std.proofs.Common.{◌≡◌, ◌≢◌, ◌∙◌, ◌⊎◌, ℕ, zero, suc, ◌+◌, ◌<◌, List, [], ◌∷◌, ◌++◌, length, Some, inl, inr, refl, sym, ap, subst, arith}
use Rattle.std.specs.List.{Contains}
use Rattle.std.specs.List.Sorted.{IsStrictlyIncreasing}
use Rattle.std.proofs.lemmas.List.Kept.{AllPairs-from_increasing}
use Rattle.std.proofs.lemmas.List.Elements.{Contains-append_cases, Contains-append_left, Contains-append_right}
use Rattle.std.proofs.lemmas.Option.{same_Some}
use Rattle.dr_base.specs.declared.plan_fault.PlanFault.{PlanFault}
use Rattle.dr_base.specs.declared.plan_fault.PlanFault.TheVariants.{UnknownGroup, GroupTwice, UnknownMachine, BadPriority, OtherPriority, Cycle, BadPosition, NoMemory}
use Rattle.dr_inventory.specs.declared.estate.PlanRow.{PlanRow}
use Rattle.dr_inventory.specs.declared.estate.Estate.{Estate}
use Rattle.dr_inventory.specs.Names.{first}
use Rattle.dr_inventory.proofs.Empty.{front_empty, back_empty}
use Rattle.dr_inventory.specs.declared.members.Members.{Members}
use Rattle.dr_groups.specs.Marks.{ListsAscending}
use Rattle.dr_groups.proofs.RowLaws.{found_same}
use Rattle.dr_groups.proofs.UniqueLaws.{one_ascending}
use Rattle.dr_plan.specs.Cycles.{IsOnCycle}
use Rattle.dr_plan.specs.Rows.{dependencies}
use Rattle.dr_plan.specs.Faults.{unknown_groups, groups_twice, unknown_machines, bad_priorities, other_priorities, name_faults, bad_positions, IsFirstCycle, IsFirstPosition, IsFirstOfRow, IsFirstFault, IsRowValid, IsValid}
use Rattle.dr_plan.proofs.ChainLaws.{contains-one, contains-this}

pub groups_right : (estate : Estate) (members : Members) (row : PlanRow) → name_faults estate members row ≡ [] → unknown_groups estate row ≡ []
groups_right estate members row named = front_empty (unknown_groups estate row) _ named

machines_named : (estate : Estate) (members : Members) (row : PlanRow) → name_faults estate members row ≡ [] → unknown_machines estate members row ++ (bad_priorities estate row ++ other_priorities estate row) ≡ []
machines_named estate members row named = back_empty (groups_twice row) _ (back_empty (unknown_groups estate row) _ named)

pub machines_right : (estate : Estate) (members : Members) (row : PlanRow) → name_faults estate members row ≡ [] → unknown_machines estate members row ≡ []
machines_right estate members row named = front_empty (unknown_machines estate members row) _ (machines_named estate members row named)

pub priorities_named : (estate : Estate) (members : Members) (row : PlanRow) → name_faults estate members row ≡ [] → bad_priorities estate row ≡ []
priorities_named estate members row named = front_empty (bad_priorities estate row) (other_priorities estate row) (back_empty (unknown_machines estate members row) _ (machines_named estate members row named))

pub others_named : (estate : Estate) (members : Members) (row : PlanRow) → name_faults estate members row ≡ [] → other_priorities estate row ≡ []
others_named estate members row named = back_empty (bad_priorities estate row) (other_priorities estate row) (back_empty (unknown_machines estate members row) _ (machines_named estate members row named))

-- ascending lists of the same numbers are one
pub inside : (x : ℕ) (xs : List ℕ) (k : ℕ) → Contains (x ∷ xs) k → (x ≡ k) ⊎ Contains xs k
inside x xs k h = elim (Contains-append_cases (x ∷ []) xs k h) [
  | inl one ↦ inl (contains-one x k one)
  | inr rest ↦ inr rest
]

pub behind : (x : ℕ) (xs : List ℕ) (k : ℕ) → Contains xs k → Contains (x ∷ xs) k
behind x xs k h = Contains-append_right (x ∷ []) xs k h

pub ahead : (x : ℕ) (xs : List ℕ) → Contains (x ∷ xs) x
ahead x xs = Contains-append_left (x ∷ []) xs x (contains-this x)

pub later : (x : ℕ) (xs : List ℕ) → IsStrictlyIncreasing (x ∷ xs) → (k : ℕ) → Contains xs k → x < k
later x xs up k h =
    let P : ℕ → Type 0 = λ n. x < n in
    let within : suc h.0 < length (x ∷ xs) = omega (arith, h.1) in
    subst P h.2 (AllPairs-from_increasing (x ∷ xs) up zero (suc h.0) k (omega arith) within)

pub tail_up : (x : ℕ) (xs : List ℕ) → IsStrictlyIncreasing (x ∷ xs) → IsStrictlyIncreasing xs
tail_up x xs up = λ k h.
    let within : suc (k + 1) < length (x ∷ xs) = omega (arith, h) in
    AllPairs-from_increasing (x ∷ xs) up (suc k) (suc (k + 1)) 0 (omega arith) within

-- an empty list has no first
pub none_first : (fs : List PlanFault) (f : PlanFault) → fs ≡ [] → first fs ≡ Some f → ⊥
none_first [] f none h = cc
none_first (g ∷ fs) f none h = cc

some_cycle : (graph : List (List ℕ)) (machines : List ℕ) → ListsAscending (IsOnCycle graph) machines → machines ≢ [] → ((m : ℕ) → ¬ IsOnCycle graph m) → ⊥
some_cycle graph [] lists some none = some refl
some_cycle graph (m ∷ ms) lists some none = none m ((lists.exactly m).0 (ahead m ms))

-- a first fault is one of names and priorities, a cycle, or a step
data Told (estate : Estate) (members : Members) (row : PlanRow) (f : PlanFault) : Type 0 where
  named : first (name_faults estate members row) ≡ Some f → Told estate members row f
  cycle : (machines : List ℕ) → f ≡ Cycle machines → IsFirstCycle estate members row machines → Told estate members row f
  position : IsFirstPosition estate members row f → Told estate members row f

told : (estate : Estate) (members : Members) (row : PlanRow) (f : PlanFault) → IsFirstOfRow estate members row f → Told estate members row f
told estate members row (UnknownGroup n) h = named h
told estate members row (GroupTwice n) h = named h
told estate members row (UnknownMachine n) h = named h
told estate members row (BadPriority m n) h = named h
told estate members row (OtherPriority m n) h = named h
told estate members row (Cycle ms) h = cycle ms refl h
told estate members row (BadPosition s n) h = position h
told estate members row NoMemory h = absurd h

one_told : (estate : Estate) (members : Members) (row : PlanRow) (f g : PlanFault) → Told estate members row f → Told estate members row g → f ≡ g
one_told estate members row f g (named p) (named q) = same_Some f g (sym p ∙ q)
one_told estate members row f g (named p) (cycle ms e q) = absurd (none_first (name_faults estate members row) f q.named p)
one_told estate members row f g (named p) (position q) = absurd (none_first (name_faults estate members row) f q.named p)
one_told estate members row f g (cycle ms e p) (named q) = absurd (none_first (name_faults estate members row) g p.named q)
one_told estate members row f g (cycle ms e p) (cycle ms' e' q) = e ∙ ap Cycle (one_ascending (IsOnCycle (dependencies estate row)) ms ms' p.on_cycles q.on_cycles) ∙ sym e'
one_told estate members row f g (cycle ms e p) (position q) = absurd (some_cycle (dependencies estate row) ms p.on_cycles p.some q.no_cycle)
one_told estate members row f g (position p) (named q) = absurd (none_first (name_faults estate members row) g p.named q)
one_told estate members row f g (position p) (cycle ms e q) = absurd (some_cycle (dependencies estate row) ms q.on_cycles q.some p.no_cycle)
one_told estate members row f g (position p) (position q) = same_Some f g (sym p.told ∙ q.told)

none_told : (estate : Estate) (members : Members) (row : PlanRow) (f : PlanFault) → IsRowValid estate members row → Told estate members row f → ⊥
none_told estate members row f valid (named p) = none_first (name_faults estate members row) f valid.named p
none_told estate members row f valid (cycle ms e p) = some_cycle (dependencies estate row) ms p.on_cycles p.some valid.no_cycle
none_told estate members row f valid (position p) = none_first (bad_positions 1 row.step) f valid.positions p.told

-- a valid plan has no fault
pub valid_has_none : (estate : Estate) (members : Members) (number : ℕ) (f : PlanFault) → IsValid estate members number → IsFirstFault estate members number f → ⊥
valid_has_none estate members number f valid fault =
    let P : PlanRow → Type 0 = λ r. IsFirstOfRow estate members r f in
    none_told estate members valid.row f valid.row_valid (told estate members valid.row f (subst P (found_same _ fault.row valid.row fault.found valid.found) fault.first_of_row))

-- a plan has one first fault
pub one_fault : (estate : Estate) (members : Members) (number : ℕ) (f g : PlanFault) → IsFirstFault estate members number f → IsFirstFault estate members number g → f ≡ g
one_fault estate members number f g a b =
    let P : PlanRow → Type 0 = λ r. IsFirstOfRow estate members r f in
    one_told estate members b.row f g (told estate members b.row f (subst P (found_same _ a.row b.row a.found b.found) a.first_of_row)) (told estate members b.row g b.first_of_row)
