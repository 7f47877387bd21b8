-- A simulated array: which of its calls fail, and what each call leaves.
use Rattle.std.specs.Prelude.{ℕ, ◌≡◌, Bool, true, false, ◌&&◌, if◌then◌else◌, is_some, List, [], ◌∷◌, length, take, Option, Some, None, Result, Ok, Err}
use Rattle.std.specs.List.{list_all}
use Rattle.dr_base.specs.declared.side.Side.{Side}
use Rattle.dr_base.specs.declared.side.Side.TheVariants.{A, B}
use Rattle.dr_outside.specs.declared.sides.Sides.{Sides}
use Rattle.dr_outside.specs.declared.pair.Pair.{Pair}
use Rattle.dr_outside.specs.declared.pair.Half.{Half}
use Rattle.dr_outside.specs.declared.array.ArrayCall.{ArrayCall}
use Rattle.dr_outside.specs.declared.array.ArrayCall.TheVariants.{Sync, TestStart, TestStop, Prepare, Failover, Reverse}
use Rattle.dr_outside.specs.declared.array.ArrayFail.{ArrayFail}
use Rattle.dr_outside.specs.declared.array.ArrayFail.TheVariants.{Failed, Wrong}
use Rattle.dr_outside.specs.BySide.{at, only}
use Rattle.dr_outside.specs.Counts.{one_more_at}
use Rattle.dr_outside.specs.Pairs.{target, made, half, is_fit, may_fail}
use Rattle.dr_base.specs.Lists.{has}
use Rattle.dr_outside.specs.Arrays.{ArrayState, IsFirstUnfit}
use Rattle.dr_outside.specs.PairLists.{pair_at}
use Rattle.dr_sim.specs.declared.faults.ArrayFault.{ArrayFault}
use Rattle.dr_sim.specs.declared.meter.Meter.{Meter}
use Rattle.dr_sim.specs.declared.production.Write.{Write}
use Rattle.dr_sim.specs.Faults.{array_fault}
use Rattle.dr_sim.specs.Groups.{least_of, groups_of}
use Rattle.dr_sim.specs.Meters.{is_spent, next_call, counted}
use Rattle.dr_sim.specs.Production.{after_writes}

-- its pairs, their consistency entries, its calls and fuse, the faults and production writes that are listed, and its faults by side
pub record SimArrayState : Type 0 where
  pub pairs : List Pair
  pub entries : List ℕ
  pub meter : Meter
  pub faults : List ArrayFault
  pub writer : List Write
  pub counts : Sides ℕ

-- what it holds, as of any array
abbrev pub state_of : SimArrayState → ArrayState
state_of array = record { count = length array.pairs; group = least_of array.entries; pair = pair_at array.pairs; faults = λ side. at side array.counts }

-- a pair just before the next call, when production has written
abbrev pub pair_before : SimArrayState → ℕ → Pair
pair_before array i = after_writes (length array.pairs) (next_call array.meter) array.writer i (pair_at array.pairs i)

-- the sides that have a part in a call, by the list's first pair; both have one in a call on no pair
abbrev pub parts_of : ArrayCall → List ℕ → (ℕ → Pair) → Sides Bool
parts_of call [] pair = record { a = true; b = true }
parts_of call (k ∷ rest) pair = record { a = may_fail call (pair k) A; b = may_fail call (pair k) B }

-- the side of a pair at which a call fails by itself: the source's, where either may fail
abbrev pub first_side : ArrayCall → Pair → Side
first_side Sync pair = pair.source
first_side (TestStart run) pair = target pair
first_side TestStop pair = target pair
first_side Prepare pair = pair.source
first_side (Failover run) pair = target pair
first_side Reverse pair = pair.source

-- where a call on a list fails by itself: at its first pair's side; a call on no pair fails at A
abbrev pub spent_side : ArrayCall → List ℕ → (ℕ → Pair) → Side
spent_side call [] pair = A
spent_side call (k ∷ rest) pair = first_side call (pair k)

-- the fault of the next call, if it is this one on a list
abbrev pub list_fault : ArrayCall → List ℕ → SimArrayState → Option (Side × ℕ)
list_fault call list array = array_fault array.meter array.faults (parts_of call list (pair_at array.pairs)) (spent_side call list (pair_at array.pairs))

-- whether each pair of the list is as the call needs it
abbrev pub are_fit : ArrayCall → List ℕ → (ℕ → Pair) → Bool
are_fit call list pair = list_all (λ k. is_fit call (pair k)) list

-- whether a call that fails after so many consistency groups makes pair i: all are as it needs them, and the pair is one of the list, in one of its first groups
abbrev pub is_done : ArrayCall → List ℕ → (ℕ → ℕ) → (ℕ → Pair) → ℕ → ℕ → Bool
is_done call list group pair groups i = are_fit call list pair && (has list i && has (take groups (groups_of group list)) (group i))

-- the pairs that pass a test are made, and no other changes
abbrev pub Makes : ArrayCall → (ℕ → Bool) → (ℕ → Pair) → (ℕ → Pair) → Type 0
Makes call test old new = (i : ℕ) → new i ≡ (if test i then made call (old i) else old i)

-- what a call that has no fault does: it makes each pair of the list, or it shows the first that isn't as it needs it, as its target has it, and makes none
abbrev pub MakesAll : ArrayCall → List ℕ → (ℕ → Pair) → (ℕ → Pair) → Result (Unit {0}) ArrayFail → Type 0
MakesAll call list old new (Ok _) = (are_fit call list old ≡ true) × Makes call (has list) old new
MakesAll call list old new (Err (Wrong k seen)) = IsFirstUnfit call list old k × (seen ≡ half (target (old k)) (old k)) × ((i : ℕ) → new i ≡ old i)
MakesAll call list old new (Err (Failed side)) = ⊥

-- how a call on a list ends, by its fault, from the pairs just before it
abbrev pub ListEnds : Option (Side × ℕ) → ArrayCall → List ℕ → SimArrayState → SimArrayState → Result (Unit {0}) ArrayFail → Type 0
ListEnds (Some fault) call list old new result =
    (result ≡ Err (Failed fault.0)) × Makes call (is_done call list (least_of old.entries) (pair_before old) fault.1) (pair_before old) (pair_at new.pairs)
    × (new.counts ≡ one_more_at fault.0 old.counts)
ListEnds None call list old new result = MakesAll call list (pair_before old) (pair_at new.pairs) result × (new.counts ≡ old.counts)

-- one call more was counted, and what is listed stays
pub record Goes (old new : SimArrayState) : Type 0 where
  pub count : length new.pairs ≡ length old.pairs
  pub entries : new.entries ≡ old.entries
  pub meter : new.meter ≡ counted old.meter
  pub faults : new.faults ≡ old.faults
  pub writer : new.writer ≡ old.writer

-- all that a call on a list does
pub record ListStep (call : ArrayCall) (list : List ℕ) (old new : SimArrayState) (result : Result (Unit {0}) ArrayFail) : Type 0 where
  pub goes : Goes old new
  pub ends : ListEnds (list_fault call list old) call list old new result

-- how a reading of a pair at a side ends, by whether it has a fault
abbrev pub PairEnds : Bool → ℕ → Side → SimArrayState → SimArrayState → Result Half ArrayFail → Type 0
PairEnds true i side old new result = (result ≡ Err (Failed side)) × (new.counts ≡ one_more_at side old.counts)
PairEnds false i side old new result = (result ≡ Ok (half side (pair_before old i))) × (new.counts ≡ old.counts)

-- all that a reading of a pair at a side does: the asked side alone has a part in it
pub record PairStep (i : ℕ) (side : Side) (old new : SimArrayState) (result : Result Half ArrayFail) : Type 0 where
  pub goes : Goes old new
  pub pairs : (k : ℕ) → pair_at new.pairs k ≡ pair_before old k
  pub ends : PairEnds (is_some (array_fault old.meter old.faults (only side) side)) i side old new result

-- no fault is listed, and the fuse isn't spent
pub record IsQuiet (array : SimArrayState) : Type 0 where
  pub faults : array.faults ≡ []
  pub fuse : is_spent array.meter.fuse ≡ false
