-- What a call of an array does to its pairs.
use Rattle.std.specs.Prelude.{ℕ, ◌≡◌, ◌<◌, ◌≤◌, Bool, true, false, ◌&&◌, ◌||◌, ◌==◌, List, length, slice_index, Result, Ok, Err}
use Rattle.std.specs.List.{list_any}
use Rattle.std.specs.List.Sorted.{IsStrictlyIncreasing}
use Rattle.dr_base.specs.declared.side.Side.{Side}
use Rattle.dr_base.specs.Lists.{has}
use Rattle.dr_base.specs.Sides.{other}
use Rattle.dr_base.specs.Causes.{Rose}
use Rattle.dr_outside.specs.declared.pair.Pair.{Pair}
use Rattle.dr_outside.specs.declared.pair.Half.{Half}
use Rattle.dr_outside.specs.declared.array.ArrayCall.{ArrayCall}
use Rattle.dr_outside.specs.declared.array.ArrayFail.{ArrayFail}
use Rattle.dr_outside.specs.declared.array.ArrayFail.TheVariants.{Failed, Wrong}
use Rattle.dr_outside.specs.Pairs.{Drift, PairStep, may_fail, Read, is_fit}

-- an array: how many pairs it has, the least pair of each pair's consistency group, its pairs by number, and its faults by side
pub record ArrayState : Type 0 where
  pub count : ℕ
  pub group : ℕ → ℕ
  pub pair : ℕ → Pair
  pub faults : Side → ℕ

-- each number stands for its class, of which it is the least
pub record IsLeastOfClass (least : ℕ → ℕ) : Type 0 where
  pub below : (i : ℕ) → least i ≤ i
  pub again : (i : ℕ) → least (least i) ≡ least i

-- strictly ascending numbers of pairs
pub record IsPairList (count : ℕ) (list : List ℕ) : Type 0 where
  pub ascending : IsStrictlyIncreasing list
  pub below : (j : ℕ) → j < length list → slice_index list j < count

-- what holds after every call: the shape stays, counts don't fall, and a failed call raised its side's
pub record ArrayCause {T : Type 0} (old new : ArrayState) (result : Result T ArrayFail) : Type 0 where
  pub count : new.count ≡ old.count
  pub group : new.group ≡ old.group
  pub later : (side : Side) → old.faults side ≤ new.faults side
  pub failed : (side : Side) → result ≡ Err (Failed side) → Rose (old.faults side) (new.faults side)

-- a pair that isn't as the call needs it is one of the list
abbrev pub NamesListed : List ℕ → Result (Unit {0}) ArrayFail → Type 0
NamesListed list (Ok _) = Unit {0}
NamesListed list (Err (Failed side)) = Unit {0}
NamesListed list (Err (Wrong k half)) = has list k ≡ true

-- each pair is made or drifts, by this test
abbrev pub EachStep : ArrayCall → (ℕ → Bool) → (ℕ → Pair) → (ℕ → Pair) → Type 0
EachStep call test old new = (i : ℕ) → PairStep call (test i) (old i) (new i)

-- each pair drifts
abbrev pub EachDrift : (ℕ → Pair) → (ℕ → Pair) → Type 0
EachDrift old new = (i : ℕ) → Drift (old i) (new i)

-- k is the least pair of the list that isn't as the call needs it
pub record IsFirstUnfit (call : ArrayCall) (list : List ℕ) (pair : ℕ → Pair) (k : ℕ) : Type 0 where
  pub listed : has list k ≡ true
  pub unfit : is_fit call (pair k) ≡ false
  pub least : (j : ℕ) → has list j ≡ true → j < k → is_fit call (pair j) ≡ true

-- a refused call names the least such pair and its target's half, and each pair drifts
pub record IsWrong (call : ArrayCall) (list : List ℕ) (old new : ℕ → Pair) (k : ℕ) (half : Half) : Type 0 where
  pub first : IsFirstUnfit call list old k
  pub read : Read (other (old k).source) (old k) (new k) half
  pub others : EachDrift old new

-- whether a fault of the call may be this side's: that of some pair of the list, or either side of an empty list
abbrev pub has_part : ArrayCall → List ℕ → (ℕ → Pair) → Side → Bool
has_part call list pair side = (length list == 0) || list_any (λ k. may_fail call (pair k) side) list

-- a failed call: each consistency group of the list is done or as it was, and none is done where a pair isn't as it must be
pub record SomeDone (call : ArrayCall) (list : List ℕ) (side : Side) (group : ℕ → ℕ) (old new : ℕ → Pair) : Type 0 where
  pub done : ℕ → Bool
  pub each : EachStep call (λ i. has list i && done (group i)) old new
  pub fit : (i j : ℕ) → has list i ≡ true → done (group i) ≡ true → has list j ≡ true → is_fit call (old j) ≡ true
  pub part : has_part call list old side ≡ true

-- what a call leaves, by its answer
abbrev pub ArrayStep : ArrayCall → List ℕ → ArrayState → ArrayState → Result (Unit {0}) ArrayFail → Type 0
ArrayStep call list old new (Ok _) = EachStep call (has list) old.pair new.pair
ArrayStep call list old new (Err (Wrong k half)) = IsWrong call list old.pair new.pair k half
ArrayStep call list old new (Err (Failed side)) = SomeDone call list side old.group old.pair new.pair

-- a reading of a pair at a side: each pair only drifts
abbrev pub ArrayRead : ℕ → Side → ArrayState → ArrayState → Result Half ArrayFail → Type 0
ArrayRead i side old new (Ok half) = Read side (old.pair i) (new.pair i) half × EachDrift old.pair new.pair
ArrayRead i side old new (Err e) = EachDrift old.pair new.pair
