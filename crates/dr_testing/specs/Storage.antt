-- What replicating pairs and taking their snapshots leaves.
use Rattle.std.specs.Prelude.{ℕ, ◌≡◌, Bool, true, false, ◌&&◌, List, Result, Ok, Err}
use Rattle.dr_outside.specs.declared.pair.Pair.{Pair}
use Rattle.dr_outside.specs.declared.pair.Half.{Half}
use Rattle.dr_outside.specs.declared.array.ArrayCall.TheVariants.{TestStart}
use Rattle.dr_outside.specs.declared.array.ArrayFail.{ArrayFail}
use Rattle.dr_outside.specs.declared.array.ArrayFail.TheVariants.{Failed, Wrong}
use Rattle.dr_outside.specs.Pairs.{Drift, half, target, is_fit}
use Rattle.dr_base.specs.Lists.{has}
use Rattle.dr_outside.specs.Arrays.{ArrayState}
use Rattle.dr_meaning.specs.Testing.{HasTestSnapshot}

-- one pair after a test's storage is done: with its snapshot where it is listed, and drifted alone where it isn't
abbrev pub PairDone : ℕ → Bool → Pair → Pair → Type 0
PairDone run true old new = HasTestSnapshot run old new
PairDone run false old new = Drift old new

-- after a failed call: each consistency group of the list has its snapshots, or drifted alone
pub record SomeSnapshots (run : ℕ) (list : List ℕ) (group : ℕ → ℕ) (old new : ℕ → Pair) : Type 0 where
  pub done : ℕ → Bool
  pub each : (i : ℕ) → PairDone run (has list i && done (group i)) (old i) (new i)

-- each pair, by the answer; from the opening state no pair is refused
abbrev pub StorageStep : ℕ → List ℕ → ArrayState → ArrayState → Result (Unit {0}) ArrayFail → Type 0
StorageStep run list old new (Ok _) = (i : ℕ) → PairDone run (has list i) (old.pair i) (new.pair i)
StorageStep run list old new (Err (Failed side)) = SomeSnapshots run list old.group old.pair new.pair
StorageStep run list old new (Err (Wrong k half)) = ⊥

-- a pair that wasn't as a test needs it, and what was found: its target's half as it was before, but for its content
pub record IsUnfitPair (run : ℕ) (old : Pair) (found : Half) : Type 0 where
  pub unfit : is_fit (TestStart run) old ≡ false
  pub shown : found ≡ record (half (target old) old) { content = found.content }

-- each pair of a list is as a test needs it: live and without snapshot
abbrev pub AreFit : ℕ → List ℕ → (ℕ → Pair) → Type 0
AreFit run list pair = (i : ℕ) → has list i ≡ true → is_fit (TestStart run) (pair i) ≡ true

-- where snapshots were taken, each pair was as a test needs it; a refused pair wasn't, and is told with its own half
abbrev pub StorageTold : ℕ → List ℕ → (ℕ → Pair) → Result (Unit {0}) ArrayFail → Type 0
StorageTold run list old (Ok _) = AreFit run list old
StorageTold run list old (Err (Failed side)) = Unit {0}
StorageTold run list old (Err (Wrong k found)) = IsUnfitPair run (old k) found
