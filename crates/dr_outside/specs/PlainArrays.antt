-- An array in memory: how it opens, which of its calls fail, and what each other call does at once.
use Rattle.std.specs.Prelude.{ℕ, ◌≡◌, Bool, ◌&&◌, ◌==◌, if◌then◌else◌, List, [], ◌∷◌, length, replicate, Option, Some, None, Result, Ok, Err}
use Rattle.std.proofs.Common.{refl, arith}
use Rattle.dr_base.specs.Causes.{one_more}
use Rattle.dr_base.specs.declared.side.Side.{Side}
use Rattle.dr_base.specs.declared.side.Side.TheVariants.{A}
use Rattle.dr_outside.specs.declared.sides.Sides.{Sides}
use Rattle.dr_outside.specs.declared.pair.Pair.{Pair}
use Rattle.dr_outside.specs.declared.pair.Link.TheVariants.{Live}
use Rattle.dr_outside.specs.declared.array.ArrayCall.{ArrayCall}
use Rattle.dr_outside.specs.declared.array.ArrayFail.{ArrayFail}
use Rattle.dr_outside.specs.declared.array.ArrayFail.TheVariants.{Failed, Wrong}
use Rattle.dr_outside.specs.BySide.{at, only}
use Rattle.dr_outside.specs.Counts.{one_more_at}
use Rattle.dr_outside.specs.Pairs.{target, made, half}
use Rattle.dr_base.specs.Lists.{has}
use Rattle.dr_outside.specs.Arrays.{ArrayState, IsLeastOfClass, has_part}
use Rattle.dr_outside.specs.PairLists.{pair_at}

-- its pairs, the calls on lists so far, the calls that are to fail and at which side, and its faults
pub record PlainArrayState : Type 0 where
  pub pairs : List Pair
  pub calls : ℕ
  pub fails : List (ℕ × Side)
  pub faults : Sides ℕ

-- a pair at first: it replicates from A, and B is five writes behind
abbrev pub opening_pair : Pair
opening_pair =
    record {
      source = A;
      link = Live;
      writable = only A;
      content = record { a = record { line = 0; base = 0; writes = 100 }; b = record { line = 0; base = 0; writes = 95 } };
      snapshot = None;
    }

-- an array at first
abbrev pub opening_array : ℕ → List (ℕ × Side) → PlainArrayState
opening_array count fails = record { pairs = replicate count opening_pair; calls = 0; fails = fails; faults = record { a = 0; b = 0 } }

-- what it holds, as of any array: each pair is a consistency group of its own
abbrev pub state_of : PlainArrayState → ArrayState
state_of plain = record { count = length plain.pairs; group = λ i. i; pair = pair_at plain.pairs; faults = λ side. at side plain.faults }

-- such a group goes by its one pair
pub each_alone : IsLeastOfClass (λ i. i)
each_alone = record { below = λ i. omega arith; again = λ i. refl }

-- the side at which a call of this number is to fail: that of the first entry for it whose side the call can answer
abbrev pub side_to_fail : ℕ → (Side → Bool) → List (ℕ × Side) → Option Side
side_to_fail number can_answer [] = None
side_to_fail number can_answer (fail ∷ rest) = if (fail.0 == number) && can_answer fail.1 then Some fail.1 else side_to_fail number can_answer rest

-- what a call that isn't to fail does: each listed pair is made and no other changes, or a pair is shown as its target has it and none changes
abbrev pub AtOnce : ArrayCall → List ℕ → List Pair → List Pair → Result (Unit {0}) ArrayFail → Type 0
AtOnce call list old new (Ok _) = (i : ℕ) → pair_at new i ≡ (if has list i then made call (pair_at old i) else pair_at old i)
AtOnce call list old new (Err (Wrong k seen)) = (new ≡ old) × (seen ≡ half (target (pair_at old k)) (pair_at old k))
AtOnce call list old new (Err (Failed side)) = ⊥

-- how a call ends, by the side at which it is to fail: there it fails, changes no pair and counts one fault, and else no fault is counted
abbrev pub CallEnds : Option Side → ArrayCall → List ℕ → PlainArrayState → PlainArrayState → Result (Unit {0}) ArrayFail → Type 0
CallEnds (Some side) call list old new result = (result ≡ Err (Failed side)) × (new.pairs ≡ old.pairs) × (new.faults ≡ one_more_at side old.faults)
CallEnds None call list old new result = AtOnce call list old.pairs new.pairs result × (new.faults ≡ old.faults)

-- all that a call on a list does: it is counted, and fails exactly where that is listed
pub record PlainStep (call : ArrayCall) (list : List ℕ) (old new : PlainArrayState) (result : Result (Unit {0}) ArrayFail) : Type 0 where
  pub calls : new.calls ≡ one_more old.calls
  pub fails : new.fails ≡ old.fails
  pub exact : CallEnds (side_to_fail (one_more old.calls) (has_part call list (pair_at old.pairs)) old.fails) call list old new result
