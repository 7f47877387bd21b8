-- What a copy of the next bytes to the front of a buffer leaves.
use Rattle.std.proofs.Common.{arith, sym, ◌≡◌, ℕ, ◌+◌, ◌-◌, ◌<◌, List, [], ◌++◌, length, take, drop, min}
use Rattle.std.proofs.lemmas.List.{take-append-drop, take_all, drop-drop, length-drop, nil_from_length}

-- a slice from an index on is what is left there
pub rest_from : (bytes seen : List ℕ) (at : ℕ) → seen ≡ bytes → take (length seen - at) (drop at seen) ≡ drop at bytes
rest_from bytes seen at same = rw (same) (take_all _ _ (omega (arith, length-drop at bytes)))

-- the next bytes went to the front of the buffer, and the rest is left
pub moved_front : (bytes from : List ℕ) (at n size : ℕ) (left after : List ℕ) → left ≡ drop at bytes → from ≡ drop at bytes → take n after ≡ take n from → n ≡ min (length from) size → length after ≡ size → (left ≡ take n after ++ drop (at + n) bytes) × (n ≡ 0 → 0 < length after → drop (at + n) bytes ≡ [])
moved_front bytes from at n size left after rest same front count fits = (
  rw (rest, front, same, ← drop-drop n at bytes) (sym (take-append-drop n (drop at bytes))),
  λ none some. nil_from_length _ (grind (arith, length-drop (at + n) bytes, length-drop at bytes, same, count, fits, none, some)),
)
