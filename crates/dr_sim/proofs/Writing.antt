-- Production writes are drift.
use Rattle.std.proofs.Common.{◌≡◌, ℕ, ◌+◌, ◌<◌, inl, inr, if◌then◌else◌, List, set, get_or, get_or-set_same, get_or-set_other, drop, refl, drop-cons, length, add-one}
use Rattle.std.proofs.lemmas.List.{get_or_default}
use Rattle.std.proofs.lemmas.Bool.{cases_eq}
use Rattle.dr_outside.specs.declared.pair.Pair.{Pair}
use Rattle.dr_outside.specs.Pairs.{Drift}
use Rattle.dr_outside.specs.PairLists.{pair_at, no_pair}
use Rattle.dr_outside.proofs.Drifts.{Drift-refl}
use Rattle.dr_sim.specs.declared.production.Write.{Write}
use Rattle.dr_sim.specs.Production.{after_write, is_due, after_writes}

-- one pair drifts
pub one_drifts : (pairs : List Pair) (v : ℕ) (q d : Pair) → v < length pairs → Drift (get_or pairs v d) q → (i : ℕ) → Drift (pair_at pairs i) (pair_at (set pairs v q) i)
one_drifts pairs v q d l drift i =
    elim (cases_eq i v) [
      | inl e ↦ rw (e, get_or-set_same pairs v q no_pair l, get_or_default pairs v no_pair d l) drift
      | inr other ↦ rw (get_or-set_other pairs v i q no_pair other) (Drift-refl (pair_at pairs i))
    ]

-- one more write
pub writes_more : (count number : ℕ) (writer : List Write) (n : ℕ) (d : Write) (i : ℕ) (p q : Pair) → n < length writer → q ≡ (if is_due count number i (get_or writer n d) then after_write (get_or writer n d) p else p) → after_writes count number (drop (n + 1) writer) i q ≡ after_writes count number (drop n writer) i p
writes_more count number writer n d i p q l e = rw (e, add-one, drop-cons writer n d l) refl
