-- Calls that happen at once, without drift.
use Rattle.std.proofs.Common.{◌≡◌, ℕ, inl, inr, true, false, ◌&&◌, List, sym, subst, if◌then◌else◌}
use Rattle.std.proofs.lemmas.Bool.{cases_Bool}
use Rattle.dr_base.specs.declared.side.Side.{Side}
use Rattle.dr_outside.specs.declared.pair.Pair.{Pair}
use Rattle.dr_outside.specs.declared.pair.Half.{Half}
use Rattle.dr_outside.specs.declared.array.ArrayCall.{ArrayCall}
use Rattle.dr_outside.specs.Pairs.{Drift, Made, PairStep, made, is_fit, Read, half, target}
use Rattle.dr_base.specs.Lists.{has}
use Rattle.dr_outside.specs.Arrays.{SomeDone, EachStep, EachDrift, IsWrong, IsFirstUnfit, has_part}
use Rattle.dr_outside.proofs.Drifts.{Drift-refl}

-- a call that makes a pair at once
pub made_at_once : (call : ArrayCall) (p q : Pair) → is_fit call p ≡ true → q ≡ made call p → Made call p q
made_at_once call p q fit is = record { fit = fit; moment = p; before = Drift-refl p; after = subst (λ (x : Pair). Drift (made call p) x) (sym is) (Drift-refl (made call p)) }

-- nothing done, whatever is listed
pub none_done : (call : ArrayCall) (list : List ℕ) (side : Side) (group : ℕ → ℕ) (old new : ℕ → Pair) → has_part call list old side ≡ true → EachDrift old new → SomeDone call list side group old new
none_done call list side group old new part drift = record {
  done = λ _. false;
  each = λ i. elim (has list i) as (λ b. PairStep call (b && false) (old i) (new i)) [ true ↦ drift i | false ↦ drift i ];
  fit = λ i j a b. cc;
  part = part;
}

-- each listed pair made at once, and each other one left
pub each_made : (call : ArrayCall) (list : List ℕ) (old new : ℕ → Pair) → ((i : ℕ) → has list i ≡ true → is_fit call (old i) ≡ true) → ((i : ℕ) → new i ≡ (if has list i then made call (old i) else old i)) → EachStep call (has list) old new
each_made call list old new fit is i =
    elim (cases_Bool (has list i)) [
      | inl l ↦ rw l (made_at_once call (old i) (new i) (fit i l) (rw l at (is i)))
      | inr l ↦ rw l (subst (λ (x : Pair). Drift (old i) x) (sym (rw l at (is i))) (Drift-refl (old i)))
    ]

-- a pair that is read at once
pub read_at_once : (side : Side) (p : Pair) (it : Half) → it ≡ half side p → Read side p p it
read_at_once side p it is = record { moment = p; before = Drift-refl p; after = Drift-refl p; seen = is }

-- the first pair that isn't as the call needs it is told, and nothing is done
pub wrong_at_once : (call : ArrayCall) (list : List ℕ) (old : ℕ → Pair) (k : ℕ) (it : Half) → IsFirstUnfit call list old k → it ≡ half (target (old k)) (old k) → IsWrong call list old old k it
wrong_at_once call list old k it first seen = record {
  first = first;
  read = read_at_once (target (old k)) (old k) it seen;
  others = λ i. Drift-refl (old i);
}
