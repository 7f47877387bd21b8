-- Reading entries one after the other, as a loop does.
use Rattle.std.proofs.Common.{◌≡◌, ℕ, suc, ◌-◌, ◌+◌, ◌≤◌, ◌<◌, List, [], ◌∷◌, ◌++◌, Result, Ok, Err, refl, sym, ap, ◌∙◌, append_assoc, arith}
use Rattle.std.proofs.lemmas.List.{append-nil}
use Rattle.dr_base.specs.declared.stop.Stop.{Stop}
use Rattle.dr_base.specs.declared.stop.Stop.TheVariants as stops
use Rattle.dr_records.specs.Reading.{◌>>=◌, StopsAs, entries_at}

-- what was read before, and what is still read
abbrev pub with_front : {A : Type 0} → List A → Result (List A × List ℕ) ℕ → Result (List A × List ℕ) ℕ
with_front front read = read >>= λ x. Ok (front ++ x.0, x.1)

regroup : {A : Type 0} (front : List A) (x : A) (read : Result (List A × List ℕ) ℕ) → with_front front (read >>= λ xs. Ok (x ∷ xs.0, xs.1)) ≡ with_front (front ++ x ∷ []) read
regroup {A} front x (Ok xs) = ap (λ (ys : List A). Ok (ys, xs.1)) (simp append_assoc)
regroup front x (Err left) = refl

pub goes_on : {A : Type 0} (one : List ℕ → Result (A × List ℕ) ℕ) (front : List A) (count i : ℕ) (bytes : List ℕ) (x : A) (after : List ℕ) (total : Result (List A × List ℕ) ℕ) → i < count → one bytes ≡ Ok (x, after)
    → with_front front (entries_at one (count - i) bytes) ≡ total → with_front (front ++ x ∷ []) (entries_at one (count - (i + 1)) after) ≡ total
unfolding entries_at
goes_on one front count i bytes x after total lt h so_far =
    let k : count - i ≡ suc (count - (i + 1)) = omega arith in
    let step : with_front front (entries_at one (count - i) bytes) ≡ with_front (front ++ x ∷ []) (entries_at one (count - (i + 1)) after) = rw (k, h) (regroup front x (entries_at one (count - (i + 1)) after)) in
    sym step ∙ so_far

pub ends : {A : Type 0} (one : List ℕ → Result (A × List ℕ) ℕ) (stop : Stop ℕ) (front : List A) (count i : ℕ) (bytes : List ℕ) (total : Result (List A × List ℕ) ℕ) → i < count → StopsAs stop (one bytes)
    → with_front front (entries_at one (count - i) bytes) ≡ total → StopsAs stop total
unfolding entries_at
ends one stops.Memory front count i bytes total lt h so_far = tt
ends one (stops.Fault left) front count i bytes total lt h so_far =
    let k : count - i ≡ suc (count - (i + 1)) = omega arith in
    let step : with_front front (entries_at one (count - i) bytes) ≡ Err left = rw (k, h) refl in
    sym so_far ∙ step

pub is_done : {A : Type 0} (one : List ℕ → Result (A × List ℕ) ℕ) (front : List A) (count i : ℕ) (bytes : List ℕ) (total : Result (List A × List ℕ) ℕ) → count ≤ i → with_front front (entries_at one (count - i) bytes) ≡ total → total ≡ Ok (front, bytes)
unfolding entries_at
is_done {A} one front count i bytes total le so_far =
    let k : count - i ≡ 0 = omega arith in
    let step : with_front front (entries_at one (count - i) bytes) ≡ Ok (front, bytes) = rw k (ap (λ (xs : List A). Ok (xs, bytes)) (append-nil front)) in
    sym so_far ∙ step
