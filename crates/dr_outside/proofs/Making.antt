-- Making the pairs of a list one after another.
use Rattle.std.proofs.Common.{◌≡◌, ℕ, ◌+◌, ◌<◌, inl, inr, List, length, get_or, take, set, if◌then◌else◌, sym, ◌∙◌, ap, ◌||◌, get_or-set_same, get_or-set_other, true, false, Bool, refl}
use Rattle.std.proofs.lemmas.Bool.{cases_eq, eq-eqb, ne_eqb}
use Rattle.std.specs.List.Sorted.{IsStrictlyIncreasing}
use Rattle.dr_outside.specs.declared.pair.Pair.{Pair}
use Rattle.dr_outside.specs.declared.array.ArrayCall.{ArrayCall}
use Rattle.dr_base.specs.Lists.{has}
use Rattle.dr_outside.specs.Pairs.{made}
use Rattle.dr_outside.specs.PairLists.{pair_at, no_pair}
use Rattle.dr_outside.proofs.Listed.{has_more, not_yet}

-- the pairs after these are made
abbrev pub made_where : ArrayCall → List ℕ → List Pair → ℕ → Pair
made_where call list was i = if has list i then made call (pair_at was i) else pair_at was i

or_true : (b : Bool) → (b || true) ≡ true
or_true true = refl
or_true false = refl

or_false : (b : Bool) → (b || false) ≡ b
or_false true = refl
or_false false = refl

-- one more pair is made
pub made_more : (call : ArrayCall) (list : List ℕ) (was now : List Pair) (n : ℕ) → IsStrictlyIncreasing list → n < length list → get_or list n 0 < length now → ((i : ℕ) → pair_at now i ≡ made_where call (take n list) was i) → (i : ℕ) → pair_at (set now (get_or list n 0) (made call (pair_at now (get_or list n 0)))) i ≡ made_where call (take (n + 1) list) was i
made_more call list was now n rises l fits so_far i =
    let v : ℕ = get_or list n 0 in
    elim (cases_eq i v) [
      | inl e ↦
          let now_v : pair_at now v ≡ pair_at was v = so_far v ∙ ap (λ b. if b then made call (pair_at was v) else pair_at was v) (not_yet list rises n l) in
          let listed : has (take (n + 1) list) v ≡ true = has_more list n v l ∙ ap (λ b. has (take n list) v || b) (eq-eqb v v refl) ∙ or_true _ in
          rw e (get_or-set_same now v _ no_pair fits ∙ ap (made call) now_v ∙ sym (ap (λ b. if b then made call (pair_at was v) else pair_at was v) listed))
      | inr other ↦
          let same : has (take (n + 1) list) i ≡ has (take n list) i = has_more list n i l ∙ ap (λ b. has (take n list) i || b) (ne_eqb v i (λ e. other (sym e))) ∙ or_false _ in
          get_or-set_other now v i _ no_pair other ∙ so_far i ∙ ap (λ b. if b then made call (pair_at was i) else pair_at was i) (sym same)
    ]
