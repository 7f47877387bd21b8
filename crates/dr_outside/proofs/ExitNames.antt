-- Command names that are `exit-N`.
use Rattle.std.proofs.Common.{◌≡◌, ◌≢◌, ℕ, zero, suc, ◌^◌, ◌<◌, inl, inr, List, ◌++◌, refl, sym, ◌∙◌, ap, arith, codes, decimal, bytes_eq}
use Rattle.std.proofs.lemmas.Bool.{cases_Bool, cases_eq, true≢false}
use Rattle.std.proofs.lemmas.Fmt.{decimal_injective}
use Rattle.std.proofs.lemmas.List.Prefix.{front_rest}
use Rattle.std.proofs.lemmas.Slice.Eq.{bytes_eq-Decides}
use Rattle.dr_outside.specs.ExitCodes.{exit, code_below}

-- a name is one `exit-N` at most
exit_injective : (m n : ℕ) → m < 2 ^ 64 → n < 2 ^ 64 → exit m ≡ exit n → m ≡ n
exit_injective m n m_fits n_fits e =
    decimal_injective m n m_fits n_fits (sym (front_rest (exit m) (codes "exit-") (decimal m) refl) ∙ front_rest (exit m) (codes "exit-") (decimal n) e)

-- a name that is no `exit-N` below the bound
pub none_below : (bound : ℕ) (name : List ℕ) → ((code : ℕ) → code < bound → name ≢ exit code) → code_below bound name ≡ 0
unfolding code_below
none_below zero name other = refl
none_below (suc bound) name other =
    elim (cases_Bool (bytes_eq name (exit bound))) [
      | inl same ↦ absurd (other bound (omega arith) ((bytes_eq-Decides name (exit bound)).0 same))
      | inr apart ↦ rw apart (none_below bound name (λ code below. other code (omega (arith, below))))
    ]

below_else : (bound code : ℕ) → code < suc bound → code ≢ bound → code < bound
below_else bound code below other = elim (cases_eq code bound) [
  | inl e ↦ absurd (other e)
  | inr apart ↦ omega (arith, below, apart)
]

-- a name that is `exit-N`
pub one_below : (bound : ℕ) (name : List ℕ) (code : ℕ) → bound < 2 ^ 64 → code < bound → name ≡ exit code → code_below bound name ≡ code
unfolding code_below
one_below zero name code fits below is = absurd (omega (arith, below))
one_below (suc bound) name code fits below is =
    elim (cases_Bool (bytes_eq name (exit bound))) [
      | inl same ↦ rw same (sym (exit_injective code bound (omega (arith, fits, below)) (omega (arith, fits)) (sym is ∙ (bytes_eq-Decides name (exit bound)).0 same)))
      | inr apart ↦ rw apart (one_below bound name code (omega (arith, fits)) (below_else bound code below (λ e. true≢false (sym ((bytes_eq-Decides name (exit bound)).1 (is ∙ ap exit e)) ∙ apart))) is)
    ]

-- what follows `exit-`
pub rest_is : (name digits : List ℕ) (code : ℕ) → name ≡ codes "exit-" ++ digits → name ≡ exit code → digits ≡ decimal code
rest_is name digits code starts is = sym (front_rest name (codes "exit-") digits starts) ∙ front_rest name (codes "exit-") (decimal code) is
