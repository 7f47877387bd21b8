-- The stage of a number, and the least that passes a test.
use Rattle.std.specs.Prelude.{◌≡◌, ℕ, zero, suc, ◌+◌, ◌-◌, ◌<◌, ◌≤◌, List, [], ◌∷◌, length, Option, Some, None, MatchOption, IfSome}
use Rattle.std.specs.Borrow.{Bor}
use Rattle.std.specs.List.{HoldsAt}
use Rattle.std.proofs.Common.{refl, sym, ◌∙◌, get_or, arith}
use Rattle.std.proofs.lemmas.Bool.{eq-eqb, ne_eqb}
use Rattle.dr_meaning.specs.declared.Stage.{Stage}
use Rattle.dr_meaning.specs.Stages.{stage_from, stage_at, no_stage}

stage_from_at : (n i k : ℕ) (stages : List Stage) (d : Stage) → k ≡ n + i → i < length stages → stage_from n stages k ≡ get_or stages i d
stage_from_at n i k [] d e l = absurd (omega arith)
stage_from_at n zero k (stage ∷ stages) d e l = rw (eq-eqb k n (omega arith)) refl
stage_from_at n (suc i) k (stage ∷ stages) d e l = rw (ne_eqb k n (λ same. omega arith)) (stage_from_at (n + 1) i k stages d (omega arith) (omega arith))

stage_from_none : (n k : ℕ) (stages : List Stage) → n + length stages ≤ k → stage_from n stages k ≡ no_stage
stage_from_none n k [] l = refl
stage_from_none n k (stage ∷ stages) l = rw (ne_eqb k n (λ same. omega arith)) (stage_from_none (n + 1) k stages (omega arith))

stage_from_below : (n k : ℕ) (stages : List Stage) → k < n → stage_from n stages k ≡ no_stage
stage_from_below n k [] l = refl
stage_from_below n k (stage ∷ stages) l = rw (ne_eqb k n (λ same. omega arith)) (stage_from_below (n + 1) k stages (omega arith))

-- no stage has the number 0
pub stage_at_none : (stages : List Stage) (k : ℕ) → k ≡ 0 → stage_at stages k ≡ no_stage
stage_at_none stages k e = stage_from_below 1 k stages (omega arith)

-- what a look into the list finds
pub stage_at_found : (stages : List Stage) (k : ℕ) (found : Option (Bor Stage)) → 1 ≤ k → IfSome found (λ s. s.now ≡ get_or stages (k - 1) s.now) → MatchOption found (length stages ≤ k - 1) (λ s. (k - 1 < length stages) × HoldsAt (λ x. s.now ≡ x) stages (k - 1)) → MatchOption found (stage_at stages k ≡ no_stage) (λ s. s.now ≡ stage_at stages k)
stage_at_found stages k None first is past = stage_from_none 1 k stages (omega arith)
stage_at_found stages k (Some s) first is within = is ∙ sym (stage_from_at 1 (k - 1) k stages s.now (omega arith) within.0)
