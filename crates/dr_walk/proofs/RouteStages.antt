-- The stage of a number, and which stage starts a machine.
use Rattle.std.specs.Prelude.{◌≡◌, ℕ, zero, suc, ◌+◌, ◌-◌, ◌<◌, ◌≤◌, ◌==◌, ◌⊎◌, Bool, true, false, List, [], ◌∷◌, length, take, Option, Some, None, MatchOption, IfSome, cond}
use Rattle.std.specs.Borrow.{Bor}
use Rattle.std.specs.List.{HoldsAt}
use Rattle.std.proofs.Common.{refl, sym, ap, ◌∙◌, inl, inr, get_or, arith}
use Rattle.std.proofs.lemmas.Bool.{eq-eqb, ne_eqb, cases_eq}
use denote.Enum.Bare.{sameb}
use native.Mathlib.Numerals.{unary_clauses}
use Rattle.dr_meaning.specs.declared.stage.StageKind.{StageKind}
use Rattle.dr_meaning.specs.declared.stage.Stage.{Stage}
use Rattle.dr_meaning.specs.Stages.{stage_from, stage_at, no_stage}
use Rattle.dr_meaning.specs.contracts.stage.StageKind.{the_type}
use Rattle.dr_base.specs.Lists.{has}
use Rattle.dr_meaning.specs.Meaning.{same_kind, is_wave_of}
use Rattle.dr_walk.specs.Routes.{IsStartOf}

stage_from_at : (n i k : ℕ) (stages : List Stage) (d : Stage) → k ≡ n + i → i < length stages → stage_from n stages k ≡ get_or stages i d
stage_from_at n i k [] d e l = absurd (omega arith)
stage_from_at n zero k (stage ∷ stages) d e l = rw (eq-eqb k n (omega arith)) refl
stage_from_at n (suc i) k (stage ∷ stages) d e l = rw (ne_eqb k n (λ same. omega arith)) (stage_from_at (n + 1) i k stages d (omega arith) (omega arith))

-- before the first stage and beyond the last there is none
pub beyond : (n : ℕ) (stages : List Stage) (k : ℕ) → (k < n) ⊎ (n + length stages ≤ k) → stage_from n stages k ≡ no_stage
beyond n [] k out = refl
beyond n (s ∷ stages) k (inl below) = rw (ne_eqb k n (λ e. omega arith)) (beyond (n + 1) stages k (inl (omega arith)))
beyond n (s ∷ stages) k (inr above) = rw (ne_eqb k n (λ e. omega arith)) (beyond (n + 1) stages k (inr (omega arith)))

-- no stage has the number 0
pub stage_at_none : (stages : List Stage) (k : ℕ) → k ≡ 0 → stage_at stages k ≡ no_stage
stage_at_none stages k e = beyond 1 stages k (inl (omega arith))

-- what a look into the list finds
pub stage_at_found : (stages : List Stage) (k : ℕ) (found : Option (Bor Stage)) → 1 ≤ k → IfSome found (λ s. s.now ≡ get_or stages (k - 1) s.now) → MatchOption found (length stages ≤ k - 1) (λ s. (k - 1 < length stages) × HoldsAt (λ x. s.now ≡ x) stages (k - 1)) → MatchOption found (stage_at stages k ≡ no_stage) (λ s. s.now ≡ stage_at stages k)
stage_at_found stages k None first is past = beyond 1 stages k (inr (omega (arith, first, past)))
stage_at_found stages k (Some s) first is within = is ∙ sym (stage_from_at 1 (k - 1) k stages s.now (omega arith) within.0)

-- Which stage starts a machine ---------------------------------------------------------------------------

-- one more stage
taken : (n i : ℕ) (stages : List Stage) (d : Stage) (k : ℕ) → i < length stages → stage_from n (take (suc i) stages) k ≡ cond (k == n + i) (get_or stages i d) (stage_from n (take i stages) k)
taken n i [] d k within = absurd (omega (arith, within))
taken n zero (s ∷ stages) d k within = let same : n + 0 ≡ n = omega arith in rw same refl
taken n (suc i) (s ∷ stages) d k within = go (cases_eq k n) (taken (n + 1) i stages d k (omega (arith, within)))
  where
    go : (k ≡ n) ⊎ (k ≡ n → ⊥) → stage_from (n + 1) (take (suc i) stages) k ≡ cond (k == n + 1 + i) (get_or stages i d) (stage_from (n + 1) (take i stages) k) → cond (k == n) s (stage_from (n + 1) (take (suc i) stages) k) ≡ cond (k == n + suc i) (get_or stages i d) (cond (k == n) s (stage_from (n + 1) (take i stages) k))
    go (inl same) rest = rw (eq-eqb k n same, ne_eqb k (n + suc i) (λ e. omega (arith, same, e))) refl
    go (inr ne) rest = let place : n + 1 + i ≡ n + suc i = omega arith in rw (ne_eqb k n ne) (rw place at rest)

length_taken : (i : ℕ) (stages : List Stage) → length (take i stages) ≤ i
length_taken zero stages = omega arith
length_taken (suc i) [] = omega arith
length_taken (suc i) (s ∷ stages) = let le = length_taken i stages in omega (arith, le)

module _ (stages : List Stage) (i : ℕ) (d : Stage) (within : i < length stages) (machine : ℕ) where
  abbrev starts : Stage → Bool
  starts stage = is_wave_of StageKind.Start machine stage

  here : starts (stage_at (take (i + 1) stages) (i + 1)) ≡ starts (get_or stages i d)
  here = let one : suc i == 1 + i ≡ true = eq-eqb (suc i) (1 + i) (omega arith) in let told : stage_at (take (i + 1) stages) (i + 1) ≡ get_or stages i d = (let more = taken 1 i stages d (suc i) within in let is = rw one at more in simp unary_clauses is) in ap starts told

  there : (k : ℕ) → (k ≡ i + 1 → ⊥) → starts (stage_at (take (i + 1) stages) k) ≡ starts (stage_at (take i stages) k)
  there k ne = let other : k == 1 + i ≡ false = ne_eqb k (1 + i) (λ e. ne (omega (arith, e))) in let told : stage_at (take (i + 1) stages) k ≡ stage_at (take i stages) k = (let more = taken 1 i stages d k within in let is = rw other at more in simp unary_clauses is) in ap starts told

  -- a stage that starts the machine is the last so far that does
  pub starts_it : starts (get_or stages i d) ≡ true → IsStartOf (take (i + 1) stages) machine (Some (i + 1))
  starts_it e = (λ n at. let same : i + 1 ≡ n = cc in rw (← same) (here ∙ e), λ none. absurd cc)

  -- another leaves it as it was
  pub starts_other : (found : Option ℕ) → starts (get_or stages i d) ≡ false → IsStartOf (take i stages) machine found → IsStartOf (take (i + 1) stages) machine found
  starts_other found e is = (λ n at. let before : n ≡ i + 1 → ⊥ = λ same. past n (is.0 n at) same in there n before ∙ is.0 n at, λ none n. at_n n (is.1 none n) (cases_eq n (i + 1)))
    where
      past : (n : ℕ) → starts (stage_at (take i stages) n) ≡ true → n ≡ i + 1 → ⊥
      past n passes same =
          let out : stage_at (take i stages) n ≡ no_stage = beyond 1 (take i stages) n (inr (let few : length (take i stages) ≤ i = length_taken i stages in omega (arith, same, few))) in
          let wrong : true ≡ false = sym passes ∙ ap starts out in cc

      at_n : (n : ℕ) → starts (stage_at (take i stages) n) ≡ false → (n ≡ i + 1) ⊎ (n ≡ i + 1 → ⊥) → starts (stage_at (take (i + 1) stages) n) ≡ false
      at_n n fails (inl same) = rw same (here ∙ e)
      at_n n fails (inr ne) = there n ne ∙ fails

-- a test in the code says what the meaning's does
kind_tested : (kind : StageKind) → sameb the_type kind StageKind.Start ≡ same_kind kind StageKind.Start
kind_tested StageKind.Sync = refl
kind_tested StageKind.FinalSync = refl
kind_tested StageKind.TestStart = refl
kind_tested StageKind.TestStop = refl
kind_tested StageKind.Prepare = refl
kind_tested StageKind.Split = refl
kind_tested StageKind.Reverse = refl
kind_tested StageKind.Start = refl
kind_tested StageKind.Stop = refl
kind_tested StageKind.Clear = refl
kind_tested StageKind.Command = refl
kind_tested StageKind.Prompt = refl

module _ (stages : List Stage) (i : ℕ) (stage : Stage) (within : i < length stages) (is_it : stage ≡ get_or stages i stage) (machine : ℕ) (before : Option ℕ) (told : IsStartOf (take i stages) machine before) where
  -- a stage of another kind leaves it as it was
  pub other_kind : sameb the_type stage.kind StageKind.Start ≡ false → IsStartOf (take (i + 1) stages) machine before
  other_kind e =
      let other : is_wave_of StageKind.Start machine stage ≡ false = rw (sym (kind_tested stage.kind), e) refl in
      starts_other stages i stage within machine before (rw is_it at other) told

  -- a Start stage starts its machines
  pub of_kind : sameb the_type stage.kind StageKind.Start ≡ true → (after : Option ℕ) → after ≡ cond (has stage.machines machine) (Some (i + 1)) before → IsStartOf (take (i + 1) stages) machine after
  of_kind e after put = go (has stage.machines machine) refl
    where
      wave : (b : Bool) → has stage.machines machine ≡ b → is_wave_of StageKind.Start machine (get_or stages i stage) ≡ b
      wave b its = let own : is_wave_of StageKind.Start machine stage ≡ b = (rw (sym (kind_tested stage.kind), e) its) in rw is_it at own

      go : (b : Bool) → has stage.machines machine ≡ b → IsStartOf (take (i + 1) stages) machine after
      go true its = let here : after ≡ Some (i + 1) = rw its at put in rw here (starts_it stages i stage within machine (wave true its))
      go false its = let same : after ≡ before = rw its at put in rw same (starts_other stages i stage within machine before (wave false its) told)
