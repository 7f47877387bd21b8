-- The least stage that passes a test.
use Rattle.std.specs.Prelude.{◌≡◌, ℕ, ◌+◌, ◌<◌, ◌≤◌, ◌⊎◌, Bool, true, false, List, [], ◌∷◌, Option, Some, None, length}
use Rattle.std.proofs.Common.{refl, sym, ap, ◌∙◌, inl, inr, arith, subst}
use Rattle.std.proofs.lemmas.Bool.{eq-eqb, ne_eqb, cases_eq, cases_lt}
use Rattle.dr_meaning.specs.declared.stage.Stage.{Stage}
use Rattle.dr_meaning.specs.Stages.{stage_from}
use Rattle.dr_meaning.specs.Next.{least_stage}

module _ (test : ℕ → Stage → Bool) where
  abbrev Passes : ℕ → List Stage → ℕ → Type 0
  Passes n stages i = test i (stage_from n stages i) ≡ true

  abbrev Fails : ℕ → List Stage → ℕ → Type 0
  Fails n stages i = test i (stage_from n stages i) ≡ false

  not_both : (n : ℕ) (stages : List Stage) (i : ℕ) → Passes n stages i → Fails n stages i → ⊥
  not_both n stages i passes fails = let wrong : true ≡ false = sym passes ∙ fails in cc

  -- the least is one of them, and passes
  found : (n : ℕ) (stages : List Stage) (j : ℕ) → least_stage test n stages ≡ Some j → (n ≤ j) × (j < n + length stages) × Passes n stages j
  found n [] j e = absurd cc
  found n (s ∷ stages) j e = go (test n s) refl (found (n + 1) stages j)
    where
      go : (b : Bool) → test n s ≡ b → (least_stage test (n + 1) stages ≡ Some j → (n + 1 ≤ j) × (j < n + 1 + length stages) × Passes (n + 1) stages j) → (n ≤ j) × (j < n + length (s ∷ stages)) × Passes n (s ∷ stages) j
      go true own rest =
          let same : Some n ≡ Some j = rw own at e in
          let is : n ≡ j = cc in
          (omega (arith, is), omega (arith, is), rw (eq-eqb j n (sym is)) (subst (λ k. test k s ≡ true) is own))
      go false own rest =
          let (above, below, passes) = rest (rw own at e) in
          (omega arith, omega (arith, below), rw (ne_eqb j n (λ same. omega arith)) passes)

  -- those before the least fail: all, where there is none
  before_fails : (n : ℕ) (stages : List Stage) (i : ℕ) → n ≤ i → i < n + length stages → ((j : ℕ) → least_stage test n stages ≡ Some j → i < j) → Fails n stages i
  before_fails n [] i above within before = absurd (omega (arith, within))
  before_fails n (s ∷ stages) i above within before = go (test n s) refl (cases_eq i n) (before_fails (n + 1) stages i)
    where
      go : (b : Bool) → test n s ≡ b → (i ≡ n) ⊎ (i ≡ n → ⊥) → (n + 1 ≤ i → i < n + 1 + length stages → ((j : ℕ) → least_stage test (n + 1) stages ≡ Some j → i < j) → Fails (n + 1) stages i) → Fails n (s ∷ stages) i
      go true own here later = absurd (omega (arith, before n (rw own refl)))
      go false own (inl same) later = rw (eq-eqb i n same) (subst (λ k. test k s ≡ false) (sym same) own)
      go false own (inr other) later = rw (ne_eqb i n other) (later (omega arith) (omega (arith, within)) (λ j e. before j (rw own e)))

  module _ (n : ℕ) (stages : List Stage) where
    pub least_passes : (j : ℕ) → least_stage test n stages ≡ Some j → (n ≤ j) × (test j (stage_from n stages j) ≡ true)
    least_passes j e = let (above, below, passes) = found n stages j e in (above, passes)

    pub least_within : (j : ℕ) → least_stage test n stages ≡ Some j → (n ≤ j) × (j < n + length stages)
    least_within j e = let (above, below, passes) = found n stages j e in (above, below)

    pub least_fails : (j : ℕ) → least_stage test n stages ≡ Some j → (i : ℕ) → n ≤ i → i < j → test i (stage_from n stages i) ≡ false
    least_fails j e i above below =
        let (least, within, passes) = found n stages j e in
        before_fails n stages i above (omega arith) (λ k f. let same : Some k ≡ Some j = sym f ∙ e in let is : k ≡ j = cc in omega (arith, is))

    pub none_passes : least_stage test n stages ≡ None → (i : ℕ) → n ≤ i → i < n + length stages → test i (stage_from n stages i) ≡ false
    none_passes none i above within = before_fails n stages i above within (λ j e. let wrong : Some j ≡ None = sym e ∙ none in absurd cc)

    -- where all fail there is none
    pub all_fail : ((i : ℕ) → n ≤ i → i < n + length stages → test i (stage_from n stages i) ≡ false) → least_stage test n stages ≡ None
    all_fail fails = go (least_stage test n stages) refl
      where
        go : (o : Option ℕ) → least_stage test n stages ≡ o → least_stage test n stages ≡ None
        go None e = e
        go (Some j) e = let (above, within, passes) = found n stages j e in absurd (not_both n stages j passes (fails j above within))

    -- one that passes, where all before it fail, is the least
    pub first_passes : (j : ℕ) → n ≤ j → j < n + length stages → test j (stage_from n stages j) ≡ true → ((i : ℕ) → n ≤ i → i < j → test i (stage_from n stages i) ≡ false) → least_stage test n stages ≡ Some j
    first_passes j above within passes fails = go (least_stage test n stages) refl
      where
        at_j : (k : ℕ) → least_stage test n stages ≡ Some k → (k < j) ⊎ (j ≤ k) → (k ≡ j) ⊎ (k ≡ j → ⊥) → k ≡ j
        at_j k e either (inl same) = same
        at_j k e (inl lower) (inr other) = let (least, inside, its) = found n stages k e in absurd (not_both n stages k its (fails k least lower))
        at_j k e (inr past) (inr other) = absurd (not_both n stages j passes (least_fails k e j above (omega arith)))

        go : (o : Option ℕ) → least_stage test n stages ≡ o → least_stage test n stages ≡ Some j
        go None e = absurd (not_both n stages j passes (none_passes e j above within))
        go (Some k) e = e ∙ ap (λ m. Some m) (at_j k e (cases_lt k j) (cases_eq k j))
