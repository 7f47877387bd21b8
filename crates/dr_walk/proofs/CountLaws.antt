-- How many numbers of a list pass a test.
use Rattle.std.specs.Prelude.{◌≡◌, ℕ, zero, suc, ◌+◌, ◌<◌, ◌⊎◌, Bool, true, false, ◌&&◌, List, [], ◌∷◌, Contains, cond, length, filter}
use Rattle.std.specs.List.Sorted.{IsStrictlyIncreasing}
use Rattle.std.proofs.Common.{refl, ap, ◌∙◌, inl, inr, arith}
use Rattle.std.proofs.lemmas.Bool.{cases_eq}
use Rattle.std.proofs.lemmas.List.Elements.{filter_agree}
use Rattle.dr_plan.proofs.FaultLaws.{later, tail_up}

-- equal tests count the same
pub count-same : (p q : ℕ → Bool) → ((x : ℕ) → p x ≡ q x) → (xs : List ℕ) → length (filter p xs) ≡ length (filter q xs)
count-same p q same xs = ap length (filter_agree p q same xs)

-- where the test fails everywhere, none is counted
pub count-none : (p : ℕ → Bool) → ((x : ℕ) → p x ≡ false) → (xs : List ℕ) → length (filter p xs) ≡ 0
count-none p none [] = refl
count-none p none (x ∷ xs) = rw (none x) (count-none p none xs)

-- one number alone passes the second test and not the first
module _ (p q : ℕ → Bool) (m : ℕ) (before : p m ≡ false) (after : q m ≡ true) (same : (x : ℕ) → (x ≡ m → ⊥) → p x ≡ q x) where
  -- a list without it is counted alike
  count-without : (xs : List ℕ) → (Contains xs m → ⊥) → length (filter p xs) ≡ length (filter q xs)
  count-without [] none = refl
  count-without (x ∷ xs) none = rw (same x (λ e. none (0, omega arith, e))) (go (q x) (count-without xs (λ c. none (suc c.0, omega (arith, c.1), c.2))))
    where
      go : (b : Bool) → length (filter p xs) ≡ length (filter q xs) → length (cond b (x ∷ filter p xs) (filter p xs)) ≡ length (cond b (x ∷ filter q xs) (filter q xs))
      go true rest = omega (arith, rest)
      go false rest = rest

  -- and a list that has it once counts one more
  pub count-one : (xs : List ℕ) → IsStrictlyIncreasing xs → Contains xs m → length (filter q xs) ≡ length (filter p xs) + 1
  count-one [] up c = absurd (omega (arith, c.1))
  count-one (x ∷ xs) up c = go (cases_eq x m) (count-one xs (tail_up x xs up)) c
    where
      more : (b : Bool) → length (filter q xs) ≡ length (filter p xs) + 1 → length (cond b (x ∷ filter q xs) (filter q xs)) ≡ length (cond b (x ∷ filter p xs) (filter p xs)) + 1
      more true rest = omega (arith, rest)
      more false rest = rest

      behind : (x ≡ m → ⊥) → Contains (x ∷ xs) m → Contains xs m
      behind ne (zero, l, e) = absurd (ne e)
      behind ne (suc k, l, e) = (k, omega (arith, l), e)

      go : (x ≡ m) ⊎ (x ≡ m → ⊥) → (Contains xs m → length (filter q xs) ≡ length (filter p xs) + 1) → Contains (x ∷ xs) m → length (filter q (x ∷ xs)) ≡ length (filter p (x ∷ xs)) + 1
      go (inl is) rest c =
          let passes : q x ≡ true = ap q is ∙ after in
          let fails : p x ≡ false = ap p is ∙ before in
          let others : length (filter p xs) ≡ length (filter q xs) = count-without xs (λ again. let lt : x < m = later x xs up m again in omega (arith, is, lt)) in
          rw (passes, fails) (omega (arith, others))
      go (inr ne) rest c = rw (same x ne) (more (q x) (rest (behind ne c)))

-- what a test counts is what it counts without those of another test, and those of both; of those the third test says the same
pub count-parts : (among old third : ℕ → Bool) → ((x : ℕ) → among x ≡ true → old x ≡ third x) → (xs : List ℕ) → length (filter (λ x. cond (among x) false (old x)) xs) + length (filter (λ x. among x && third x) xs) ≡ length (filter old xs)
count-parts among old third agree [] = refl
count-parts among old third agree (x ∷ xs) = go (among x) refl (count-parts among old third agree xs)
  where
    kept : List ℕ
    kept = filter (λ y. cond (among y) false (old y)) xs

    both : List ℕ
    both = filter (λ y. among y && third y) xs

    one : (b : Bool) → length kept + length both ≡ length (filter old xs) → length kept + length (cond b (x ∷ both) both) ≡ length (cond b (x ∷ filter old xs) (filter old xs))
    one true rest = omega (arith, rest)
    one false rest = rest

    other : (b : Bool) → length kept + length both ≡ length (filter old xs) → length (cond b (x ∷ kept) kept) + length both ≡ length (cond b (x ∷ filter old xs) (filter old xs))
    other true rest = omega (arith, rest)
    other false rest = rest

    go : (a : Bool) → among x ≡ a → length kept + length both ≡ length (filter old xs) → length (filter (λ y. cond (among y) false (old y)) (x ∷ xs)) + length (filter (λ y. among y && third y) (x ∷ xs)) ≡ length (filter old (x ∷ xs))
    go true e rest = rw (e, ← agree x e) (one (old x) rest)
    go false e rest = rw e (other (old x) rest)
