-- What a binary search finds in a list whose keys ascend.
use Rattle.std.specs.Prelude.{◌≡◌, ◌≢◌, ℕ, zero, suc, ◌<◌, ◌≤◌, ◌==◌, ◌⊎◌, ◌||◌, Bool, true, false, List, [], ◌∷◌, Option, Some, None, Result, Ok, Err, MatchOption, IfSome, length, map, find, is_some}
use Rattle.std.specs.List.{HoldsAt}
use Rattle.std.specs.List.Sorted.{IsStrictlyIncreasing, IsBinarySearchResult, IsSearchInRange}
use Rattle.std.specs.Option.{option_copied}
use Rattle.std.specs.Borrow.{Bor}
use Rattle.std.specs.Ordering.{nat_cmp, ordering_index}
use Rattle.std.proofs.Common.{refl, sym, ap, ◌∙◌, inl, inr, get_or, arith, tests}
use Rattle.std.proofs.lemmas.Bool.{eq-eqb, ne_eqb, cases_lt}
use Rattle.std.proofs.lemmas.List.Kept.{AllPairs-from_increasing}
use Rattle.std.specs.Result.{is_ok}
use Rattle.dr_base.specs.Lists.{has}
use Rattle.dr_walk.proofs.AscendLaws.{rest_ascends}

module _ {X : Type 0} (key : X → ℕ) (x : ℕ) where
  abbrev keys : List X → List ℕ
  keys xs = map key xs

  abbrev found : List X → Option X
  found xs = find (λ y. key y == x) xs

  key_at : (xs : List X) (k : ℕ) (d : X) → get_or (keys xs) k (key d) ≡ key (get_or xs k d)
  key_at [] k d = refl
  key_at (y ∷ ys) zero d = refl
  key_at (y ∷ ys) (suc k) d = key_at ys k d

  length_keys : (xs : List X) → length (keys xs) ≡ length xs
  length_keys [] = refl
  length_keys (y ∷ ys) = ap (λ n. suc n) (length_keys ys)

  -- keys of earlier elements are lower
  below : (xs : List X) → IsStrictlyIncreasing (keys xs) → (i j : ℕ) (d : X) → i < j → j < length xs → key (get_or xs i d) < key (get_or xs j d)
  below xs up i j d less within =
      let pairs : get_or (keys xs) i (key d) < get_or (keys xs) j (key d) = AllPairs-from_increasing (keys xs) up i j (key d) less (let same = length_keys xs in omega (arith, same, within)) in
      rw (key_at xs i d, key_at xs j d) at pairs

  -- the only element with the key is found
  pub find_at : (xs : List X) → IsStrictlyIncreasing (keys xs) → (i : ℕ) (d : X) → i < length xs → key (get_or xs i d) ≡ x → found xs ≡ Some (get_or xs i d)
  find_at [] up i d within same = absurd (omega (arith, within))
  find_at (y ∷ ys) up zero d within same = rw (eq-eqb (key y) x same) refl
  find_at (y ∷ ys) up (suc i) d within same =
      let less : key y < key (get_or ys i d) = below (y ∷ ys) up 0 (suc i) d (omega arith) within in
      rw (ne_eqb (key y) x (λ e. omega (arith, less, same, e))) (find_at ys (rest_ascends (key y) (keys ys) up) i d (omega (arith, within)) same)

  pub find_fails : (xs : List X) → ((k : ℕ) (d : X) → k < length xs → key (get_or xs k d) ≢ x) → found xs ≡ None
  find_fails [] apart = refl
  find_fails (y ∷ ys) apart = rw (ne_eqb (key y) x (apart 0 y (omega arith))) (find_fails ys (λ k d within. apart (suc k) d (omega (arith, within))))

  -- where the search found no element, none has the key
  pub none_found : (xs : List X) (i : ℕ) → IsStrictlyIncreasing (keys xs) → IsBinarySearchResult (λ y. nat_cmp (key y) x) xs (Err i) → (k : ℕ) (d : X) → k < length xs → key (get_or xs k d) ≢ x
  none_found xs i up is k d within e = go (cases_lt k i)
    where
      higher : (a b : ℕ) → a ≤ b → ordering_index (nat_cmp a x) ≤ ordering_index (nat_cmp b x)
      higher a b le = grind (arith, tests)

      rises : (a b : ℕ) (c : X) → a ≤ b → b < length xs → key (get_or xs a c) ≤ key (get_or xs b c)
      rises a b c le lt = at (cases_lt a b)
        where
          at : (a < b) ⊎ (b ≤ a) → key (get_or xs a c) ≤ key (get_or xs b c)
          at (inl less) = let k = below xs up a b c less lt in omega (arith, k)
          at (inr same) = let is : a ≡ b = omega (arith, le, same) in rw is (omega arith)

      go : (k < i) ⊎ (i ≤ k) → ⊥
      go (inl less) =
          let parted = is (λ a b c le lt. higher (key (get_or xs a c)) (key (get_or xs b c)) (rises a b c le lt)) in
          let cmp = parted.0 k d (omega arith) less in grind (arith, tests)
      go (inr more) =
          let parted = is (λ a b c le lt. higher (key (get_or xs a c)) (key (get_or xs b c)) (rises a b c le lt)) in
          let cmp = parted.1 k d more within in grind (arith, tests)

  -- what the search found is the only element with the key
  pub found_told : (xs : List X) → IsStrictlyIncreasing (keys xs) → (i : ℕ) (o : Option (Bor X)) → i < length xs → IsBinarySearchResult (λ y. nat_cmp (key y) x) xs (Ok i) → IfSome o (λ s. s.now ≡ get_or xs i s.now) → MatchOption o (length xs ≤ i) (λ s. (i < length xs) × HoldsAt (λ y. s.now ≡ y) xs i) → option_copied o ≡ found xs
  found_told xs up i None within holds first is = absurd (omega (arith, within, is))
  found_told xs up i (Some s) within holds first is =
      let cmp = holds s.now in
      let same : key (get_or xs i s.now) ≡ x = grind (arith, tests) in
      ap Some first ∙ sym (find_at xs up i s.now within same)

-- whether a search of ascending numbers finds one says whether the list has it
module _ (xs : List ℕ) (x : ℕ) (up : IsStrictlyIncreasing xs) where
  same_list : (ys : List ℕ) → map (λ y. y) ys ≡ ys
  same_list [] = refl
  same_list (y ∷ ys) = ap (λ zs. y ∷ zs) (same_list ys)

  ascends : IsStrictlyIncreasing (map (λ y. y) xs)
  ascends = rw (same_list xs) up

  has_found : (ys : List ℕ) (o : Option ℕ) → find (λ y. y == x) ys ≡ o → has ys x ≡ is_some o
  has_found [] o e = ap (λ p. is_some p) e
  has_found (y ∷ ys) o e = go (y == x) refl (has_found ys o)
    where
      go : (b : Bool) → y == x ≡ b → (find (λ y. y == x) ys ≡ o → has ys x ≡ is_some o) → b || has ys x ≡ is_some o
      go true own rest = let here : Some y ≡ o = rw own at e in ap (λ p. is_some p) here
      go false own rest = rest (rw own at e)

  pub has_told : (r : Result ℕ ℕ) → IsBinarySearchResult (λ y. nat_cmp y x) xs r → IsSearchInRange r (length xs) → is_ok r ≡ has xs x
  has_told (Ok i) is within =
      let cmp = is 0 in
      let same : get_or xs i 0 ≡ x = grind (arith, tests) in
      sym (has_found xs (Some (get_or xs i 0)) (find_at (λ y. y) x xs ascends i 0 within same))
  has_told (Err i) is within = sym (has_found xs None (find_fails (λ y. y) x xs (none_found (λ y. y) x xs i ascends is)))
