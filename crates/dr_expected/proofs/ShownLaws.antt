-- Lists that hold all that is expected: how they grow.
use Rattle.std.specs.Prelude.{◌≡◌, ◌↔◌, ◌⊎◌, ℕ, ◌+◌, ◌<◌, ◌≤◌, List, [], ◌∷◌, ◌++◌, Contains, length, take, reverse, ◌==◌, Bool, true, false, cond, filter, find, Some, if◌then◌else◌}
use Rattle.std.specs.Bool.{MatchBool}
use Rattle.std.proofs.Common.{refl, sym, ap, ◌∙◌, inl, inr, subst, get_or, arith}
use Rattle.std.proofs.lemmas.List.Elements.{Contains-append_left, Contains-push, Contains-push_cases}
use Rattle.std.proofs.lemmas.List.{take_more, take_all}
use Rattle.std.proofs.lemmas.List.Sorted.{list_any-IsPermutation, IsPermutation-reverse}
use Rattle.dr_base.specs.Lists.{has}
use Rattle.dr_meaning.specs.Visits.{Visit, is_excused}
use Rattle.dr_meaning.specs.Runs.{Run, holds}
use Rattle.dr_meaning.specs.Expected.{After}
use Rattle.dr_meaning.specs.Reach.{Through}
use Rattle.dr_replay.specs.declared.visiting.Visit.{Visit as VisitValue}
use Rattle.dr_replay.specs.Values.{run_of, runs_told, visit_of, visits_told}
use Rattle.dr_replay.specs.declared.runs.Run.{Run as RunValue}
use Rattle.dr_replay.proofs.Told.{told_more}
use Rattle.dr_expected.specs.Expecting.{HasItemFor, Lists, Gains, Adds, Leads}

module _ {S X : Type 0} (D : S → X → Type 0) where
  pub shows-nil : (y : X) → HasItemFor D [] y → ⊥
  shows-nil y (s, (k, l, e), d) = omega arith

  -- one more item
  pub shows-push : (list : List S) (s : S) (y : X) → HasItemFor D (list ++ s ∷ []) y ↔ (HasItemFor D list y ⊎ D s y)
  shows-push list s y = (there, back)
    where
      there : HasItemFor D (list ++ s ∷ []) y → HasItemFor D list y ⊎ D s y
      there (t, c, d) = go (Contains-push_cases list s t c)
        where
          go : Contains list t ⊎ (s ≡ t) → HasItemFor D list y ⊎ D s y
          go (inl c) = inl (t, c, d)
          go (inr e) = inr (subst (λ z. D z y) (sym e) d)

      back : HasItemFor D list y ⊎ D s y → HasItemFor D (list ++ s ∷ []) y
      back (inl (t, c, d)) = (t, Contains-append_left list (s ∷ []) t c, d)
      back (inr d) = (s, Contains-push list s, d)

  -- an item that the list has
  pub shows-kept : (list : List S) (s : S) (y : X) → Contains list s → HasItemFor D list y ↔ (HasItemFor D list y ⊎ D s y)
  shows-kept list s y c = (λ h. inl h, back)
    where
      back : HasItemFor D list y ⊎ D s y → HasItemFor D list y
      back (inl h) = h
      back (inr d) = (s, c, d)

  pub gains-push : (list after : List S) (s : S) → after ≡ list ++ s ∷ [] → Gains D s list after
  gains-push list after s e = rw e (record { exactly = shows-push list s })

  pub gains-kept : (list : List S) (s : S) → Contains list s → Gains D s list list
  gains-kept list s c = record { exactly = λ y. shows-kept list s y c }

module _ {S X : Type 0} (D : S → X → Type 0) (P : X → Type 0) where
  pub lists-none : ((y : X) → P y → ⊥) → Lists D P []
  lists-none not = record { exactly = λ y. (λ h. absurd (shows-nil D y h), λ p. absurd (not y p)) }

  -- a list of one item
  pub lists-one : (s : S) (list : List S) → Gains D s [] list → ((y : X) → D s y ↔ P y) → Lists D P list
  lists-one s list gains same = record { exactly = λ y. (λ h. there y ((gains.exactly y).0 h), λ p. (gains.exactly y).1 (inr ((same y).1 p))) }
    where
      there : (y : X) → HasItemFor D [] y ⊎ D s y → P y
      there y (inl h) = absurd (shows-nil D y h)
      there y (inr d) = (same y).0 d

module _ {S X : Type 0} (D : S → X → Type 0) (R : X → X → Type 0) where
  -- the one item that comes from another
  pub adds-one : (s t : S) (before after : List S) → Gains D t before after → ((y : X) → D t y ↔ ((x : X) × D s x × R x y)) → Adds D R s before after
  adds-one s t before after gains same = record {
    exactly = λ y. (
      λ h. there y ((gains.exactly y).0 h),
      λ h. (gains.exactly y).1 (back y h),
    );
  }
    where
      there : (y : X) → HasItemFor D before y ⊎ D t y → HasItemFor D before y ⊎ ((x : X) × D s x × R x y)
      there y (inl h) = inl h
      there y (inr d) = inr ((same y).0 d)

      back : (y : X) → HasItemFor D before y ⊎ ((x : X) × D s x × R x y) → HasItemFor D before y ⊎ D t y
      back y (inl h) = inl h
      back y (inr r) = inr ((same y).1 r)

  -- the two
  pub adds-two : (s t u : S) (before mid after : List S) → Gains D t before mid → Gains D u mid after → ((y : X) → (D t y ⊎ D u y) ↔ ((x : X) × D s x × R x y)) → Adds D R s before after
  adds-two s t u before mid after first second same = record {
    exactly = λ y. (
      λ h. there y ((second.exactly y).0 h),
      λ h. (second.exactly y).1 (back y h),
    );
  }
    where
      split : (y : X) → HasItemFor D before y ⊎ D t y → HasItemFor D before y ⊎ ((x : X) × D s x × R x y)
      split y (inl h) = inl h
      split y (inr d) = inr ((same y).0 (inl d))

      there : (y : X) → HasItemFor D mid y ⊎ D u y → HasItemFor D before y ⊎ ((x : X) × D s x × R x y)
      there y (inl h) = split y ((first.exactly y).0 h)
      there y (inr d) = inr ((same y).0 (inr d))

      which : (y : X) → D t y ⊎ D u y → HasItemFor D mid y ⊎ D u y
      which y (inl d) = inl ((first.exactly y).1 (inr d))
      which y (inr d) = inr d

      back : (y : X) → HasItemFor D before y ⊎ ((x : X) × D s x × R x y) → HasItemFor D mid y ⊎ D u y
      back y (inl h) = inl ((first.exactly y).1 (inl h))
      back y (inr r) = which y ((same y).1 r)

  pub leads-none : Leads D R [] []
  leads-none = record { exactly = λ y. (λ h. absurd (shows-nil D y h), λ (x, h, r). absurd (shows-nil D x h)) }

  pub leads-push : (list next more : List S) (s : S) → Leads D R list next → Adds D R s next more → Leads D R (list ++ s ∷ []) more
  leads-push list next more s led adds = record { exactly = λ y. (there y, back y) }
    where
      there : (y : X) → HasItemFor D more y → (x : X) × HasItemFor D (list ++ s ∷ []) x × R x y
      there y h = go ((adds.exactly y).0 h)
        where
          go : HasItemFor D next y ⊎ ((x : X) × D s x × R x y) → (x : X) × HasItemFor D (list ++ s ∷ []) x × R x y
          go (inl h) = let (x, sh, r) = (led.exactly y).0 h in (x, (shows-push D list s x).1 (inl sh), r)
          go (inr (x, d, r)) = (x, (shows-push D list s x).1 (inr d), r)

      back : (y : X) → (x : X) × HasItemFor D (list ++ s ∷ []) x × R x y → HasItemFor D more y
      back y (x, sh, r) = go ((shows-push D list s x).0 sh)
        where
          go : HasItemFor D list x ⊎ D s x → HasItemFor D more y
          go (inl sh) = (adds.exactly y).1 (inl ((led.exactly y).1 (x, sh, r)))
          go (inr d) = (adds.exactly y).1 (inr (x, d, r))

  -- one more item of a list that is gone over
  pub leads-more : (list next more : List S) (i : ℕ) (d : S) → i < length list → Leads D R (take i list) next → Adds D R (get_or list i d) next more → Leads D R (take (i + 1) list) more
  leads-more list next more i d below led adds =
      rw (take_more list i d below) (leads-push (take i list) next more (get_or list i d) led adds)

  -- the same by another name
  pub leads-same : (Q : X → X → Type 0) (list next : List S) → ((x y : X) → R x y ↔ Q x y) → Leads D R list next → Leads D Q list next
  leads-same Q list next same led = record {
    exactly = λ y. (
      λ h. let (x, sh, r) = (led.exactly y).0 h in (x, sh, (same x y).0 r),
      λ (x, sh, q). (led.exactly y).1 (x, sh, (same x y).1 q),
    );
  }

  -- what the list showed, and then a step
  pub lists-leads : (P : X → Type 0) (list next : List S) → Lists D P list → Leads D R list next → Lists D (λ y. (x : X) × P x × R x y) next
  lists-leads P list next listed led = record {
    exactly = λ y. (
      λ h. let (x, sh, r) = (led.exactly y).0 h in (x, (listed.exactly x).0 sh, r),
      λ (x, p, r). (led.exactly y).1 (x, (listed.exactly x).1 p, r),
    );
  }

module _ {S X : Type 0} (D : S → X → Type 0) (Step : Visit → X → X → Type 0) where
  pub through-none : (list : List S) → Leads D (Through Step []) list list
  through-none list = record {
    exactly = λ y. (λ h. (y, h, refl), λ (x, h, e). subst (λ z. HasItemFor D list z) (sym e) h);
  }

  -- one more visit
  pub through-more : (v : Visit) (vs : List Visit) (list mid next : List S) → Leads D (Through Step vs) list mid → Leads D (Step v) mid next → Leads D (Through Step (v ∷ vs)) list next
  through-more v vs list mid next led step = record { exactly = λ y. (there y, back y) }
    where
      there : (y : X) → HasItemFor D next y → (x : X) × HasItemFor D list x × Through Step (v ∷ vs) x y
      there y h =
          let (m, sh, r) = (step.exactly y).0 h in
          let (x, from, through) = (led.exactly m).0 sh in
          (x, from, (m, through, r))

      back : (y : X) → (x : X) × HasItemFor D list x × Through Step (v ∷ vs) x y → HasItemFor D next y
      back y (x, from, (m, through, r)) = (step.exactly y).1 (m, (led.exactly m).1 (x, from, through), r)

-- a list the other way round has the same numbers
pub has-reverse : (xs : List ℕ) (n : ℕ) → has (reverse xs) n ≡ has xs n
has-reverse xs n = sym (list_any-IsPermutation (λ x. x == n) xs (reverse xs) (IsPermutation-reverse xs))

module _ {S X : Type 0} (D : S → X → Type 0) (Step : Visit → X → X → Type 0) (visits : List VisitValue) (i : ℕ) where
  -- a step of a loop over the visits, oldest first
  pub through-next : (v : VisitValue) (list mid next : List S) → i < length visits → v ≡ get_or visits i v → Leads D (Through Step (visits_told (take i visits))) list mid → Leads D (Step (visit_of v)) mid next → Leads D (Through Step (visits_told (take (i + 1) visits))) list next
  through-next v list mid next below is led step =
      let told : visits_told (take (i + 1) visits) ≡ visit_of v ∷ visits_told (take i visits) = told_more visit_of visits i v below ∙ ap (λ w. visit_of w ∷ visits_told (take i visits)) (sym is) in
      rw told (through-more D Step (visit_of v) (visits_told (take i visits)) list mid next led step)

  -- its end
  pub through-all : (log : List Visit) (list next : List S) → length visits ≤ i → visits_told visits ≡ log → Leads D (Through Step (visits_told (take i visits))) list next → Leads D (Through Step log) list next
  through-all log list next whole told led = rw (take_all i visits whole, told) at led

module _ {S X : Type 0} (D : S → X → Type 0) (Opens : X → Type 0) (Leaves : Run → X → X → Type 0) (group : ℕ) (runs : List RunValue) (i : ℕ) where
  -- what the first so many runs allow
  abbrev pub Allows : ℕ → X → Type 0
  Allows n y = After Opens Leaves (filter (holds group) (runs_told (take n runs))) y

  -- a step of a loop over the runs, oldest first
  pub after-next : (r : RunValue) (list next : List S) → i < length runs → r ≡ get_or runs i r → Lists D (Allows i) list → MatchBool (holds group (run_of r)) (Leads D (Leaves (run_of r)) list next) (next ≡ list) → Lists D (Allows (i + 1)) next
  after-next r list next below is listed step =
      let told : runs_told (take (i + 1) runs) ≡ run_of r ∷ runs_told (take i runs) = told_more run_of runs i r below ∙ ap (λ q. run_of q ∷ runs_told (take i runs)) (sym is) in
      subst (λ rs. Lists D (λ y. After Opens Leaves (filter (holds group) rs) y) next) (sym told) (go (holds group (run_of r)) step)
    where
      go : (b : Bool) → MatchBool b (Leads D (Leaves (run_of r)) list next) (next ≡ list) → Lists D (λ y. After Opens Leaves (cond b (run_of r ∷ filter (holds group) (runs_told (take i runs))) (filter (holds group) (runs_told (take i runs)))) y) next
      go true led = lists-leads D (Leaves (run_of r)) (Allows i) list next listed led
      go false same = rw same listed

  -- its end
  pub after-all : (list : List S) → length runs ≤ i → Lists D (Allows i) list → Lists D (λ y. After Opens Leaves (filter (holds group) (runs_told runs)) y) list
  after-all list whole listed =
      subst (λ rs. Lists D (λ y. After Opens Leaves (filter (holds group) (runs_told rs)) y) list) (take_all i runs whole) listed

-- whether the last visit that passes a test excuses a machine, one visit later
pub excused-next : (test : Visit → Bool) (machine : ℕ) (visits : List VisitValue) (i : ℕ) (v : VisitValue) (before after : Bool) → i < length visits → v ≡ get_or visits i v → before ≡ is_excused machine (find test (visits_told (take i visits))) → after ≡ (if test (visit_of v) then has (visit_of v).excused machine else before) → after ≡ is_excused machine (find test (visits_told (take (i + 1) visits)))
excused-next test machine visits i v before after below is known step =
    let told : visits_told (take (i + 1) visits) ≡ visit_of v ∷ visits_told (take i visits) = told_more visit_of visits i v below ∙ ap (λ w. visit_of w ∷ visits_told (take i visits)) (sym is) in
    rw told (go (test (visit_of v)) step)
  where
    go : (b : Bool) → after ≡ (if b then has (visit_of v).excused machine else before) → after ≡ is_excused machine (if b then Some (visit_of v) else find test (visits_told (take i visits)))
    go true e = e
    go false e = e ∙ known

-- its end
pub excused-all : (test : Visit → Bool) (machine : ℕ) (visits : List VisitValue) (i : ℕ) (log : List Visit) (excused : Bool) → length visits ≤ i → visits_told visits ≡ log → excused ≡ is_excused machine (find test (visits_told (take i visits))) → excused ≡ is_excused machine (find test log)
excused-all test machine visits i log excused whole told known = rw (take_all i visits whole, told) at known
