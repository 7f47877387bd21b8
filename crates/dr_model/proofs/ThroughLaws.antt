-- What visits keep and what they set.
use Rattle.std.specs.Prelude.{◌≡◌, ℕ, ◌==◌, ◌⊎◌, Bool, true, false, List, [], ◌∷◌, Some, find}
use Rattle.std.proofs.Common.{refl, sym, ap, ◌∙◌, inl, inr, subst}
use Rattle.std.proofs.lemmas.Bool.{eqb-true}
use Rattle.dr_meaning.specs.Visits.{Visit, is_visit_done}
use Rattle.dr_meaning.specs.Reach.{Through}
use Rattle.dr_meaning.proofs.Lists.{Each, Some_of}

module _ {X A : Type 0} (Step : Visit → X → X → Type 0) (f : X → A) where
  -- the visit leaves f as it was; makes it a
  abbrev pub Keeps : Visit → Type 0
  Keeps v = (x y : X) → Step v x y → f y ≡ f x

  abbrev pub Sets : A → Visit → Type 0
  Sets a v = (x y : X) → Step v x y → f y ≡ a

  abbrev pub KeepsOrSets : A → Visit → Type 0
  KeepsOrSets a v = (x y : X) → Step v x y → (f y ≡ f x) ⊎ (f y ≡ a)

  pub through_keeps : (vs : List Visit) → Each Keeps vs → (x y : X) → Through Step vs x y → f y ≡ f x
  through_keeps [] h x y e = ap f e
  through_keeps (v ∷ vs) h x y (mid, reach, step) = h.0 mid y step ∙ through_keeps vs h.1 x mid reach

  pub through_sets : (a : A) (vs : List Visit) → Each (KeepsOrSets a) vs → Some_of (Sets a) vs → (x y : X) → Through Step vs x y → f y ≡ a
  through_sets a [] h some x y e = elim some [ ]
  through_sets a (v ∷ vs) h (inl sets) x y (mid, reach, step) = sets mid y step
  through_sets a (v ∷ vs) h (inr some) x y (mid, reach, step) = go (h.0 mid y step) (through_sets a vs h.1 some x mid reach)
    where
      go : (f y ≡ f mid) ⊎ (f y ≡ a) → f mid ≡ a → f y ≡ a
      go (inl e) g = e ∙ g
      go (inr e) g = e

-- a done stage has been visited
pub visited : (k : ℕ) (vs : List Visit) → is_visit_done (find (λ v. v.stage == k) vs) ≡ true → Some_of (λ v. v.stage ≡ k) vs
visited k [] h = absurd cc
visited k (v ∷ vs) h = go (v.stage == k) refl (visited k vs)
  where
    go : (b : Bool) → (v.stage == k) ≡ b → (is_visit_done (find (λ v. v.stage == k) vs) ≡ true → Some_of (λ v. v.stage ≡ k) vs) → Some_of (λ v. v.stage ≡ k) (v ∷ vs)
    go true e rest = inl (eqb-true v.stage k e)
    go false e rest = inr (rest (rw e at h))

module _ {X : Type 0} (Step : Visit → X → X → Type 0) (P : X → Type 0) where
  abbrev pub Holds : Visit → Type 0
  Holds v = (x y : X) → Step v x y → P x → P y

  abbrev pub Makes : Visit → Type 0
  Makes v = (x y : X) → Step v x y → P y

  -- one visit makes P, and all keep it
  pub through_from : (vs : List Visit) → Some_of Makes vs → Each Holds vs → (x y : X) → Through Step vs x y → P y
  through_from [] some h x y e = elim some [ ]
  through_from (v ∷ vs) (inl makes) h x y (mid, reach, step) = makes mid y step
  through_from (v ∷ vs) (inr later) h x y (mid, reach, step) = h.0 mid y step (through_from vs later h.1 x mid reach)

-- what is found is one of them
pub some_of-find : (Q : Visit → Type 0) (p : Visit → Bool) (vs : List Visit) (v : Visit) → find p vs ≡ Some v → Q v → Some_of Q vs
some_of-find Q p [] v e q = absurd cc
some_of-find Q p (u ∷ vs) v e q = go (p u) refl (some_of-find Q p vs v)
  where
    go : (b : Bool) → p u ≡ b → (find p vs ≡ Some v → Q v → Some_of Q vs) → Some_of Q (u ∷ vs)
    go true f rest = let same : Some u ≡ Some v = rw f at e in let is : v ≡ u = cc in inl (subst Q is q)
    go false f rest = inr (rest (rw f at e) q)

-- where one passes, one is found
pub find-some_of : (p : Visit → Bool) (vs : List Visit) → Some_of (λ v. p v ≡ true) vs → (v : Visit) × (find p vs ≡ Some v)
find-some_of p [] some = elim some [ ]
find-some_of p (u ∷ vs) some = go (p u) refl some (find-some_of p vs)
  where
    go : (b : Bool) → p u ≡ b → Some_of (λ v. p v ≡ true) (u ∷ vs) → (Some_of (λ v. p v ≡ true) vs → (v : Visit) × (find p vs ≡ Some v)) → (v : Visit) × (find p (u ∷ vs) ≡ Some v)
    go true f some rest = (u, rw f refl)
    go false f (inl own) rest = absurd (let wrong : true ≡ false = sym own ∙ f in cc)
    go false f (inr later) rest = let (v, e) = rest later in (v, rw f e)
