-- What a Done, a Skip or an Aside changes of the visits of a log: only the last visit, which is that of the begun stage.
use Rattle.std.specs.Prelude.{◌≡◌, ℕ, ◌==◌, Bool, true, false, ◌||◌, List, [], ◌∷◌, Option, Some, None, cond, find}
use Rattle.std.proofs.Common.{refl}
use Rattle.std.proofs.lemmas.Bool.{eq-eqb}
use Rattle.dr_meaning.specs.Visits.{Visit, mark_done, excuse, is_visit_done, is_excused, open_stage}

-- the last visit of a stage, among these
abbrev pub last_of : ℕ → List Visit → Option Visit
last_of stage vs = find (λ v. v.stage == stage) vs

-- where the stage is begun, the newest visit is its own
module _ (A : List Visit → Type 0) (k : ℕ) (holds : (v : Visit) (vs : List Visit) → v.stage ≡ k → v.done ≡ false → A (v ∷ vs)) where
  pub at_begun : (vs : List Visit) → open_stage vs ≡ Some k → A vs
  at_begun [] e = absurd cc
  at_begun (v ∷ vs) e = go v.done refl e
    where
      go : (b : Bool) → v.done ≡ b → cond b None (Some v.stage) ≡ Some k → A (v ∷ vs)
      go true d e = absurd cc
      go false d e = let same : v.stage ≡ k = cc in holds v vs same d

pub done_here : (k : ℕ) (vs : List Visit) → open_stage vs ≡ Some k → is_visit_done (last_of k (mark_done vs)) ≡ true
done_here k = at_begun (λ vs. is_visit_done (last_of k (mark_done vs)) ≡ true) k (λ v vs same undone. let own : v.stage == k ≡ true = eq-eqb v.stage k same in rw own refl)

pub done_other : (k j : ℕ) → k == j ≡ false → (vs : List Visit) → open_stage vs ≡ Some k → last_of j (mark_done vs) ≡ last_of j vs
done_other k j apart = at_begun (λ vs. last_of j (mark_done vs) ≡ last_of j vs) k (λ v vs same undone. let other : v.stage == j ≡ false = rw same apart in rw other refl)

pub done_ends : (k : ℕ) (vs : List Visit) → open_stage vs ≡ Some k → open_stage (mark_done vs) ≡ None
done_ends k = at_begun (λ vs. open_stage (mark_done vs) ≡ None) k (λ v vs same undone. refl)

pub done_excuses : (j m : ℕ) (vs : List Visit) → is_excused m (last_of j (mark_done vs)) ≡ is_excused m (last_of j vs)
done_excuses j m [] = refl
done_excuses j m (v ∷ vs) = go (v.stage == j)
  where
    go : (b : Bool) → is_excused m (cond b (Some (record v { done = true })) (last_of j vs)) ≡ is_excused m (cond b (Some v) (last_of j vs))
    go true = refl
    go false = refl

pub excuse_keeps_done : (j m : ℕ) (vs : List Visit) → is_visit_done (last_of j (excuse m vs)) ≡ is_visit_done (last_of j vs)
excuse_keeps_done j m [] = refl
excuse_keeps_done j m (v ∷ vs) = go (v.stage == j)
  where
    go : (b : Bool) → is_visit_done (cond b (Some (record v { excused = m ∷ v.excused })) (last_of j vs)) ≡ is_visit_done (cond b (Some v) (last_of j vs))
    go true = refl
    go false = refl

pub excuse_keeps_begun : (m : ℕ) (vs : List Visit) → open_stage (excuse m vs) ≡ open_stage vs
excuse_keeps_begun m [] = refl
excuse_keeps_begun m (v ∷ vs) = refl

pub excuse_other : (k j m : ℕ) → k == j ≡ false → (vs : List Visit) → open_stage vs ≡ Some k → last_of j (excuse m vs) ≡ last_of j vs
excuse_other k j m apart = at_begun (λ vs. last_of j (excuse m vs) ≡ last_of j vs) k (λ v vs same undone. let other : v.stage == j ≡ false = rw same apart in rw other refl)

pub excuse_here : (k m x : ℕ) (vs : List Visit) → open_stage vs ≡ Some k → is_excused x (last_of k (excuse m vs)) ≡ (m == x) || is_excused x (last_of k vs)
excuse_here k m x = at_begun (λ vs. is_excused x (last_of k (excuse m vs)) ≡ (m == x) || is_excused x (last_of k vs)) k (λ v vs same undone. let own : v.stage == k ≡ true = eq-eqb v.stage k same in rw own refl)
