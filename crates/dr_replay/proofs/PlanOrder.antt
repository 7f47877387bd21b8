-- The last run of a plan.
use Rattle.std.specs.Prelude.{◌≡◌, ℕ, ◌==◌, Bool, true, false, cond, IsTrue, ◌↔◌, List, [], ◌∷◌, Some, find}
use Rattle.std.proofs.Common.{refl, sym, ◌∙◌, ap, subst, eq-eqb}
use Rattle.std.proofs.lemmas.Bool.{eqb-true}
use Rattle.dr_meaning.specs.Runs.{Run, number, run_at}
use Rattle.dr_meaning.proofs.Lists.{find-passes}

-- two tests find one element, where each of the two that they find passes both
pub find_one : {X : Type 0} (p q : X → Bool) (x y : X) → p x ≡ true → q y ≡ true → (xs : List X) → find q xs ≡ Some x → find p xs ≡ Some y → x ≡ y
find_one p q x y a b [] e f = cc
find_one p q x y a b (z ∷ zs) e f = go (q z) (p z) refl refl (find_one p q x y a b zs) e f
  where
    go : (u v : Bool) → q z ≡ u → p z ≡ v → (find q zs ≡ Some x → find p zs ≡ Some y → x ≡ y) → cond u (Some z) (find q zs) ≡ Some x → cond v (Some z) (find p zs) ≡ Some y → x ≡ y
    go true true g h rest e f = cc
    go false false g h rest e f = rest e f
    go true false g h rest e f = let k : z ≡ x = cc in let wrong : p x ≡ false = subst (λ w. p w ≡ false) k h in cc
    go false true g h rest e f = let k : z ≡ y = cc in let wrong : q y ≡ false = subst (λ w. q w ≡ false) k g in cc

-- the last run of its plan is the one with its number
pub last_of_plan_told : (runs : List Run) (n : ℕ) (run last : Run) → run_at n runs ≡ Some run → find (λ r. r.start.plan == run.start.plan) runs ≡ Some last → IsTrue (last.start.run == run.start.run) ↔ (find (λ r. r.start.plan == run.start.plan) runs ≡ Some run)
last_of_plan_told runs n run last e f = (
  λ same.
      let its : number run == n ≡ true = find-passes (λ r. number r == n) runs run e in
      let one : number last ≡ n = eqb-true _ _ same ∙ eqb-true _ _ its in
      f ∙ ap Some (find_one (λ r. number r == n) (λ r. r.start.plan == run.start.plan) last run (eq-eqb _ _ one) (eq-eqb _ _ refl) runs f e),
  λ k. let is : Some last ≡ Some run = sym f ∙ k in let same : last ≡ run = cc in eq-eqb _ _ (ap number same),
)
