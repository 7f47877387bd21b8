-- Chains of dependencies.
use Rattle.std.proofs.Common.{◌≡◌, ◌↔◌, ◌<◌, ◌⊎◌, ℕ, List, [], ◌∷◌, ◌++◌, length, get_or, inl, inr, refl, sym, subst, arith}
use Rattle.std.specs.List.{Contains}
use Rattle.std.proofs.lemmas.Bool.{cases_eq}
use Rattle.std.proofs.lemmas.Option.{slice_get_within}
use Rattle.std.proofs.lemmas.List.Elements.{All-contains, All-get_or, All-from_get_or, Contains-get_or, Contains-append_left, Contains-append_right, Contains-append_cases, Contains-push, Contains-push_cases}
use Rattle.dr_inventory.specs.Sound.{AllBelow}
use Rattle.dr_groups.proofs.RowLaws.{row_found, found_same, found_contained}
use Rattle.dr_plan.specs.Cycles.{IsGraph, DependsOn, IsDependencyChain}
use Rattle.dr_plan.specs.Walks.{LeadsTo}

pub contains-nothing : (x : ℕ) → ¬ Contains [] x
contains-nothing x h = omega (arith, h.1)

pub contains-one : (y x : ℕ) → Contains (y ∷ []) x → y ≡ x
contains-one y x h = elim (Contains-push_cases [] y x h) [ inl none ↦ absurd (contains-nothing x none) | inr same ↦ same ]

pub contains-this : (x : ℕ) → Contains (x ∷ []) x
contains-this x = Contains-push [] x

-- a number is in a list or it isn't
pub contains-cases : (xs : List ℕ) (x : ℕ) → Contains xs x ⊎ ¬ Contains xs x
contains-cases [] x = inr (contains-nothing x)
contains-cases (y ∷ ys) x = elim (cases_eq y x) [
  | inl same ↦ let P : ℕ → Type 0 = λ n. Contains (y ∷ ys) n in inl (subst P same (Contains-append_left (y ∷ []) ys y (contains-this y)))
  | inr apart ↦ elim (contains-cases ys x) [
    | inl later ↦ inl (Contains-append_right (y ∷ []) ys x later)
    | inr never ↦ inr (λ h. elim (Contains-append_cases (y ∷ []) ys x h) [ inl first ↦ apart (contains-one y x first) | inr later ↦ never later ])
  ]
]

pub leads-self : (g : List (List ℕ)) (a : ℕ) → LeadsTo g a a
leads-self g a = record { machines = []; chain = refl }

pub leads-step : (g : List (List ℕ)) (a b c : ℕ) → DependsOn g a b → LeadsTo g b c → LeadsTo g a c
leads-step g a b c d l = record { machines = b ∷ l.machines; chain = (d, l.chain) }

chain-append : (g : List (List ℕ)) (a b c : ℕ) (xs ys : List ℕ) → IsDependencyChain g a xs b → IsDependencyChain g b ys c → IsDependencyChain g a (xs ++ ys) c
chain-append g a b c [] ys p q = let P : ℕ → Type 0 = λ n. IsDependencyChain g n ys c in subst P (sym p) q
chain-append g a b c (x ∷ xs) ys p q = (p.0, chain-append g x b c xs ys p.1 q)

pub leads-through : (g : List (List ℕ)) (a b c : ℕ) → LeadsTo g a b → LeadsTo g b c → LeadsTo g a c
leads-through g a b c p q = record { machines = p.machines ++ q.machines; chain = chain-append g a b c p.machines q.machines p.chain q.chain }

-- what each dependent has, each has that leads to one with it
chain-back : (g : List (List ℕ)) (Has : ℕ → Type 0) → ((a b : ℕ) → DependsOn g a b → Has b → Has a) → (a b : ℕ) (xs : List ℕ) → IsDependencyChain g a xs b → Has b → Has a
chain-back g Has each a b [] p has = subst Has (sym p) has
chain-back g Has each a b (x ∷ xs) p has = each a x p.0 (chain-back g Has each x b xs p.1 has)

pub leads-back : (g : List (List ℕ)) (Has : ℕ → Type 0) → ((a b : ℕ) → DependsOn g a b → Has b → Has a) → (a b : ℕ) → LeadsTo g a b → Has b → Has a
leads-back g Has each a b l has = chain-back g Has each a b l.machines l.chain has

chain-on : (g : List (List ℕ)) (Has : ℕ → Type 0) → ((a b : ℕ) → DependsOn g a b → Has a → Has b) → (a b : ℕ) (xs : List ℕ) → IsDependencyChain g a xs b → Has a → Has b
chain-on g Has each a b [] p has = subst Has p has
chain-on g Has each a b (x ∷ xs) p has = chain-on g Has each x b xs p.1 (each a x p.0 has)

pub leads-on : (g : List (List ℕ)) (Has : ℕ → Type 0) → ((a b : ℕ) → DependsOn g a b → Has a → Has b) → (a b : ℕ) → LeadsTo g a b → Has a → Has b
leads-on g Has each a b l has = chain-on g Has each a b l.machines l.chain has

-- a dependency lies within the graph
pub dependent-within : (g : List (List ℕ)) (a b : ℕ) → DependsOn g a b → a < length g
dependent-within g a b d = slice_get_within g a d.row d.found

pub dependency-within : (g : List (List ℕ)) (a b : ℕ) → IsGraph g → DependsOn g a b → b < length g
dependency-within g a b graph d = All-contains (λ k. k < length g) d.row b (All-contains (AllBelow (length g)) g d.row graph (found_contained g a d.row d.found)) d.named

pub leads-within : (g : List (List ℕ)) (a b : ℕ) → LeadsTo g a b → b < length g → a < length g
leads-within g a b l = leads-back g (λ n. n < length g) (λ x y d within. dependent-within g x y d) a b l

pub led-within : (g : List (List ℕ)) (a b : ℕ) → IsGraph g → LeadsTo g a b → a < length g → b < length g
led-within g a b graph l = leads-on g (λ n. n < length g) (λ x y d within. dependency-within g x y graph d) a b l

-- the row that was read is what the machine depends on
pub depends-read : (g : List (List ℕ)) (a : ℕ) (row ds : List ℕ) → a < length g → row ≡ get_or g a row → ds ≡ row → (d : ℕ) → Contains ds d ↔ DependsOn g a d
depends-read g a row ds within read same d =
    let found = row_found g g a row refl within read in
    let P : List ℕ → Type 0 = λ xs. Contains xs d in (
      λ h. record { row = row; found = found; named = subst P same h },
      λ h. let is : h.row ≡ row = found_same _ h.row row h.found found in subst P (sym same) (subst P is h.named),
    )

pub row-below : (g : List (List ℕ)) (a : ℕ) (row ds : List ℕ) → IsGraph g → a < length g → row ≡ get_or g a row → ds ≡ row → AllBelow (length g) ds
row-below g a row ds graph within read same =
    let P : List ℕ → Type 0 = λ xs. AllBelow (length g) xs in
    subst P (sym same) (subst P (sym read) (All-get_or P g a row within graph))

pub all-below : (n : ℕ) (xs : List ℕ) → ((x : ℕ) → Contains xs x → x < n) → AllBelow n xs
all-below n xs each = All-from_get_or (λ k. k < n) xs 0 (λ i within. each (get_or xs i 0) (Contains-get_or xs i 0 within))
