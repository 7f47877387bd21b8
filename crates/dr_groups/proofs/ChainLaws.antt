-- Being of one class is an equivalence.
use Rattle.std.proofs.Common.{◌≡◌, ℕ, List, [], ◌∷◌, ◌++◌, ◌∙◌, inl, inr, refl, sym, ap, subst}
use Rattle.dr_inventory.specs.declared.estate.Estate.{Estate}
use Rattle.dr_groups.specs.Links.{IsLinked, IsChain, SameClass}

pub linked_back : (e : Estate) (a b : ℕ) → IsLinked e a b → IsLinked e b a
linked_back e a b (inl m) = inl (record { machine = m.machine; declared = m.declared; first = m.second; second = m.first })
linked_back e a b (inr s) = inr (record { device = s.other; other = s.device; first = s.second; second = s.first; same = sym s.same })

pub same_class-self : (e : Estate) (a : ℕ) → SameClass e a a
same_class-self e a = record { datastores = []; chain = refl }

pub same_class-link : (e : Estate) (a b : ℕ) → IsLinked e a b → SameClass e a b
same_class-link e a b l = record { datastores = b ∷ []; chain = (l, refl) }

chain-append : (e : Estate) (a b c : ℕ) (xs ys : List ℕ) → IsChain e a xs b → IsChain e b ys c → IsChain e a (xs ++ ys) c
chain-append e a b c [] ys p q = let P : ℕ → Type 0 = λ n. IsChain e n ys c in subst P (sym p) q
chain-append e a b c (x ∷ xs) ys p q = (p.0, chain-append e x b c xs ys p.1 q)

pub same_class-through : (e : Estate) (a b c : ℕ) → SameClass e a b → SameClass e b c → SameClass e a c
same_class-through e a b c p q = record { datastores = p.datastores ++ q.datastores; chain = chain-append e a b c p.datastores q.datastores p.chain q.chain }

chain-back : (e : Estate) (a b : ℕ) (xs : List ℕ) → IsChain e a xs b → SameClass e b a
chain-back e a b [] p = let P : ℕ → Type 0 = λ n. SameClass e n a in subst P p (same_class-self e a)
chain-back e a b (x ∷ xs) p = same_class-through e b x a (chain-back e x b xs p.1) (same_class-link e x a (linked_back e a x p.0))

pub same_class-back : (e : Estate) (a b : ℕ) → SameClass e a b → SameClass e b a
same_class-back e a b p = chain-back e a b p.datastores p.chain

-- what is the same for each two linked datastores is the same for all of a class
chain-same : (e : Estate) (r : ℕ → ℕ) → ((a b : ℕ) → IsLinked e a b → r a ≡ r b) → (a b : ℕ) (xs : List ℕ) → IsChain e a xs b → r a ≡ r b
chain-same e r each a b [] p = ap r p
chain-same e r each a b (x ∷ xs) p = each a x p.0 ∙ chain-same e r each x b xs p.1

pub same_class-same : (e : Estate) (r : ℕ → ℕ) → ((a b : ℕ) → IsLinked e a b → r a ≡ r b) → (a b : ℕ) → SameClass e a b → r a ≡ r b
same_class-same e r each a b p = chain-same e r each a b p.datastores p.chain

chain-within : (e : Estate) (In : ℕ → Type 0) → ((a b : ℕ) → IsLinked e a b → In b) → (a b : ℕ) (xs : List ℕ) → IsChain e a xs b → In a → In b
chain-within e In each a b [] p within = subst In p within
chain-within e In each a b (x ∷ xs) p within = chain-within e In each x b xs p.1 (each a x p.0)

-- what holds of a datastore and of each that is linked to another holds of all its class
pub same_class-within : (e : Estate) (In : ℕ → Type 0) → ((a b : ℕ) → IsLinked e a b → In b) → (a b : ℕ) → SameClass e a b → In a → In b
same_class-within e In each a b p within = chain-within e In each a b p.datastores p.chain within
