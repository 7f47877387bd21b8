-- Joining trees of linked datastores keeps each tree within one class.
use Rattle.std.proofs.Common.{◌≡◌, ◌∙◌, ℕ, ◌+◌, ◌<◌, List, length, get_or, max, min, inl, inr, refl, sym, ap, subst, arith}
use Rattle.std.proofs.lemmas.Bool.{cases_lt, cases_eq}
use Rattle.dr_inventory.specs.declared.estate.Estate.{Estate}
use Rattle.dr_groups.specs.Links.{ShareMachine, IsLinked, SameClass, AreLabels}
use Rattle.dr_groups.specs.Forests.{IsForest, root, joined_root}
use Rattle.dr_groups.specs.Trees.{IsWithinClasses, KeepsTogether, HasEntry}
use Rattle.dr_groups.proofs.ForestLaws.{joined_root-greater, joined_root-other, root-below}
use Rattle.dr_groups.proofs.ChainLaws.{same_class-self, same_class-back, same_class-through, same_class-same}

-- both roots become the lesser one
joined_root-first : (x y : ℕ) → joined_root x y x ≡ min x y
joined_root-first x y = elim (cases_lt x y) [
  | inl below ↦ joined_root-other x y x (λ e. omega arith) ∙ omega arith
  | inr above ↦ joined_root-greater x y x (omega arith)
]

joined_root-second : (x y : ℕ) → joined_root x y y ≡ min x y
joined_root-second x y = elim (cases_lt y x) [
  | inl below ↦ joined_root-other x y y (λ e. omega arith) ∙ omega arith
  | inr above ↦ joined_root-greater x y y (omega arith)
]

-- a joined root is of the class of the root before, where both roots are of one class
joined_root-class : (e : Estate) (x y k : ℕ) → SameClass e x y → SameClass e k (joined_root x y k)
joined_root-class e x y k both =
    let At : ℕ → Type 0 = λ n. SameClass e k n in
    elim (cases_eq k (max x y)) [
      | inr other ↦ subst At (sym (joined_root-other x y k other)) (same_class-self e k)
      | inl greater ↦ subst At (sym (joined_root-greater x y k greater)) (elim (cases_lt x y) [
        | inl below ↦
            let is_y : k ≡ y = omega arith in
            let is_x : min x y ≡ x = omega arith in
            let P : ℕ → Type 0 = λ n. SameClass e k n in
            let Q : ℕ → Type 0 = λ n. SameClass e n x in
            subst P (sym is_x) (subst Q (sym is_y) (same_class-back e x y both))
        | inr above ↦
            let is_x : k ≡ x = omega arith in
            let is_y : min x y ≡ y = omega arith in
            let P : ℕ → Type 0 = λ n. SameClass e k n in
            let Q : ℕ → Type 0 = λ n. SameClass e n y in
            subst P (sym is_y) (subst Q (sym is_x) both)
      ])
    ]

-- after a join of two datastores of one class
pub joined-within : (e : Estate) (old new : List ℕ) (a b : ℕ) → IsWithinClasses e old → a < length e.datastores → b < length e.datastores → SameClass e a b
    → length new ≡ length old → IsForest new → ((k : ℕ) → root new k ≡ joined_root (root old a) (root old b) (root old k)) → IsWithinClasses e new
joined-within e old new a b w within_a within_b both long forest joined = record {
  one_each = long ∙ w.one_each;
  forest = forest;
  linked = λ k within.
      let roots = same_class-through e (root old a) b (root old b)
      (same_class-through e (root old a) a b (same_class-back e a (root old a) (w.linked a within_a)) both) (w.linked b within_b) in
      let At : ℕ → Type 0 = λ n. SameClass e k n in
      subst At (sym (joined k)) (same_class-through e k (root old k) (joined_root (root old a) (root old b) (root old k)) (w.linked k within)
      (joined_root-class e (root old a) (root old b) (root old k) roots));
}

pub joined-together : (old new : List ℕ) (a b : ℕ) → ((k : ℕ) → root new k ≡ joined_root (root old a) (root old b) (root old k)) → KeepsTogether old new
joined-together old new a b joined = record { together = λ p q same. joined p ∙ ap (joined_root (root old a) (root old b)) same ∙ sym (joined q) }

pub joined-both : (old new : List ℕ) (a b : ℕ) → ((k : ℕ) → root new k ≡ joined_root (root old a) (root old b) (root old k)) → root new a ≡ root new b
joined-both old new a b joined = joined a ∙ joined_root-first (root old a) (root old b) ∙ sym (joined_root-second (root old a) (root old b)) ∙ sym (joined b)

pub together-self : (ps : List ℕ) → KeepsTogether ps ps
together-self ps = record { together = λ a b same. same }

pub together-through : (old now new : List ℕ) → KeepsTogether old now → KeepsTogether now new → KeepsTogether old new
together-through old now new p q = record { together = λ a b same. q.together a b (p.together a b same) }

-- single trees lie within classes
pub singles-within : (e : Estate) (ps : List ℕ) → length ps ≡ length e.datastores → IsForest ps → ((k : ℕ) → k < length e.datastores → root ps k ≡ k) → IsWithinClasses e ps
singles-within e ps long forest apart = record {
  one_each = long;
  forest = forest;
  linked = λ k within. let At : ℕ → Type 0 = λ n. SameClass e k n in subst At (sym (apart k within)) (same_class-self e k);
}

linked-root : (e : Estate) (leaders ps : List ℕ) → ((a b : ℕ) → ShareMachine e a b → root ps a ≡ root ps b)
    → ((datastore entry : ℕ) → HasEntry e datastore entry → root ps datastore ≡ root ps (get_or leaders entry 0)) → (a b : ℕ) → IsLinked e a b → root ps a ≡ root ps b
linked-root e leaders ps machines entries a b (inl m) = machines a b m
linked-root e leaders ps machines entries a b (inr s) =
    entries a (get_or e.consistency s.device 0) (record { device = s.device; named = s.first; is = refl })
    ∙ sym (entries b (get_or e.consistency s.device 0) (record { device = s.other; named = s.second; is = sym s.same }))

-- where all links are joined, the roots are the labels
pub roots_are_labels : (e : Estate) (leaders ps labels : List ℕ) → IsWithinClasses e ps → ((a b : ℕ) → ShareMachine e a b → root ps a ≡ root ps b)
    → ((datastore entry : ℕ) → HasEntry e datastore entry → root ps datastore ≡ root ps (get_or leaders entry 0))
    → length labels ≡ length ps → ((k : ℕ) → k < length labels → get_or labels k 0 ≡ root ps k) → AreLabels e labels
roots_are_labels e leaders ps labels w machines entries long flat =
    let links = linked-root e leaders ps machines entries in
    record {
      one_each = long ∙ w.one_each;
      least = λ k within.
          let is : get_or labels k 0 ≡ root ps k = flat k (omega (arith, long, w.one_each)) in
          let At : ℕ → Type 0 = λ n. SameClass e k n in
          record {
            in_class = subst At (sym is) (w.linked k within);
            below_all = λ other same. omega (arith, same_class-same e (root ps) links k other same, root-below ps other w.forest, is);
          };
    }

-- one pair more that is in one tree
pub together_more : (old new : List ℕ) (f g : ℕ → ℕ) (i : ℕ) → KeepsTogether old new → ((k : ℕ) → k < i → root old (f k) ≡ root old (g k)) → root new (f i) ≡ root new (g i)
    → (k : ℕ) → k < i + 1 → root new (f k) ≡ root new (g k)
together_more old new f g i kept before here k below = elim (cases_lt k i) [
  | inl lower ↦ kept.together (f k) (g k) (before k lower)
  | inr last ↦ let same : k ≡ i = omega arith in ap (λ n. root new (f n)) same ∙ here ∙ sym (ap (λ n. root new (g n)) same)
]

-- the entries of one datastore more
pub entries_more : (e : Estate) (leaders old new : List ℕ) (i : ℕ) → KeepsTogether old new
    → ((d entry : ℕ) → d < i → HasEntry e d entry → root old d ≡ root old (get_or leaders entry 0)) → ((entry : ℕ) → HasEntry e i entry → root new i ≡ root new (get_or leaders entry 0))
    → (d entry : ℕ) → d < i + 1 → HasEntry e d entry → root new d ≡ root new (get_or leaders entry 0)
entries_more e leaders old new i kept before here d entry below has = elim (cases_lt d i) [
  | inl lower ↦ kept.together d (get_or leaders entry 0) (before d entry lower has)
  | inr last ↦
      let same : d ≡ i = omega arith in
      let P : ℕ → Type 0 = λ n. HasEntry e n entry in
      ap (root new) same ∙ here entry (subst P same has)
]
