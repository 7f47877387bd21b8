-- Which of the machines that a walk over dependents has just listed are on a cycle.
use Rattle.std.proofs.Common.{◌≡◌, ◌≢◌, ◌↔◌, ◌∙◌, ◌+◌, ◌<◌, ◌⊎◌, ℕ, Bool, List, [], ◌∷◌, length, get_or, take, inl, inr, sym, subst, arith}
use Rattle.std.specs.List.{Contains}
use Rattle.std.proofs.lemmas.Bool.{cases_eq, cases_lt}
use Rattle.std.proofs.lemmas.List.{get_or-take, length-take}
use Rattle.std.proofs.lemmas.List.Elements.{All-from_get_or, Contains-get_or}
use Rattle.dr_groups.specs.Marks.{IsMarked}
use Rattle.dr_groups.proofs.RowLaws.{contained_at}
use Rattle.dr_plan.specs.Cycles.{IsGraph, DependsOn, IsDependencyChain, IsOnCycle}
use Rattle.dr_plan.specs.Walks.{LeadsTo, IsSettled, IsTurned, IsWalk, WentOn, HasOther, IsDecided, AreSeenFrom}
use Rattle.dr_inventory.specs.Sound.{AllBelow}
use Rattle.dr_plan.proofs.DependentLaws.{depends-from}
use Rattle.dr_plan.proofs.ChainLaws.{all-below, contains-nothing, contains-one, leads-self, leads-step, leads-through, leads-back, leads-within, led-within, dependent-within}

chain-turned : (g d : List (List ℕ)) (a b : ℕ) (xs : List ℕ) → IsTurned g d → IsDependencyChain d a xs b → LeadsTo g b a
chain-turned g d a b [] t p = let P : ℕ → Type 0 = λ n. LeadsTo g n a in subst P p (leads-self g a)
chain-turned g d a b (x ∷ xs) t p = leads-through g b x a (chain-turned g d x b xs t p.1) (leads-step g x a a ((t.turned a x).0 p.0) (leads-self g a))

-- a machine that depends on one that leads back to it
pub cycle-back : (g : List (List ℕ)) (a b : ℕ) → DependsOn g a b → LeadsTo g b a → IsOnCycle g a
cycle-back g a b d l = record { next = b; rest = l.machines; chain = (d, l.chain) }

chain-cycle : (g : List (List ℕ)) (a b : ℕ) (xs : List ℕ) → a ≢ b → IsDependencyChain g a xs b → LeadsTo g b a → IsOnCycle g a
chain-cycle g a b [] apart p back = absurd (apart p)
chain-cycle g a b (x ∷ xs) apart p back = cycle-back g a x p.0 (leads-through g x b a (record { machines = xs; chain = p.1 }) back)

-- two machines that lead to one another
pub cycle-two : (g : List (List ℕ)) (a b : ℕ) → a ≢ b → LeadsTo g a b → LeadsTo g b a → IsOnCycle g a
cycle-two g a b apart on back = chain-cycle g a b on.machines apart on.chain back

-- what was listed was not seen, leads to the start and is led to by it
pub record IsMember (g : List (List ℕ)) (s0 : List Bool) (v k : ℕ) : Type 0 where
  pub unseen : ¬ IsMarked s0 k
  pub leads : LeadsTo g k v
  pub led : LeadsTo g v k

member : (g d : List (List ℕ)) (s0 : List Bool) (o0 : List ℕ) (s1 : List Bool) (ms : List ℕ) (v : ℕ) → IsTurned g d → o0 ≡ [] → WentOn d (v ∷ []) s0 o0 s1 ms
    → ((a : ℕ) → LeadsTo g a v → LeadsTo g v a ⊎ IsMarked s0 a) → (k : ℕ) → Contains ms k → IsMember g s0 v k
member g d s0 o0 s1 ms v t none went settled k listed =
    let P : List ℕ → Type 0 = λ xs. Contains xs k in
    elim (went.reached k listed) [
      | inl before ↦ absurd (contains-nothing k (subst P none before))
      | inr r ↦
          let Q : ℕ → Type 0 = λ n. LeadsTo g k n in
          let leads : LeadsTo g k v = subst Q (sym (contains-one v r.start r.among)) (chain-turned g d r.start k r.leads.machines t r.leads.chain) in
          elim (settled k leads) [
            | inl led ↦ record { unseen = r.unseen; leads = leads; led = led }
            | inr seen ↦ absurd (r.unseen seen)
          ]
    ]

closed-after : (g d : List (List ℕ)) (s0 m0 : List Bool) (o0 : List ℕ) (s1 : List Bool) (ms : List ℕ) (v : ℕ) → IsTurned g d → IsDecided g s0 m0 → IsWalk d s1 ms → WentOn d (v ∷ []) s0 o0 s1 ms
    → (a b : ℕ) → DependsOn g a b → IsMarked s1 b → IsMarked s1 a
closed-after g d s0 m0 o0 s1 ms v t decided walk went a b depends seen = elim (went.ended b seen) [
  | inl before ↦ went.kept a (decided.closed a b depends before)
  | inr listed ↦ walk.followed b a listed ((t.turned b a).1 depends)
]

-- with another machine beside the start, or a start that depends on itself, all are on a cycle
members-cyclic : (g : List (List ℕ)) (s0 : List Bool) (ms : List ℕ) (v : ℕ) → ((k : ℕ) → Contains ms k → IsMember g s0 v k) → HasOther ms v ⊎ DependsOn g v v
    → (k : ℕ) → Contains ms k → IsOnCycle g k
members-cyclic g s0 ms v each some k listed = elim (cases_eq k v) [
  | inr apart ↦ cycle-two g k v apart (each k listed).leads (each k listed).led
  | inl same ↦
      let P : ℕ → Type 0 = λ n. IsOnCycle g n in
      subst P (sym same) (elim some [
        | inl o ↦ cycle-two g v o.other (λ e. o.apart (sym e)) (each o.other o.listed).led (each o.other o.listed).leads
        | inr itself ↦ cycle-back g v v itself (leads-self g v)
      ])
]

-- a start alone that doesn't depend on itself is on no cycle
members-plain : (g d : List (List ℕ)) (s0 m0 : List Bool) (o0 : List ℕ) (s1 : List Bool) (ms : List ℕ) (v : ℕ) → IsTurned g d → IsDecided g s0 m0 → IsWalk d s1 ms → WentOn d (v ∷ []) s0 o0 s1 ms
    → ((k : ℕ) → Contains ms k → IsMember g s0 v k) → ¬ (HasOther ms v ⊎ DependsOn g v v) → (k : ℕ) → Contains ms k → ¬ IsOnCycle g k
members-plain g d s0 m0 o0 s1 ms v t decided walk went each alone k listed cycle =
    let only = λ (n : ℕ) (is : Contains ms n). elim (cases_eq n v) as (λ _. n ≡ v) [ inl same ↦ same | inr apart ↦ absurd (alone (inl (record { other = n; listed = is; apart = apart }))) ] in
    let same : k ≡ v = only k listed in
    let depends : DependsOn g k cycle.next = cycle.chain.0 in
    let back : LeadsTo g cycle.next k = record { machines = cycle.rest; chain = cycle.chain.1 } in
    let seen : IsMarked s1 cycle.next = leads-back g (IsMarked s1) (closed-after g d s0 m0 o0 s1 ms v t decided walk went) cycle.next k back (walk.marked k listed) in
    elim (went.ended cycle.next seen) [
      | inl before ↦ (each k listed).unseen (decided.closed k cycle.next depends before)
      | inr too ↦
          let P : ℕ → Type 0 = λ n. DependsOn g n v in
          let Q : ℕ → Type 0 = λ n. DependsOn g k n in
          alone (inr (subst P same (subst Q (only cycle.next too) depends)))
    ]

-- marks of what was listed and is on a cycle
decided-after : (g d : List (List ℕ)) (s0 m0 : List Bool) (o0 : List ℕ) (s1 m1 : List Bool) (ms : List ℕ) (v : ℕ) → IsTurned g d → IsDecided g s0 m0 → IsWalk d s1 ms → WentOn d (v ∷ []) s0 o0 s1 ms
    → length m1 ≡ length m0 → ((k : ℕ) → IsMarked m0 k → IsMarked m1 k) → ((k : ℕ) → IsMarked m1 k → IsMarked m0 k ⊎ (Contains ms k × IsOnCycle g k))
    → ((k : ℕ) → Contains ms k → IsOnCycle g k → IsMarked m1 k) → IsDecided g s1 m1
decided-after g d s0 m0 o0 s1 m1 ms v t decided walk went long kept no_others all = record {
  one_each = walk.one_each ∙ t.one_each;
  one_mark_each = long ∙ decided.one_mark_each;
  closed = closed-after g d s0 m0 o0 s1 ms v t decided walk went;
  within = λ k marked. elim (no_others k marked) [ inl before ↦ went.kept k (decided.within k before) | inr this ↦ walk.marked k this.0 ];
  exactly = λ k seen. (
    λ marked. elim (no_others k marked) [ inl before ↦ (decided.exactly k (decided.within k before)).0 before | inr this ↦ this.1 ],
    λ cycle. elim (went.ended k seen) [ inl before ↦ kept k ((decided.exactly k before).1 cycle) | inr listed ↦ all k listed cycle ],
  );
}

pub decided-cyclic : (g d : List (List ℕ)) (s0 m0 : List Bool) (o0 : List ℕ) (s1 m1 : List Bool) (ms : List ℕ) (v : ℕ) → IsTurned g d → IsDecided g s0 m0 → o0 ≡ [] → IsWalk d s1 ms → WentOn d (v ∷ []) s0 o0 s1 ms
    → ((a : ℕ) → LeadsTo g a v → LeadsTo g v a ⊎ IsMarked s0 a) → HasOther ms v ⊎ DependsOn g v v
    → length m1 ≡ length m0 → ((k : ℕ) → IsMarked m0 k → IsMarked m1 k) → ((k : ℕ) → IsMarked m1 k → IsMarked m0 k ⊎ Contains ms k)
    → ((k : ℕ) → Contains ms k → IsMarked m1 k) → IsDecided g s1 m1
decided-cyclic g d s0 m0 o0 s1 m1 ms v t decided none walk went settled some long kept no_others all =
    let each = members-cyclic g s0 ms v (member g d s0 o0 s1 ms v t none went settled) some in
    decided-after g d s0 m0 o0 s1 m1 ms v t decided walk went long kept
    (λ k marked. elim (no_others k marked) [ inl before ↦ inl before | inr listed ↦ inr (listed, each k listed) ]) (λ k listed cycle. all k listed)

pub decided-plain : (g d : List (List ℕ)) (s0 m0 : List Bool) (o0 : List ℕ) (s1 m1 : List Bool) (ms : List ℕ) (v : ℕ) → IsTurned g d → IsDecided g s0 m0 → o0 ≡ [] → IsWalk d s1 ms → WentOn d (v ∷ []) s0 o0 s1 ms
    → ((a : ℕ) → LeadsTo g a v → LeadsTo g v a ⊎ IsMarked s0 a) → ¬ (HasOther ms v ⊎ DependsOn g v v) → m1 ≡ m0 → IsDecided g s1 m1
decided-plain g d s0 m0 o0 s1 m1 ms v t decided none walk went settled alone same =
    let each = members-plain g d s0 m0 o0 s1 ms v t decided walk went (member g d s0 o0 s1 ms v t none went settled) alone in
    let P : List Bool → Type 0 = λ marks. IsDecided g s1 marks in
    subst P (sym same) (decided-after g d s0 m0 o0 s1 m0 ms v t decided walk went (let long : length m0 ≡ length m0 = omega arith in long) (λ k marked. marked) (λ k marked. inl marked)
    (λ k listed cycle. absurd (each k listed cycle)))

contains-take : (n : ℕ) (xs : List ℕ) (k : ℕ) → k < n → k < length xs → Contains (take n xs) (get_or xs k 0)
contains-take n xs k front within =
    let here : get_or (take n xs) k 0 ≡ get_or xs k 0 = get_or-take n xs k 0 front in
    let P : ℕ → Type 0 = λ x. Contains (take n xs) x in
    subst P here (Contains-get_or (take n xs) k 0 (omega (arith, length-take n xs)))

-- a machine that isn't in the front of an order stands after it
seen-outside : (order : List ℕ) (seen : List Bool) (n x : ℕ) → Contains order x → AreSeenFrom seen order n → ¬ Contains (take n order) x → IsMarked seen x
seen-outside order seen n x listed after outside =
    let at = contained_at order x listed in
    let P : ℕ → Type 0 = λ k. Contains (take n order) k in
    let Q : ℕ → Type 0 = λ k. IsMarked seen k in
    elim (cases_lt at.0 n) [
      | inl front ↦ absurd (outside (subst P at.2 (contains-take n order at.0 front at.1)))
      | inr past ↦ subst Q at.2 (after at.0 past at.1)
    ]

-- what leads to a machine in order is led to by it, or was seen, once all after it were
pub settled-seen : (g : List (List ℕ)) (order : List ℕ) (seen marks : List Bool) (place n v : ℕ) → IsGraph g → IsDecided g seen marks → ((k : ℕ) → k < length g → Contains order k)
    → AreSeenFrom seen order n → place + 1 ≡ n → IsSettled g (take (place + 1) order) v → v < length g → (a : ℕ) → LeadsTo g a v → LeadsTo g v a ⊎ IsMarked seen a
settled-seen g order seen marks place n v graph decided all after last settled within a leads = elim (settled a leads) [
  | inl led ↦ inl led
  | inr out ↦
      let lower : out.end < length g = led-within g a out.end graph out.leads (leads-within g a v leads within) in
      let P : ℕ → Type 0 = λ k. ¬ Contains (take k order) out.end in
      inr (leads-back g (IsMarked seen) decided.closed a out.end out.leads (seen-outside order seen n out.end (all out.end lower) after (subst P last out.outside)))
]

-- one place more
pub seen-place : (old new : List Bool) (order : List ℕ) (i : ℕ) → ((k : ℕ) → IsMarked old k → IsMarked new k) → AreSeenFrom old order (i + 1) → IsMarked new (get_or order i 0) → AreSeenFrom new order i
seen-place old new order i kept after here k from below = elim (cases_lt i k) [
  | inl later ↦ kept (get_or order k 0) (after k (omega arith) below)
  | inr first ↦ let same : i ≡ k = omega arith in let P : ℕ → Type 0 = λ n. IsMarked new (get_or order n 0) in subst P same here
]

-- once all places were seen, all machines were
pub seen-all : (n : ℕ) (seen : List Bool) (order : List ℕ) → ((k : ℕ) → k < n → Contains order k) → AreSeenFrom seen order 0 → (k : ℕ) → k < n → IsMarked seen k
seen-all n seen order all from k below =
    let at = contained_at order k (all k below) in
    let P : ℕ → Type 0 = λ n. IsMarked seen n in
    subst P at.2 (from at.0 (omega arith) at.1)

-- a decision on all machines
pub decided-all : (g : List (List ℕ)) (seen marks : List Bool) → IsDecided g seen marks → ((k : ℕ) → k < length g → IsMarked seen k) → (k : ℕ) → IsMarked marks k ↔ IsOnCycle g k
decided-all g seen marks decided all k = (
  λ marked. (decided.exactly k (decided.within k marked)).0 marked,
  λ cycle. (decided.exactly k (all k (dependent-within g k cycle.next cycle.chain.0))).1 cycle,
)

-- nothing is decided yet
pub decided-none : (g : List (List ℕ)) (seen marks : List Bool) → length seen ≡ length g → length marks ≡ length g → ((k : ℕ) → ¬ IsMarked seen k) → ((k : ℕ) → ¬ IsMarked marks k) → IsDecided g seen marks
decided-none g seen marks long long_too unseen unmarked = record {
  one_each = long;
  one_mark_each = long_too;
  closed = λ a b depends marked. absurd (unseen b marked);
  within = λ k marked. absurd (unmarked k marked);
  exactly = λ k marked. absurd (unseen k marked);
}

-- dependents lie within the graph
pub graph-turned : (g d : List (List ℕ)) → IsTurned g d → IsGraph d
graph-turned g d t =
    let each = λ (a : ℕ) (within : a < length d) (b : ℕ) (listed : Contains (get_or d a []) b). dependent-within g b a ((t.turned a b).0 (depends-from d a b within listed)) in
    All-from_get_or (AllBelow (length d)) d [] (λ a within. all-below (length d) (get_or d a []) (λ b listed. omega (arith, each a within b listed, t.one_each)))
