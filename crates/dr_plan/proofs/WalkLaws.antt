-- What a walk keeps: machines that finish are settled among those that finished before.
use Rattle.std.proofs.Common.{◌≡◌, ◌↔◌, ◌∙◌, ◌+◌, ◌<◌, ◌≤◌, ◌⊎◌, ℕ, Bool, true, false, cond, List, [], ◌∷◌, ◌++◌, length, get_or, set, take, inl, inr, sym, ap, subst, arith, length-append, length-set, get_or-set_same, get_or-set_other}
use Rattle.std.specs.List.{Contains, sum_by}
use Rattle.std.proofs.Math.Seq.{get_or-append_seam}
use Rattle.std.proofs.lemmas.Bool.{cases_eq, cases_lt}
use Rattle.std.proofs.lemmas.List.{get_or_append_left, take-append-le, take_all}
use Rattle.std.proofs.lemmas.List.Sums.{sum_by-set}
use Rattle.std.proofs.lemmas.List.Elements.{Contains-append_left, Contains-append_right, Contains-append_cases, Contains-push, Contains-push_cases}
use Rattle.dr_groups.specs.Marks.{IsMarked}
use Rattle.dr_plan.specs.Cycles.{DependsOn, IsDependencyChain}
use Rattle.dr_plan.specs.Walks.{LeadsTo, LeadsOutside, IsSettled, IsFinishOrder, IsWalk, IsReached, WentOn, unmarked}
use Rattle.dr_plan.proofs.ChainLaws.{contains-nothing, contains-one, contains-this, contains-cases, leads-self, leads-step}

pub set-kept : (marks : List Bool) (v k : ℕ) → v < length marks → IsMarked marks k → IsMarked (set marks v true) k
set-kept marks v k within marked = elim (cases_eq k v) [
  | inl same ↦ ap (λ n. get_or (set marks v true) n false) same ∙ get_or-set_same marks v true false within
  | inr apart ↦ get_or-set_other marks v k true false apart ∙ marked
]

pub set-marked : (marks : List Bool) (v : ℕ) → v < length marks → IsMarked (set marks v true) v
set-marked marks v within = get_or-set_same marks v true false within

pub set-cases : (marks : List Bool) (v k : ℕ) → IsMarked (set marks v true) k → (v ≡ k) ⊎ IsMarked marks k
set-cases marks v k marked = elim (cases_eq v k) [
  | inl same ↦ inl same
  | inr apart ↦ inr (sym (get_or-set_other marks v k true false (λ e. apart (sym e))) ∙ marked)
]

-- one mark more
pub unmarked-set : (marks : List Bool) (v : ℕ) → v < length marks → get_or marks v false ≡ false → unmarked (set marks v true) + 1 ≡ unmarked marks
unmarked-set marks v within unseen =
    let f : Bool → ℕ = λ mark. cond mark 0 1 in
    let one : f (get_or marks v false) ≡ 1 = ap f unseen in
    let both : sum_by f (set marks v true) + f (get_or marks v false) ≡ sum_by f marks + f true = sum_by-set f marks v true false within in
    omega (arith, one, both)

-- seeing one machine more keeps a walk
pub walk-seen : (g : List (List ℕ)) (seen : List Bool) (o : List ℕ) (v : ℕ) → IsWalk g seen o → v < length seen → IsWalk g (set seen v true) o
walk-seen g seen o v w within = record {
  one_each = length-set seen v true ∙ w.one_each;
  marked = λ k listed. set-kept seen v k within (w.marked k listed);
  followed = λ k d listed depends. set-kept seen v d within (w.followed k d listed depends);
  in_order = w.in_order;
}

-- before a machine finishes: what leads to it and wasn't left before, is led to by it, or leads out
finishes : (g : List (List ℕ)) (v : ℕ) (ds : List ℕ) (s0 : List Bool) (o0 : List ℕ) (s1 : List Bool) (o1 : List ℕ) → IsWalk g s0 o0 → ¬ IsMarked s0 v → v < length s0
    → ((d : ℕ) → Contains ds d ↔ DependsOn g v d) → WentOn g ds (set s0 v true) o0 s1 o1
    → (a : ℕ) (xs : List ℕ) → IsDependencyChain g a xs v → (¬ IsMarked s0 a × LeadsTo g v a) ⊎ LeadsOutside g (o1 ++ v ∷ []) a
finishes g v ds s0 o0 s1 o1 walk unseen within named went a [] p =
    let P : ℕ → Type 0 = λ n. ¬ IsMarked s0 n × LeadsTo g v n in
    inl (subst P (sym p) (unseen, leads-self g v))
finishes g v ds s0 o0 s1 o1 walk unseen within named went a (x ∷ xs) p =
    elim (finishes g v ds s0 o0 s1 o1 walk unseen within named went x xs p.1) [
      | inr out ↦ inr (record { end = out.end; outside = out.outside; leads = leads-step g a x out.end p.0 out.leads })
      | inl next ↦ elim (contains-cases (o1 ++ v ∷ []) a) [
        | inr apart ↦ inr (record { end = a; outside = apart; leads = leads-self g a })
        | inl listed ↦ elim (Contains-push_cases o1 v a listed) [
          | inr same ↦ let P : ℕ → Type 0 = λ n. ¬ IsMarked s0 n × LeadsTo g v n in inl (subst P same (unseen, leads-self g v))
          | inl before ↦ elim (went.reached a before) [
            | inl earlier ↦ absurd (next.0 (walk.followed a x earlier p.0))
            | inr r ↦ inl (λ marked. r.unseen (set-kept s0 v a within marked), leads-step g v r.start a ((named r.start).0 r.among) r.leads)
          ]
        ]
      ]
    ]

settles : (g : List (List ℕ)) (v : ℕ) (ds : List ℕ) (s0 : List Bool) (o0 : List ℕ) (s1 : List Bool) (o1 : List ℕ) → IsWalk g s0 o0 → ¬ IsMarked s0 v → v < length s0
    → ((d : ℕ) → Contains ds d ↔ DependsOn g v d) → WentOn g ds (set s0 v true) o0 s1 o1 → IsSettled g (o1 ++ v ∷ []) v
settles g v ds s0 o0 s1 o1 walk unseen within named went a l =
    elim (finishes g v ds s0 o0 s1 o1 walk unseen within named went a l.machines l.chain) [ inl led ↦ inl led.1 | inr out ↦ inr out ]

-- one machine more in order
order-push : (g : List (List ℕ)) (o : List ℕ) (v : ℕ) → IsFinishOrder g o → IsSettled g (o ++ v ∷ []) v → IsFinishOrder g (o ++ v ∷ [])
order-push g o v in_order settled k below =
    let long : length (o ++ v ∷ []) ≡ length o + 1 = length-append o (v ∷ []) in
    let P : List ℕ → ℕ → Type 0 = λ front n. IsSettled g front n in
    elim (cases_lt k (length o)) [
      | inl lower ↦
          let front : take (k + 1) (o ++ v ∷ []) ≡ take (k + 1) o = take-append-le (k + 1) o (v ∷ []) (omega arith) in
          let here : get_or (o ++ v ∷ []) k 0 ≡ get_or o k 0 = get_or_append_left o (v ∷ []) 0 k lower in
          let Q : ℕ → Type 0 = λ n. IsSettled g (take (k + 1) (o ++ v ∷ [])) n in
          let R : List ℕ → Type 0 = λ xs. IsSettled g xs (get_or o k 0) in
          subst Q (sym here) (subst R (sym front) (in_order k lower))
      | inr last ↦
          let at_end : k ≡ length o = omega (arith, long) in
          let front : take (k + 1) (o ++ v ∷ []) ≡ o ++ v ∷ [] = take_all (k + 1) (o ++ v ∷ []) (omega (arith, long)) in
          let here : get_or (o ++ v ∷ []) k 0 ≡ v = ap (λ n. get_or (o ++ v ∷ []) n 0) at_end ∙ get_or-append_seam o v [] 0 in
          let Q : ℕ → Type 0 = λ n. IsSettled g (take (k + 1) (o ++ v ∷ [])) n in
          let R : List ℕ → Type 0 = λ xs. IsSettled g xs v in
          subst Q (sym here) (subst R (sym front) settled)
    ]

-- a machine finishes once all that it depends on was walked
pub walk-finished : (g : List (List ℕ)) (v : ℕ) (ds : List ℕ) (s0 : List Bool) (o0 : List ℕ) (s1 : List Bool) (o1 o2 : List ℕ) → IsWalk g s0 o0 → ¬ IsMarked s0 v → v < length s0
    → ((d : ℕ) → Contains ds d ↔ DependsOn g v d) → IsWalk g s1 o1 → WentOn g ds (set s0 v true) o0 s1 o1 → o2 ≡ o1 ++ v ∷ [] → IsWalk g s1 o2
walk-finished g v ds s0 o0 s1 o1 o2 walk unseen within named after went pushed =
    let seen : IsMarked s1 v = went.kept v (set-marked s0 v within) in
    let P : ℕ → Type 0 = λ n. IsMarked s1 n in
    let Q : List ℕ → Type 0 = λ xs. IsWalk g s1 xs in
    subst Q (sym pushed) (record {
      one_each = after.one_each;
      marked = λ k listed. elim (Contains-push_cases o1 v k listed) [ inl before ↦ after.marked k before | inr same ↦ subst P same seen ];
      followed = λ k d listed depends. elim (Contains-push_cases o1 v k listed) [
        | inl before ↦ after.followed k d before depends
        | inr same ↦ let D : ℕ → Type 0 = λ n. DependsOn g n d in went.all d ((named d).1 (subst D (sym same) depends))
      ];
      in_order = order-push g o1 v after.in_order (settles g v ds s0 o0 s1 o1 walk unseen within named went);
    })

pub went-finished : (g : List (List ℕ)) (v : ℕ) (ds : List ℕ) (s0 : List Bool) (o0 : List ℕ) (s1 : List Bool) (o1 o2 : List ℕ) → ¬ IsMarked s0 v → v < length s0
    → ((d : ℕ) → Contains ds d ↔ DependsOn g v d) → WentOn g ds (set s0 v true) o0 s1 o1 → unmarked (set s0 v true) ≤ unmarked s0 → o2 ≡ o1 ++ v ∷ [] → WentOn g (v ∷ []) s0 o0 s1 o2
went-finished g v ds s0 o0 s1 o1 o2 unseen within named went less pushed =
    let seen : IsMarked s1 v = went.kept v (set-marked s0 v within) in
    let P : ℕ → Type 0 = λ n. IsMarked s1 n in
    let Q : List ℕ → Type 0 = λ xs. WentOn g (v ∷ []) s0 o0 s1 xs in
    let L : ℕ → Type 0 = λ n. Contains (o1 ++ v ∷ []) n in
    let R : ℕ → Type 0 = λ n. IsReached g (v ∷ []) s0 n in
    subst Q (sym pushed) (record {
      all = λ k listed. subst P (contains-one v k listed) seen;
      kept = λ k marked. went.kept k (set-kept s0 v k within marked);
      ended = λ k marked. elim (went.ended k marked) [
        | inl before ↦ elim (set-cases s0 v k before) [ inl same ↦ inr (subst L same (Contains-push o1 v)) | inr earlier ↦ inl earlier ]
        | inr listed ↦ inr (Contains-append_left o1 (v ∷ []) k listed)
      ];
      stays = λ k listed. Contains-append_left o1 (v ∷ []) k (went.stays k listed);
      reached = λ k listed. elim (Contains-push_cases o1 v k listed) [
        | inr same ↦ inr (subst R same (record { unseen = unseen; start = v; among = contains-this v; leads = leads-self g v }))
        | inl before ↦ elim (went.reached k before) [
          | inl earlier ↦ inl earlier
          | inr r ↦ inr (record {
            unseen = λ marked. r.unseen (set-kept s0 v k within marked);
            start = v;
            among = contains-this v;
            leads = leads-step g v r.start k ((named r.start).0 r.among) r.leads;
          })
        ]
      ];
      fewer = omega (arith, went.fewer, less);
    })

-- a machine that was seen asks for nothing more
pub went-seen : (g : List (List ℕ)) (v : ℕ) (s : List Bool) (o : List ℕ) → IsMarked s v → WentOn g (v ∷ []) s o s o
went-seen g v s o seen =
    let P : ℕ → Type 0 = λ n. IsMarked s n in
    record {
      all = λ k listed. subst P (contains-one v k listed) seen;
      kept = λ k marked. marked;
      ended = λ k marked. inl marked;
      stays = λ k listed. listed;
      reached = λ k listed. inl listed;
      fewer = omega arith;
    }

pub went-none : (g : List (List ℕ)) (starts : List ℕ) (s : List Bool) (o : List ℕ) → starts ≡ [] → WentOn g starts s o s o
went-none g starts s o none =
    let P : List ℕ → Type 0 = λ xs. WentOn g xs s o s o in
    subst P (sym none) (record {
      all = λ k listed. absurd (contains-nothing k listed);
      kept = λ k marked. marked;
      ended = λ k marked. inl marked;
      stays = λ k listed. listed;
      reached = λ k listed. inl listed;
      fewer = omega arith;
    })

-- one start more
pub went-more : (g : List (List ℕ)) (starts more : List ℕ) (v : ℕ) (s0 : List Bool) (o0 : List ℕ) (s1 : List Bool) (o1 : List ℕ) (s2 : List Bool) (o2 : List ℕ)
    → more ≡ starts ++ v ∷ [] → WentOn g starts s0 o0 s1 o1 → WentOn g (v ∷ []) s1 o1 s2 o2 → WentOn g more s0 o0 s2 o2
went-more g starts more v s0 o0 s1 o1 s2 o2 same p q =
    let P : List ℕ → Type 0 = λ xs. WentOn g xs s0 o0 s2 o2 in
    subst P (sym same) (record {
      all = λ k listed. elim (Contains-append_cases starts (v ∷ []) k listed) [ inl before ↦ q.kept k (p.all k before) | inr last ↦ q.all k last ];
      kept = λ k marked. q.kept k (p.kept k marked);
      ended = λ k marked. elim (q.ended k marked) [
        | inr listed ↦ inr listed
        | inl before ↦ elim (p.ended k before) [ inl earlier ↦ inl earlier | inr listed ↦ inr (q.stays k listed) ]
      ];
      stays = λ k listed. q.stays k (p.stays k listed);
      reached = λ k listed. elim (q.reached k listed) [
        | inr r ↦ inr (record { unseen = λ marked. r.unseen (p.kept k marked); start = r.start; among = Contains-append_right starts (v ∷ []) r.start r.among; leads = r.leads })
        | inl before ↦ elim (p.reached k before) [
          | inl earlier ↦ inl earlier
          | inr r ↦ inr (record { unseen = r.unseen; start = r.start; among = Contains-append_left starts (v ∷ []) r.start r.among; leads = r.leads })
        ]
      ];
      fewer = omega (arith, p.fewer, q.fewer);
    })

-- a walk that hasn't begun
pub walk-none : (g : List (List ℕ)) (seen : List Bool) (o : List ℕ) → length seen ≡ length g → o ≡ [] → IsWalk g seen o
walk-none g seen o long none =
    let P : List ℕ → Type 0 = λ xs. IsWalk g seen xs in
    subst P (sym none) (record {
      one_each = long;
      marked = λ k listed. absurd (contains-nothing k listed);
      followed = λ k d listed depends. absurd (contains-nothing k listed);
      in_order = λ k below. absurd (omega arith);
    })

-- one machine more that was seen
pub seen-more : (old new : List Bool) (i : ℕ) → ((k : ℕ) → IsMarked old k → IsMarked new k) → ((k : ℕ) → k < i → IsMarked old k) → IsMarked new i → (k : ℕ) → k < i + 1 → IsMarked new k
seen-more old new i kept before here k below = elim (cases_lt k i) [
  | inl lower ↦ kept k (before k lower)
  | inr last ↦ let same : k ≡ i = omega arith in let P : ℕ → Type 0 = λ n. IsMarked new n in subst P (sym same) here
]

-- all that was seen has finished still
pub ended-more : (g : List (List ℕ)) (starts : List ℕ) (s0 : List Bool) (o0 : List ℕ) (s1 : List Bool) (o1 : List ℕ) → WentOn g starts s0 o0 s1 o1
    → ((k : ℕ) → IsMarked s0 k → Contains o0 k) → (k : ℕ) → IsMarked s1 k → Contains o1 k
ended-more g starts s0 o0 s1 o1 went before k marked = elim (went.ended k marked) [ inl earlier ↦ went.stays k (before k earlier) | inr listed ↦ listed ]
