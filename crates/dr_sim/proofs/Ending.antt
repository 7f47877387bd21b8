-- What a simulated array's calls leave is what an array's may leave.
use Rattle.std.proofs.Common.{◌≡◌, ℕ, inl, inr, Bool, true, false, not, ◌&&◌, ◌||◌, ◌==◌, if◌then◌else◌, List, [], ◌∷◌, take, Option, Some, None, Result, Ok, Err, MatchOption, refl, sym, ◌∙◌, ap, subst, is_some}
use Rattle.std.proofs.lemmas.Bool.{cases_Bool, true≢false, eqb-true, eq-eqb}
use Rattle.dr_base.specs.declared.side.Side.{Side}
use Rattle.dr_base.specs.declared.side.Side.TheVariants.{A, B}
use Rattle.dr_base.specs.Sides.{other, same_side}
use Rattle.dr_outside.specs.declared.sides.Sides.{Sides}
use Rattle.dr_outside.specs.declared.pair.Pair.{Pair}
use Rattle.dr_outside.specs.declared.pair.Half.{Half}
use Rattle.dr_outside.specs.declared.array.ArrayCall.{ArrayCall}
use Rattle.dr_outside.specs.declared.array.ArrayCall.TheVariants.{Sync, TestStart, TestStop, Prepare, Failover, Reverse}
use Rattle.dr_outside.specs.declared.array.ArrayFail.{ArrayFail}
use Rattle.dr_outside.specs.declared.array.ArrayFail.TheVariants.{Failed, Wrong}
use Rattle.dr_outside.specs.BySide.{at}
use Rattle.dr_outside.specs.Pairs.{Drift, Made, is_fit, made, may_fail, half, target}
use Rattle.dr_base.specs.Lists.{has}
use Rattle.dr_outside.specs.Arrays.{ArrayStep, SomeDone, EachStep, IsWrong, IsFirstUnfit, has_part}
use Rattle.dr_outside.specs.PairLists.{pair_at}
use Rattle.dr_outside.proofs.Drifts.{Drift-refl}
use Rattle.dr_sim.specs.declared.faults.ArrayFault.{ArrayFault}
use Rattle.dr_sim.specs.Arrays.{SimArrayState, state_of, pair_before, parts_of, first_side, spent_side, list_fault, are_fit, is_done, Makes, MakesAll, ListEnds, ListStep}
use Rattle.dr_sim.specs.Faults.{listed_at}
use Rattle.dr_sim.specs.Groups.{least_of, groups_of}
use Rattle.dr_sim.specs.Meters.{is_spent, next_call}

or_true : (b : Bool) → (b || true) ≡ true
or_true true = refl
or_true false = refl

-- a pair that drifts is as a call needs it, or isn't, as before
pub fit_before : (call : ArrayCall) (p q : Pair) → Drift p q → is_fit call q ≡ is_fit call p
fit_before call p q d =
    let source : q.source ≡ p.source = ap (λ f. f.source) d.frame in
    let link : q.link ≡ p.link = ap (λ f. f.link) d.frame in
    let writable : q.writable ≡ p.writable = ap (λ f. f.writable) d.frame in
    same_fit call p q source link writable d.snapshot
  where
    same_fit : (call : ArrayCall) (p q : Pair) → q.source ≡ p.source → q.link ≡ p.link → q.writable ≡ p.writable → q.snapshot ≡ p.snapshot → is_fit call q ≡ is_fit call p
    same_fit Sync p q s l w n = rw l refl
    same_fit (TestStart run) p q s l w n = rw (l, n) refl
    same_fit TestStop p q s l w n = rw n refl
    same_fit Prepare p q s l w n = rw (s, w) refl
    same_fit (Failover run) p q s l w n = rw (s, l, w) refl
    same_fit Reverse p q s l w n = rw (s, l, w) refl

-- each pair of a list that is fit is fit
listed_fit : (call : ArrayCall) (list : List ℕ) (pair : ℕ → Pair) → are_fit call list pair ≡ true → (i : ℕ) → has list i ≡ true → is_fit call (pair i) ≡ true
listed_fit call [] pair fit i h = absurd (true≢false (sym h))
listed_fit call (k ∷ rest) pair fit i h =
    elim (cases_Bool (is_fit call (pair k))) [
      | inr unfit ↦ absurd (true≢false (sym (rw unfit at fit)))
      | inl this ↦ elim (cases_Bool (k == i)) [
        | inl same ↦ rw (sym (eqb-true k i same)) this
        | inr apart ↦ listed_fit call rest pair (rw this at fit) i (rw apart at h)
      ]
    ]

-- a list of pairs that are all fit
pub all_fit : (call : ArrayCall) (list : List ℕ) (pair : ℕ → Pair) → ((j : ℕ) → has list j ≡ true → is_fit call (pair j) ≡ true) → are_fit call list pair ≡ true
all_fit call [] pair fit = refl
all_fit call (k ∷ rest) pair fit = rw (fit k (rw (eq-eqb k k refl) refl)) (all_fit call rest pair (λ j h. fit j (rw h (or_true _))))

-- a list with a pair that isn't fit
pub not_all_fit : (call : ArrayCall) (list : List ℕ) (pair : ℕ → Pair) (k : ℕ) → has list k ≡ true → is_fit call (pair k) ≡ false → are_fit call list pair ≡ false
not_all_fit call list pair k listed unfit = elim (cases_Bool (are_fit call list pair)) [
  | inl fit ↦ absurd (true≢false (sym (listed_fit call list pair fit k listed) ∙ unfit))
  | inr not_fit ↦ not_fit
]

-- they are all fit, or not, by the first that isn't
pub fit_by : (call : ArrayCall) (list : List ℕ) (pair : ℕ → Pair) (found : Option ℕ) → MatchOption found ((j : ℕ) → has list j ≡ true → is_fit call (pair j) ≡ true) (λ k. IsFirstUnfit call list pair k) → are_fit call list pair ≡ not (is_some found)
fit_by call list pair None fit = all_fit call list pair fit
fit_by call list pair (Some k) first = not_all_fit call list pair k first.listed first.unfit

-- where one isn't fit, none is made
pub none_made : (call : ArrayCall) (list : List ℕ) (group : ℕ → ℕ) (pair : ℕ → Pair) (groups : ℕ) → are_fit call list pair ≡ false → Makes call (is_done call list group pair groups) pair pair
none_made call list group pair groups not_fit i = rw not_fit refl

-- where all are, those of the first groups are made, as they are marked
pub marked_made : (call : ArrayCall) (list : List ℕ) (group : ℕ → ℕ) (pair new : ℕ → Pair) (groups : ℕ) (marks : ℕ → Bool) → are_fit call list pair ≡ true → ((k : ℕ) → has list k ≡ true → marks (group k) ≡ has (take groups (groups_of group list)) (group k)) → Makes call (λ i. has list i && marks (group i)) pair new → Makes call (is_done call list group pair groups) pair new
marked_made call list group pair new groups marks fit marked makes i = elim (cases_Bool (has list i)) [
  | inl is ↦ makes i ∙ rw (fit, is, marked i is) refl
  | inr isnt ↦ makes i ∙ rw (fit, isnt) refl
]

-- a pair that is made at once, after its drift
made_now : (call : ArrayCall) (old was new : Pair) → Drift old was → is_fit call was ≡ true → new ≡ made call was → Made call old new
made_now call old was new d fit is = record {
  fit = sym (fit_before call old was d) ∙ fit;
  moment = was;
  before = d;
  after = subst (λ (x : Pair). Drift (made call was) x) (sym is) (Drift-refl (made call was));
}

drifts_to : (old was new : Pair) → Drift old was → new ≡ was → Drift old new
drifts_to old was new d is = subst (λ (x : Pair). Drift old x) (sym is) d

-- the pairs that pass a test are made, and each is as the call needs it
each_step : (call : ArrayCall) (test : ℕ → Bool) (old was new : ℕ → Pair) → ((i : ℕ) → Drift (old i) (was i)) → ((i : ℕ) → test i ≡ true → is_fit call (was i) ≡ true) → Makes call test was new → EachStep call test old new
each_step call test old was new d fit makes i =
    elim (cases_Bool (test i)) [
      | inl is ↦ rw is (made_now call (old i) (was i) (new i) (d i) (fit i is) (rw is at (makes i)))
      | inr isnt ↦ rw isnt (drifts_to (old i) (was i) (new i) (d i) (rw isnt at (makes i)))
    ]

-- the first pair that isn't as the call needs it
first_before : (call : ArrayCall) (list : List ℕ) (old was : ℕ → Pair) (k : ℕ) → ((i : ℕ) → Drift (old i) (was i)) → IsFirstUnfit call list was k → IsFirstUnfit call list old k
first_before call list old was k d first = record {
  listed = first.listed;
  unfit = sym (fit_before call (old k) (was k) (d k)) ∙ first.unfit;
  least = λ j h below. sym (fit_before call (old j) (was j) (d j)) ∙ first.least j h below;
}

wrong_step : (call : ArrayCall) (list : List ℕ) (old was new : ℕ → Pair) (k : ℕ) (seen : Half) → ((i : ℕ) → Drift (old i) (was i)) → IsFirstUnfit call list was k → seen ≡ half (target (was k)) (was k) → ((i : ℕ) → new i ≡ was i) → IsWrong call list old new k seen
wrong_step call list old was new k seen d first is same =
    let source : (was k).source ≡ (old k).source = ap (λ f. f.source) (d k).frame in
    record {
      first = first_before call list old was k d first;
      read = record {
        moment = was k;
        before = d k;
        after = subst (λ (x : Pair). Drift (was k) x) (sym (same k)) (Drift-refl (was k));
        seen = is ∙ ap (λ s. half (other s) (was k)) source;
      };
      others = λ i. drifts_to (old i) (was i) (new i) (d i) (same i);
    }

none_is_no_some : (fault : Side × ℕ) → None ≡ Some fault → ⊥
none_is_no_some fault e = true≢false (ap (λ (o : Option (Side × ℕ)). not (is_some o)) e)

some_is : (a b : Side × ℕ) → Some a ≡ Some b → a ≡ b
some_is a b e = cc

and_second : (a b : Bool) → (a && b) ≡ true → b ≡ true
and_second true b h = h
and_second false b h = absurd (true≢false (sym h))

-- a listed fault is at a side that has a part in its call
listed_part : (number : ℕ) (parts : Sides Bool) (faults : List ArrayFault) (fault : Side × ℕ) → listed_at number parts faults ≡ Some fault → at fault.0 parts ≡ true
listed_part number parts [] fault e = absurd (none_is_no_some fault e)
listed_part number parts (one ∷ rest) fault e =
    elim (cases_Bool ((one.call == number) && at one.side parts)) [
      | inl its ↦
          let found : Some (one.side, one.done) ≡ Some fault = rw its at e in
          rw (sym (ap (λ f. f.0) (some_is (one.side, one.done) fault found))) (and_second (one.call == number) (at one.side parts) its)
      | inr other ↦ listed_part number parts rest fault (rw other at e)
    ]

same_side_refl : (s : Side) → same_side s s ≡ true
same_side_refl A = refl
same_side_refl B = refl

first_may_fail : (call : ArrayCall) (p : Pair) → may_fail call p (first_side call p) ≡ true
first_may_fail Sync p = refl
first_may_fail (TestStart run) p = same_side_refl (target p)
first_may_fail TestStop p = same_side_refl (target p)
first_may_fail Prepare p = same_side_refl p.source
first_may_fail (Failover run) p = same_side_refl (target p)
first_may_fail Reverse p = refl

part_at : (call : ArrayCall) (k : ℕ) (rest : List ℕ) (pair : ℕ → Pair) (s : Side) → at s (parts_of call (k ∷ rest) pair) ≡ may_fail call (pair k) s
part_at call k rest pair A = refl
part_at call k rest pair B = refl

-- and so is the side of a spent fuse
spent_part : (call : ArrayCall) (list : List ℕ) (pair : ℕ → Pair) → at (spent_side call list pair) (parts_of call list pair) ≡ true
spent_part call [] pair = refl
spent_part call (k ∷ rest) pair = part_at call k rest pair (first_side call (pair k)) ∙ first_may_fail call (pair k)

part_is : (call : ArrayCall) (list : List ℕ) (pair : ℕ → Pair) (s : Side) → at s (parts_of call list pair) ≡ true → has_part call list pair s ≡ true
part_is call [] pair s h = refl
part_is call (k ∷ rest) pair s h = rw (sym (part_at call k rest pair s) ∙ h) (or_true _)

-- a call fails at a side that has a part in it
fault_part : (call : ArrayCall) (list : List ℕ) (array : SimArrayState) (fault : Side × ℕ) → list_fault call list array ≡ Some fault → has_part call list (pair_at array.pairs) fault.0 ≡ true
fault_part call list array fault e = part_is call list (pair_at array.pairs) fault.0 (go (is_spent array.meter.fuse) refl)
  where
    go : (spent : Bool) → is_spent array.meter.fuse ≡ spent → at fault.0 (parts_of call list (pair_at array.pairs)) ≡ true
    go true s =
        let found : Some (spent_side call list (pair_at array.pairs), 0) ≡ Some fault = rw s at e in
        rw (sym (ap (λ f. f.0) (some_is (spent_side call list (pair_at array.pairs), 0) fault found))) (spent_part call list (pair_at array.pairs))
    go false s = listed_part (next_call array.meter) (parts_of call list (pair_at array.pairs)) array.faults fault (rw s at e)

and_first : (a b : Bool) → (a && b) ≡ true → a ≡ true
and_first true b h = refl
and_first false b h = absurd (true≢false (sym h))

-- a call that fails after some groups
some_done : (call : ArrayCall) (list : List ℕ) (side : Side) (groups : ℕ) (group : ℕ → ℕ) (old was new : ℕ → Pair) → ((i : ℕ) → Drift (old i) (was i)) → has_part call list old side ≡ true → Makes call (is_done call list group was groups) was new → SomeDone call list side group old new
some_done call list side groups group old was new d part makes =
    let done : ℕ → Bool = λ g. are_fit call list was && has (take groups (groups_of group list)) g in
    record {
      done = done;
      each = each_step call (λ i. has list i && done (group i)) old was new d (λ i h. fits i h) (λ i. makes i ∙ ap (λ b. if b then made call (was i) else was i) (turn (are_fit call list was) (has list i) _));
      fit = λ i j a b c. sym (fit_before call (old j) (was j) (d j)) ∙ listed_fit call list was (and_first _ _ b) j c;
      part = part;
    }
  where
    turn : (a b c : Bool) → (a && (b && c)) ≡ (b && (a && c))
    turn true true c = refl
    turn true false c = refl
    turn false true c = refl
    turn false false c = refl

    fits : (i : ℕ) → (has list i && (are_fit call list was && has (take groups (groups_of group list)) (group i))) ≡ true → is_fit call (was i) ≡ true
    fits i h = split (has list i) (are_fit call list was) refl refl
      where
        split : (l f : Bool) → has list i ≡ l → are_fit call list was ≡ f → is_fit call (was i) ≡ true
        split true true l f = listed_fit call list was f i l
        split true false l f = absurd (true≢false (sym (rw (l, f) at h)))
        split false f_is l f = absurd (true≢false (sym (rw l at h)))

-- a call on a list, by its fault
pub list_step : (call : ArrayCall) (list : List ℕ) (old new : SimArrayState) (result : Result (Unit {0}) ArrayFail) → ((i : ℕ) → Drift (pair_at old.pairs i) (pair_before old i)) → ListStep call list old new result → ArrayStep call list (state_of old) (state_of new) result
list_step call list old new result d step = go (list_fault call list old) refl step.ends
  where
    whole : (result : Result (Unit {0}) ArrayFail) → MakesAll call list (pair_before old) (pair_at new.pairs) result → ArrayStep call list (state_of old) (state_of new) result
    whole (Ok x) m = each_step call (has list) (pair_at old.pairs) (pair_before old) (pair_at new.pairs) d (listed_fit call list (pair_before old) m.0) m.1
    whole (Err (Wrong k seen)) m = wrong_step call list (pair_at old.pairs) (pair_before old) (pair_at new.pairs) k seen d m.0 m.1 m.2
    whole (Err (Failed side)) m = absurd m

    go : (fault : Option (Side × ℕ)) → list_fault call list old ≡ fault → ListEnds fault call list old new result → ArrayStep call list (state_of old) (state_of new) result
    go (Some fault) e m = rw m.0 (some_done call list fault.0 fault.1 (least_of old.entries) (pair_at old.pairs) (pair_before old) (pair_at new.pairs) d (fault_part call list old fault e) m.1)
    go None e m = whole result m.0
