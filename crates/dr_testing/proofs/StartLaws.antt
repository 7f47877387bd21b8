-- Machine by machine: what trying the machines of one wave leaves so far.
use Rattle.std.proofs.Common.{◌≡◌, ◌≢◌, ℕ, ◌+◌, ◌≤◌, ◌<◌, inl, inr, Bool, true, false, List, length, take, get_or, refl, sym, ◌∙◌, ap, subst, arith, ◌||◌, length-take, get_or-take}
use Rattle.std.proofs.lemmas.Bool.{false≢true, cases_eq, le-ltb, lt-ltb, eq-eqb, ne_eqb}
use Rattle.std.specs.List.Sorted.{IsStrictlyIncreasing}
use Rattle.std.specs.Prelude.{Result, Ok, Err, Option, Some, None, IfSome, nat_lt}
use Rattle.dr_base.specs.declared.side.Side.TheVariants.{B}
use Rattle.dr_base.specs.declared.placement.Placement.{Placement}
use Rattle.dr_base.specs.Causes.{Rose}
use Rattle.dr_outside.specs.declared.machine.Post.TheVariants.{Placeholder, Ready}
use Rattle.dr_base.specs.Lists.{has}
use Rattle.dr_outside.specs.Machines.{PortState}
use Rattle.dr_outside.proofs.Listed.{mono, place_of, not_yet, has_more, has_at}
use Rattle.dr_meaning.specs.Testing.{in_bubble}
use Rattle.dr_testing.specs.declared.start_up.RefusedMachine.{RefusedMachine}
use Rattle.dr_testing.specs.declared.start_up.StartFail.{StartFail}
use Rattle.dr_testing.specs.declared.start_up.StartFail.TheVariants.{Failed, Refused}
use Rattle.dr_testing.specs.Starts.{NoneFalls, ChangesAtB, StartStep, StartCause, StartTold, ToldRefusal, WaveStep, Tried, EachPlaceholder, WerePlaceholders, IsFailedMachine, IsRefusedMachine, IsToldMachine, is_before, is_unrefused, failed_after, refused_after}

-- a later count that rose from one that didn't fall
pub rose_later : (a b c : ℕ) → a ≤ b → Rose b c → Rose a c
rose_later a b c le rose = omega (arith, le, rose)

-- a rise stays one while the count doesn't fall
pub rose_still : (a b c : ℕ) → Rose a b → b ≤ c → Rose a c
rose_still a b c rose le = omega (arith, rose, le)

-- one machine was started, and the others weren't touched
pub record StartsAt (tells : Type 0) (place : Placement) (i : ℕ) (before after : ℕ → PortState) (result : Result (Unit {0}) StartFail) : Type 0 where
  pub later : NoneFalls (before i) (after i)
  pub cause : StartCause place (before i) (after i) result
  pub told : tells → StartTold (before i).post.b result
  pub elsewhere : tells → ChangesAtB (before i) (after i)
  pub step : tells → (before i).post.b ≡ Placeholder → StartStep (in_bubble place) (after i).post.b result
  pub others : (j : ℕ) → j ≢ i → after j ≡ before j

-- a machine among the first of a wave
pub record IsAmong (wave : List ℕ) (n : ℕ) (machine : ℕ) : Type 0 where
  pub at : ℕ
  pub early : at < n
  pub is : get_or wave at 0 ≡ machine

-- so many machines of a wave were tried
pub record TriedUpTo (wave : List ℕ) (place : ℕ → Placement) (tells : Type 0) (initial : ℕ → PortState) (n : ℕ) (first_failed : Option ℕ) (first_refused : Option RefusedMachine) (now : ℕ → PortState) : Type 0 where
  pub later : (j : ℕ) → NoneFalls (initial j) (now j)
  pub elsewhere : tells → (j : ℕ) → ChangesAtB (initial j) (now j)
  pub others : (j : ℕ) → has (take n wave) j ≡ false → now j ≡ initial j
  pub failed : IfSome first_failed (IsFailedMachine wave initial now)
  pub first : IfSome first_failed (IsAmong wave n)
  pub refused : IfSome first_refused (IsRefusedMachine wave place)
  pub told : tells → IfSome first_refused (IsToldMachine initial)
  pub among : IfSome first_refused (λ r. IsAmong wave n r.machine)
  pub passed : tells → WerePlaceholders (take n wave) first_failed first_refused initial
  pub step : tells → EachPlaceholder wave initial → (j : ℕ) → WaveStep (has (take n wave) j) (is_before first_failed j) (in_bubble (place j)) (initial j) (now j)
  pub only_failed : tells → EachPlaceholder wave initial → first_refused ≡ None

or_true : (b : Bool) → (b || true) ≡ true
or_true true = refl
or_true false = refl

or_false : (b : Bool) → (b || false) ≡ b
or_false true = refl
or_false false = refl

-- none was tried
pub none_tried : (wave : List ℕ) (place : ℕ → Placement) (tells : Type 0) (initial : ℕ → PortState) → TriedUpTo wave place tells initial 0 None None initial
none_tried wave place tells initial = record {
  later = λ j side. omega arith;
  elsewhere = λ t j. record { protected = refl; kept = refl };
  others = λ j l. refl;
  failed = tt;
  first = tt;
  refused = tt;
  told = λ t. tt;
  among = tt;
  passed = λ t e j l u. absurd (false≢true l);
  step = λ t p j. refl;
  only_failed = λ t p. refl;
}

module _ (wave : List ℕ) (rises : IsStrictlyIncreasing wave) (place : ℕ → Placement) (tells : Type 0) (initial : ℕ → PortState) (n : ℕ) (within : n < length wave) (i : ℕ) (at : get_or wave n 0 ≡ i) where
  -- the machine is of the wave, and none before it is the same
  is : has wave i ≡ true
  is = subst (λ k. has wave k ≡ true) at (has_at wave n within)

  is_new : has (take n wave) i ≡ false
  is_new = subst (λ k. has (take n wave) k ≡ false) at (not_yet wave rises n within)

  listed_now : has (take (n + 1) wave) i ≡ true
  listed_now = has_more wave n i within ∙ ap (λ b. has (take n wave) i || b) (eq-eqb _ _ at) ∙ or_true _

  listed_as_before : (j : ℕ) → j ≢ i → has (take (n + 1) wave) j ≡ has (take n wave) j
  listed_as_before j other = has_more wave n j within ∙ ap (λ b. has (take n wave) j || b) (ne_eqb _ _ (λ e. other (sym e ∙ at))) ∙ or_false _

  -- one among the first is below this one
  among_below : (m : ℕ) → IsAmong wave n m → m < i
  among_below m a = omega (arith, mono wave rises a.at n a.early within, a.is, at)

  listed_below : (j : ℕ) → has (take n wave) j ≡ true → j < i
  listed_below j l =
      let p : (k : ℕ) × (k < length (take n wave)) × (get_or (take n wave) k 0 ≡ j) = place_of (take n wave) j l in
      let early : p.0 < n = omega (arith, p.1, length-take n wave) in
      among_below j (record { at = p.0; early = early; is = sym (get_or-take n wave p.0 0 early) ∙ p.2 })

  module _ (failed : Option ℕ) (refused : Option RefusedMachine) (before after : ℕ → PortState) (s : TriedUpTo wave place tells initial n failed refused before) where
    was_initial : before i ≡ initial i
    was_initial = s.others i is_new

    -- what holds of the machine that was started and of each other one holds of each
    each : (P : ℕ → PortState → Type 0) (result : Result (Unit {0}) StartFail) → StartsAt tells (place i) i before after result → P i (after i) → ((j : ℕ) → j ≢ i → P j (before j)) → (j : ℕ) → P j (after j)
    each P result a here there j = elim (cases_eq j i) [
      | inl e ↦ subst (λ k. P k (after k)) (sym e) here
      | inr ne ↦ subst (λ m. P j m) (sym (a.others j ne)) (there j ne)
    ]

    later_more : (result : Result (Unit {0}) StartFail) → StartsAt tells (place i) i before after result → (j : ℕ) → NoneFalls (initial j) (after j)
    later_more result a = each (λ j m. NoneFalls (initial j) m) result a (λ side. omega (arith, s.later i side, a.later side)) (λ j ne. s.later j)

    elsewhere_more : (result : Result (Unit {0}) StartFail) → StartsAt tells (place i) i before after result → tells → (j : ℕ) → ChangesAtB (initial j) (after j)
    elsewhere_more result a t = each (λ j m. ChangesAtB (initial j) m) result a
        (let one : ChangesAtB (before i) (after i) = a.elsewhere t in
        let so_far : ChangesAtB (initial i) (before i) = s.elsewhere t i in
        record { protected = one.protected ∙ so_far.protected; kept = one.kept ∙ so_far.kept })
        (λ j ne. s.elsewhere t j)

    others_more : (result : Result (Unit {0}) StartFail) → StartsAt tells (place i) i before after result → (j : ℕ) → has (take (n + 1) wave) j ≡ false → after j ≡ initial j
    others_more result a = each (λ j m. has (take (n + 1) wave) j ≡ false → m ≡ initial j) result a (λ isnt. cc (listed_now, isnt)) (λ j ne isnt. s.others j (sym (listed_as_before j ne) ∙ isnt))

    -- a machine that failed before has its cause still
    still_failed : (result : Result (Unit {0}) StartFail) → StartsAt tells (place i) i before after result → (m : ℕ) → IsFailedMachine wave initial before m → IsFailedMachine wave initial after m
    still_failed result a m f = record {
      listed = f.listed;
      rose = elim (cases_eq m i) [
        | inl e ↦ rose_still _ _ _ f.rose (subst (λ k. (before k).faults B ≤ (after k).faults B) (sym e) (a.later B))
        | inr ne ↦ rw (a.others m ne) f.rose
      ];
    }

    -- the machine that was started failed now
    now_failed : StartsAt tells (place i) i before after (Err Failed) → IsFailedMachine wave initial after i
    now_failed a = record { listed = is; rose = rose_later _ _ _ (s.later i B) a.cause }

    failed_more : (f : Option ℕ) (result : Result (Unit {0}) StartFail) → StartsAt tells (place i) i before after result → IfSome f (IsFailedMachine wave initial before) → IfSome (failed_after f i result) (IsFailedMachine wave initial after)
    failed_more None (Ok _) a h = tt
    failed_more (Some m) (Ok _) a h = still_failed (Ok _) a m h
    failed_more None (Err Failed) a h = now_failed a
    failed_more (Some m) (Err Failed) a h = still_failed (Err Failed) a m h
    failed_more None (Err (Refused want found)) a h = tt
    failed_more (Some m) (Err (Refused want found)) a h = still_failed (Err (Refused want found)) a m h

    further : (m : ℕ) → IsAmong wave n m → IsAmong wave (n + 1) m
    further m a = record { at = a.at; early = omega (arith, a.early); is = a.is }

    first_more : (f : Option ℕ) (result : Result (Unit {0}) StartFail) → IfSome f (IsAmong wave n) → IfSome (failed_after f i result) (IsAmong wave (n + 1))
    first_more None (Ok _) h = tt
    first_more (Some m) (Ok _) h = further m h
    first_more None (Err Failed) h = record { at = n; early = omega arith; is = at }
    first_more (Some m) (Err Failed) h = further m h
    first_more None (Err (Refused want found)) h = tt
    first_more (Some m) (Err (Refused want found)) h = further m h

    refused_more : (r : Option RefusedMachine) (result : Result (Unit {0}) StartFail) → StartsAt tells (place i) i before after result → IfSome r (IsRefusedMachine wave place) → IfSome (refused_after r i result) (IsRefusedMachine wave place)
    refused_more None (Ok _) a h = tt
    refused_more (Some m) (Ok _) a h = h
    refused_more None (Err Failed) a h = tt
    refused_more (Some m) (Err Failed) a h = h
    refused_more None (Err (Refused want found)) a h = record { listed = is; codes = a.cause }
    refused_more (Some m) (Err (Refused want found)) a h = h

    told_more : (r : Option RefusedMachine) (result : Result (Unit {0}) StartFail) → StartsAt tells (place i) i before after result → tells → IfSome r (IsToldMachine initial) → IfSome (refused_after r i result) (IsToldMachine initial)
    told_more None (Ok _) a t h = tt
    told_more (Some m) (Ok _) a t h = h
    told_more None (Err Failed) a t h = tt
    told_more (Some m) (Err Failed) a t h = h
    told_more None (Err (Refused want found)) a t h = subst (λ (m : PortState). ToldRefusal m.post.b want found) was_initial (a.told t)
    told_more (Some m) (Err (Refused want found)) a t h = h

    among_more : (r : Option RefusedMachine) (result : Result (Unit {0}) StartFail) → IfSome r (λ r. IsAmong wave n r.machine) → IfSome (refused_after r i result) (λ r. IsAmong wave (n + 1) r.machine)
    among_more None (Ok _) h = tt
    among_more (Some m) (Ok _) h = further m.machine h
    among_more None (Err Failed) h = tt
    among_more (Some m) (Err Failed) h = further m.machine h
    among_more None (Err (Refused want found)) h = record { at = n; early = omega arith; is = at }
    among_more (Some m) (Err (Refused want found)) h = further m.machine h

    some_none : (m : ℕ) → (Some m) ≡ None → ⊥
    some_none m e = cc e

    -- the machine that was started was a placeholder, where none failed and it comes before the first refused one
    passed_here : (f : Option ℕ) (r : Option RefusedMachine) (result : Result (Unit {0}) StartFail) → StartsAt tells (place i) i before after result → tells → IfSome r (λ r. IsAmong wave n r.machine) → failed_after f i result ≡ None → is_unrefused (refused_after r i result) i ≡ true → (initial i).post.b ≡ Placeholder
    passed_here f r (Ok u) a t h e u' = subst (λ (m : PortState). m.post.b ≡ Placeholder) was_initial (a.told t)
    passed_here f r (Err Failed) a t h e u' = absurd (some_none _ e)
    passed_here f None (Err (Refused want found)) a t h e u' = absurd (false≢true (sym (le-ltb i i (omega arith)) ∙ u'))
    passed_here f (Some m) (Err (Refused want found)) a t h e u' = absurd (false≢true (sym (le-ltb i m.machine (omega (arith, among_below m.machine h))) ∙ u'))

    -- the same of one that was started before
    passed_there : (f : Option ℕ) (r : Option RefusedMachine) (result : Result (Unit {0}) StartFail) (j : ℕ) → WerePlaceholders (take n wave) f r initial → has (take n wave) j ≡ true → failed_after f i result ≡ None → is_unrefused (refused_after r i result) j ≡ true → (initial j).post.b ≡ Placeholder
    passed_there f r (Ok u) j w l e u' = w e j l u'
    passed_there f r (Err Failed) j w l e u' = absurd (some_none _ e)
    passed_there f None (Err (Refused want found)) j w l e u' = w e j l refl
    passed_there f (Some m) (Err (Refused want found)) j w l e u' = w e j l u'

    -- where each machine of the wave was a placeholder
    module _ (t : tells) (placeholders : EachPlaceholder wave initial) where
      was_placeholder : (before i).post.b ≡ Placeholder
      was_placeholder = rw was_initial (placeholders i is)

      started : (result : Result (Unit {0}) StartFail) → StartsAt tells (place i) i before after result → StartStep (in_bubble (place i)) (after i).post.b result
      started result a = a.step t was_placeholder

      tried_failing : StartsAt tells (place i) i before after (Err Failed) → Tried (in_bubble (place i)) (initial i) (after i)
      tried_failing a = record { stands = started (Err Failed) a; outcome = inr (now_failed a).rose }

      step_here : (f : Option ℕ) (result : Result (Unit {0}) StartFail) → StartsAt tells (place i) i before after result → IfSome f (IsAmong wave n) → WaveStep true (is_before (failed_after f i result) i) (in_bubble (place i)) (initial i) (after i)
      step_here None (Ok u) a h = started (Ok u) a
      step_here None (Err Failed) a h =
          let not_before : nat_lt i i ≡ false = le-ltb i i (omega arith) in
          rw not_before (tried_failing a)
      step_here None (Err (Refused want found)) a h = absurd (started (Err (Refused want found)) a)
      step_here (Some m) (Ok u) a h =
          let not_before : nat_lt i m ≡ false = le-ltb i m (omega (arith, among_below m h)) in
          let ready : (after i).post.b ≡ Ready (in_bubble (place i)) = started (Ok u) a in
          rw not_before (record { stands = inr (inr (inr ready)); outcome = inl ready })
      step_here (Some m) (Err Failed) a h =
          let not_before : nat_lt i m ≡ false = le-ltb i m (omega (arith, among_below m h)) in
          rw not_before (tried_failing a)
      step_here (Some m) (Err (Refused want found)) a h = absurd (started (Err (Refused want found)) a)

      step_there : (f : Option ℕ) (result : Result (Unit {0}) StartFail) (j : ℕ) (b : Bool) → has (take n wave) j ≡ b → WaveStep b (is_before f j) (in_bubble (place j)) (initial j) (before j) → WaveStep b (is_before (failed_after f i result) j) (in_bubble (place j)) (initial j) (before j)
      step_there f result j false l w = w
      step_there None (Ok u) j true l w = w
      step_there None (Err Failed) j true l w = let is_earlier : nat_lt j i ≡ true = lt-ltb j i (listed_below j l) in rw is_earlier w
      step_there None (Err (Refused want found)) j true l w = w
      step_there (Some m) (Ok u) j true l w = w
      step_there (Some m) (Err Failed) j true l w = w
      step_there (Some m) (Err (Refused want found)) j true l w = w

      only_failed_more : (r : Option RefusedMachine) (result : Result (Unit {0}) StartFail) → StartsAt tells (place i) i before after result → r ≡ None → refused_after r i result ≡ None
      only_failed_more r (Ok _) a e = e
      only_failed_more r (Err Failed) a e = e
      only_failed_more r (Err (Refused want found)) a e = absurd (started (Err (Refused want found)) a)

    -- one more machine was tried
    pub try : (result : Result (Unit {0}) StartFail) → StartsAt tells (place i) i before after result → TriedUpTo wave place tells initial (n + 1) (failed_after failed i result) (refused_after refused i result) after
    try result a = record {
      later = later_more result a;
      elsewhere = elsewhere_more result a;
      others = others_more result a;
      failed = failed_more failed result a s.failed;
      first = first_more failed result s.first;
      refused = refused_more refused result a s.refused;
      told = λ t. told_more refused result a t (s.told t);
      among = among_more refused result s.among;
      passed = λ t e j l u. elim (cases_eq j i) [
        | inl same ↦ rw same (passed_here failed refused result a t s.among e (rw same at u))
        | inr ne ↦ passed_there failed refused result j (s.passed t) (sym (listed_as_before j ne) ∙ l) e u
      ];
      step = λ t p j. elim (cases_eq j i) [
        | inl e ↦ rw (e, listed_now) (step_here t p failed result a s.first)
        | inr ne ↦ rw (a.others j ne, listed_as_before j ne) (step_there t p failed result j (has (take n wave) j) refl (s.step t p j))
      ];
      only_failed = λ t p. only_failed_more t p refused result a (s.only_failed t p);
    }
