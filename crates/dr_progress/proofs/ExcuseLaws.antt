-- A run's progress behind one more Skip or Aside: a machine, or all pairs, are excused in the last visit of the begun stage.
use Rattle.std.specs.Prelude.{◌≡◌, ◌≢◌, ℕ, ◌+◌, ◌<◌, ◌≤◌, ◌==◌, ◌⊎◌, Bool, true, false, ◌||◌, List, ◌∷◌, Option, Some, None, IfSome, cond, length}
use Rattle.std.proofs.Common.{refl, sym, ◌∙◌, ap, inl, inr, arith}
use Rattle.std.proofs.lemmas.Bool.{eq-eqb, ne_eqb, cases_eq}
use Rattle.dr_meaning.specs.Types.{Record}
use Rattle.dr_meaning.specs.Visits.{visits, excuse, last_visit, is_excused, open_stage}
use Rattle.dr_meaning.specs.Next.{begun_since_attempt}
use Rattle.dr_progress.specs.declared.facts.Facts.{Facts}
use Rattle.dr_progress.specs.declared.facts.LastVisit.{LastVisit}
use Rattle.dr_progress.specs.declared.progress.Progress.{Progress}
use Rattle.dr_progress.specs.Facts.{excuse_at, visit_at, PutsExcuse, PutsVisit}
use Rattle.dr_progress.specs.Progress.{is_at, is_last, is_still, is_excused_at, asides_in, asides_of, asides_at, was_done, is_due, KeepsStages, KeepsExcuses, KeepsDue, IsBegunWhen, Keeps}
use Rattle.dr_progress.proofs.FactLaws.{excuses_stay, visits_stay, answers_stay, codes_stay}
use Rattle.dr_progress.proofs.VisitLaws.{last_of, excuse_keeps_done, excuse_keeps_begun, excuse_other, excuse_here}

-- the progress with other Skips and Asides
abbrev pub excused_to : Progress → ℕ → ℕ → Bool → Option ℕ → Progress
excused_to p skips left has_asides last = record p { skips = skips; left = left; has_asides = has_asides; last_aside = last }

module _ (p : Progress) (log : List Record) (stage : ℕ) (is : p.begun ≡ Some stage) (k : KeepsStages p log) where
  pub log_begun : open_stage (visits log) ≡ Some stage
  log_begun = sym k.begun ∙ is

  -- a stage that isn't begun is another one
  pub apart_from : (j : ℕ) → is_at p.begun j ≡ false → stage == j ≡ false
  apart_from j free = rw is at free

  pub begun_is : (j : ℕ) → is_at p.begun j ≡ true → stage ≡ j
  begun_is j own = go (cases_eq stage j)
    where
      go : (stage ≡ j) ⊎ (stage ≡ j → ⊥) → stage ≡ j
      go (inl same) = same
      go (inr ne) = absurd (let other : stage == j ≡ false = ne_eqb stage j ne in let there : stage == j ≡ true = rw is at own in cc)

  -- the stages, behind a record that excuses a machine
  pub stages_excused : (machine : ℕ) (item : Record) → visits (item ∷ log) ≡ excuse machine (visits log) → ((j : ℕ) → was_done (item ∷ log) j ≡ was_done log j) → (skips left : ℕ) (has_asides : Bool) (last : Option ℕ) → KeepsStages (excused_to p skips left has_asides last) (item ∷ log)
  stages_excused machine item e same_done skips left has_asides last = record {
    begun = k.begun ∙ sym (ap (λ vs. open_stage vs) e ∙ excuse_keeps_begun machine (visits log));
    next = k.next;
    done = λ j least most free. rw e (excuse_keeps_done j machine (visits log) ∙ k.done j least most free);
    unvisited = λ j never. rw e (excuse_other stage j machine (apart_from j never.1) (visits log) log_begun ∙ k.unvisited j never);
    done_once = λ j done. k.done_once j (sym (same_done j) ∙ done);
    walked_was = λ j least most. same_done j ∙ k.walked_was j least most;
  }

  module _ (old new : Facts) (run machine : ℕ) (item : Record) (e : visits (item ∷ log) ≡ excuse machine (visits log)) (puts : excuse_at new run stage machine ≡ Some p.visits) (elsewhere : (s m : ℕ) → (s ≢ stage) ⊎ (m ≢ machine) → excuse_at new run s m ≡ excuse_at old run s m) (x : KeepsExcuses old run p log) where
    -- what is kept of the last visits stays, or is of the begun stage and says that this is its last
    module _ (others : (j : ℕ) → stage == j ≡ false → visit_at new run j ≡ visit_at old run j) (here : IfSome (visit_at new run stage) (λ last. last.visit ≡ p.visits)) (stays : (visit_at new run stage ≡ None) → visit_at old run stage ≡ None) where
      last_here : (o : Option LastVisit) → IfSome o (λ last. last.visit ≡ p.visits) → is_last p.visits o ≡ true
      last_here None h = refl
      last_here (Some last) h = eq-eqb p.visits last.visit (sym h)

      -- an earlier excuse in the begun stage is judged as before
      judged : (m : ℕ) (a : Option ℕ) (o n : Option LastVisit) → excuse_at old run stage m ≡ a → visit_at old run stage ≡ o → IfSome o (λ last. last.visit ≡ p.visits) → IfSome n (λ last. last.visit ≡ p.visits) → (n ≡ None → o ≡ None) → is_still a o ≡ is_still a n
      judged m None o n ea eo ho hn both = refl
      judged m (Some visit) None None ea eo ho hn both = refl
      judged m (Some visit) None (Some n) ea eo ho hn both = let now : visit ≡ p.visits = x.first stage (rw is (eq-eqb stage stage refl)) eo m visit ea in sym (eq-eqb visit n.visit (now ∙ sym hn))
      judged m (Some visit) (Some o) None ea eo ho hn both = absurd (let none = both refl in cc)
      judged m (Some visit) (Some o) (Some n) ea eo ho hn both = let same : o.visit ≡ n.visit = ho ∙ sym hn in rw same refl

      old_last : IfSome (visit_at old run stage) (λ last. last.visit ≡ p.visits)
      old_last = x.last stage (rw is (eq-eqb stage stage refl))

      told_here : (m : ℕ) → (machine ≡ m) ⊎ (machine ≡ m → ⊥) → (machine == m) || is_excused m (last_of stage (visits log)) ≡ is_excused_at new run stage m
      told_here m (inl same) = rw (← same) (rw (eq-eqb machine machine refl, puts) (sym (last_here (visit_at new run stage) here)))
      told_here m (inr ne) =
          rw (ne_eqb machine m ne)
          (x.told stage m
          ∙ judged m (excuse_at old run stage m) (visit_at old run stage) (visit_at new run stage) refl refl old_last here stays
          ∙ ap (λ a. is_still a (visit_at new run stage)) (sym (elsewhere stage m (inr (λ same. ne (sym same))))))

      told_apart : (j m : ℕ) → (stage ≡ j → ⊥) → is_excused m (last_of j (visits log)) ≡ is_excused_at new run j m
      told_apart j m ne = x.told j m ∙ rw (others j (ne_eqb stage j ne), elsewhere j m (inl (λ same. ne (sym same)))) refl

      told_now : (j m : ℕ) → is_excused m (last_visit j (item ∷ log)) ≡ is_excused_at new run j m
      told_now j m = rw e (go (cases_eq stage j))
        where
          go : (stage ≡ j) ⊎ (stage ≡ j → ⊥) → is_excused m (last_of j (excuse machine (visits log))) ≡ is_excused_at new run j m
          go (inl same) = rw (← same) (excuse_here stage machine m (visits log) log_begun ∙ told_here m (cases_eq machine m))
          go (inr ne) = ap (λ o. is_excused m o) (excuse_other stage j machine (ne_eqb stage j ne) (visits log) log_begun) ∙ told_apart j m ne

      past_now : (j m visit : ℕ) → excuse_at new run j m ≡ Some visit → visit ≤ p.visits
      past_now j m visit ev = go (cases_eq stage j) (cases_eq machine m)
        where
          go : (stage ≡ j) ⊎ (stage ≡ j → ⊥) → (machine ≡ m) ⊎ (machine ≡ m → ⊥) → visit ≤ p.visits
          go (inl same) (inl own) = let there : excuse_at new run j m ≡ Some p.visits = rw (← same, ← own) puts in let is_now : visit ≡ p.visits = cc in omega (arith, is_now)
          go (inr ne) b = x.past j m visit (sym (elsewhere j m (inl (λ same. ne (sym same)))) ∙ ev)
          go (inl same) (inr ne) = x.past j m visit (sym (elsewhere j m (inr (λ own. ne (sym own)))) ∙ ev)

      first_now : (j : ℕ) → is_at p.begun j ≡ true → visit_at new run j ≡ None → (m visit : ℕ) → excuse_at new run j m ≡ Some visit → visit ≡ p.visits
      first_now j own empty m visit ev = go (begun_is j own) (cases_eq machine m)
        where
          go : stage ≡ j → (machine ≡ m) ⊎ (machine ≡ m → ⊥) → visit ≡ p.visits
          go same (inl is_own) = let there : excuse_at new run j m ≡ Some p.visits = rw (← same, ← is_own) puts in cc
          go same (inr ne) =
              let none : visit_at old run j ≡ None = rw (← same) (stays (rw same empty)) in
              x.first j own none m visit (sym (elsewhere j m (inr (λ is_own. ne (sym is_own)))) ∙ ev)

      -- who is excused, behind a record that excuses a machine
      pub excuses_now : (skips left : ℕ) (has_asides : Bool) (last : Option ℕ) → ((j : ℕ) → asides_in j (item ∷ log) ≡ asides_at new run j) → (has_asides ≡ false → (j : ℕ) → asides_at new run j ≡ 0) → KeepsExcuses new run (excused_to p skips left has_asides last) (item ∷ log)
      excuses_now skips left has_asides last counted some = record {
        told = told_now;
        counted = counted;
        past = past_now;
        unvisited = λ j never. let ne : stage == j ≡ false = apart_from j never.1 in (
          others j ne ∙ (x.unvisited j never).0,
          λ m. elsewhere j m (inl (λ same. let own : stage == j ≡ true = eq-eqb stage j (sym same) in cc)) ∙ (x.unvisited j never).1 m,
        );
        last = λ j own. let same : stage ≡ j = begun_is j own in rw same at here;
        first = first_now;
        some = some;
      }

  -- what is due, where machines are set aside in the begun stage alone
  pub due_excused : (old new : Facts) (run : ℕ) (item : Record) (skips left : ℕ) (has_asides : Bool) (last : Option ℕ) → ((j : ℕ) → is_due (item ∷ log) j ≡ is_due log j) → (begun_since_attempt (item ∷ log) stage ≡ begun_since_attempt log stage) → ((j : ℕ) → stage == j ≡ false → asides_at new run j ≡ asides_at old run j) → KeepsDue old run p log → KeepsDue new run (excused_to p skips left has_asides last) (item ∷ log)
  due_excused old new run item skips left has_asides last same_due same_since others d = record {
    due = λ j some free behind within. same_due j ∙ d.due j (still j (apart_from j free) some) free behind within;
    worked = λ j some free outside. same_due j ∙ d.worked j (still j (apart_from j free) some) free outside;
    begun = rw is (at_stage p.since_attempt (rw is at d.begun));
    bounded = d.bounded;
  }
    where
      still : (j : ℕ) → stage == j ≡ false → 0 < asides_at new run j → 0 < asides_at old run j
      still j apart some = let same : asides_at new run j ≡ asides_at old run j = others j apart in omega (arith, same, some)

      at_stage : (b : Bool) → IsBegunWhen old run p.again_after p.again_upto log b stage → IsBegunWhen new run p.again_after p.again_upto (item ∷ log) b stage
      at_stage true b = record {
        since = same_since ∙ b.since;
        first = λ within. ((b.first within).0, λ j some ne behind. (b.first within).1 j (still j (ne_eqb stage j (λ same. ne (sym same))) some) ne behind);
      }
      at_stage false b = record { due = same_due stage ∙ b.due; none = b.none; within = b.within }

-- One more Skip -----------------------------------------------------------------------------------------

pub skip_keeps : (old new : Facts) (run stage machine : ℕ) (p : Progress) (log : List Record) → p.begun ≡ Some stage → PutsExcuse old new run stage machine p.visits → Keeps old run p log → Keeps new run (excused_to p (p.skips + 1) p.left p.has_asides p.last_aside) (Record.Skip run stage machine ∷ log)
skip_keeps old new run stage machine p log is puts k = record {
  counts = record {
    attempts = k.counts.attempts;
    skips = rw k.counts.skips (omega arith);
    visits = k.counts.visits;
    left = k.counts.left;
    finished = k.counts.finished;
    last_aside = k.counts.last_aside;
    few = let few : p.attempts + (p.skips + p.visits) ≤ length log = k.counts.few in omega (arith, few);
  };
  stages = stages_excused p log stage is k.stages machine (Record.Skip run stage machine) refl (λ j. refl) (p.skips + 1) p.left p.has_asides p.last_aside;
  excuses = excuses_now p log stage is k.stages old new run machine (Record.Skip run stage machine) refl puts.here elsewhere k.excuses (λ j apart. visit_same j) (rw (visit_same stage) (k.excuses.last stage (rw is (eq-eqb stage stage refl)))) (λ none. sym (visit_same stage) ∙ none)
      (p.skips + 1) p.left p.has_asides p.last_aside (λ j. k.excuses.counted j ∙ sym (asides_same j)) (λ quiet j. asides_same j ∙ k.excuses.some quiet j);
  due = due_excused p log stage is k.stages old new run (Record.Skip run stage machine) (p.skips + 1) p.left p.has_asides p.last_aside (λ j. refl) refl (λ j apart. asides_same j) k.due;
  answers = λ step. k.answers step ∙ sym (answers_stay old new puts.answers run step);
  codes = λ token m. k.codes token m ∙ sym (codes_stay old new puts.codes run token m);
}
  where
    visit_same : (j : ℕ) → visit_at new run j ≡ visit_at old run j
    visit_same j = visits_stay old new puts.visits run j

    asides_same : (j : ℕ) → asides_at new run j ≡ asides_at old run j
    asides_same j = ap (λ o. asides_of o) (visit_same j)

    elsewhere : (s m : ℕ) → (s ≢ stage) ⊎ (m ≢ machine) → excuse_at new run s m ≡ excuse_at old run s m
    elsewhere s m out = puts.elsewhere run s m (inr out)

-- One more Aside ----------------------------------------------------------------------------------------

pub aside_keeps : (old middle new : Facts) (run stage machine by : ℕ) (p : Progress) (log : List Record) → p.begun ≡ Some stage → PutsExcuse old middle run stage machine p.visits → PutsVisit middle new run stage p.visits (asides_at old run stage + 1) → Keeps old run p log → Keeps new run (excused_to p p.skips (p.left + 1) true (Some machine)) (Record.Aside run machine by ∷ log)
aside_keeps old middle new run stage machine by p log is puts visits_put k = record {
  counts = record {
    attempts = k.counts.attempts;
    skips = k.counts.skips;
    visits = k.counts.visits;
    left = ap (λ n. n + 1) k.counts.left;
    finished = k.counts.finished;
    last_aside = refl;
    few = let few : p.attempts + (p.skips + p.visits) ≤ length log = k.counts.few in omega (arith, few);
  };
  stages = stages_excused p log stage is k.stages machine (Record.Aside run machine by) refl (λ j. refl) p.skips (p.left + 1) true (Some machine);
  excuses = excuses_now p log stage is k.stages old new run machine (Record.Aside run machine by) refl here elsewhere k.excuses others (rw visits_put.here refl) (λ none. absurd (let some = visits_put.here in cc))
      p.skips (p.left + 1) true (Some machine) counted (λ quiet. absurd cc);
  due = due_excused p log stage is k.stages old new run (Record.Aside run machine by) p.skips (p.left + 1) true (Some machine) (λ j. refl) refl asides_others k.due;
  answers = λ step. k.answers step ∙ sym (answers_stay middle new visits_put.answers run step ∙ answers_stay old middle puts.answers run step);
  codes = λ token m. k.codes token m ∙ sym (codes_stay middle new visits_put.codes run token m ∙ codes_stay old middle puts.codes run token m);
}
  where
    here : excuse_at new run stage machine ≡ Some p.visits
    here = excuses_stay middle new visits_put.excuses run stage machine ∙ puts.here

    elsewhere : (s m : ℕ) → (s ≢ stage) ⊎ (m ≢ machine) → excuse_at new run s m ≡ excuse_at old run s m
    elsewhere s m out = excuses_stay middle new visits_put.excuses run s m ∙ puts.elsewhere run s m (inr out)

    others : (j : ℕ) → stage == j ≡ false → visit_at new run j ≡ visit_at old run j
    others j apart = visits_put.elsewhere run j (inr (λ same. let own : stage == j ≡ true = eq-eqb stage j (sym same) in cc)) ∙ visits_stay old middle puts.visits run j

    asides_others : (j : ℕ) → stage == j ≡ false → asides_at new run j ≡ asides_at old run j
    asides_others j apart = ap (λ o. asides_of o) (others j apart)

    counted : (j : ℕ) → asides_in j (Record.Aside run machine by ∷ log) ≡ asides_at new run j
    counted j = rw (log_begun p log stage is k.stages) (go (cases_eq stage j))
      where
        go : (stage ≡ j) ⊎ (stage ≡ j → ⊥) → cond (stage == j) (asides_in j log + 1) (asides_in j log) ≡ asides_at new run j
        go (inl same) = rw (← same) (rw (eq-eqb stage stage refl, visits_put.here) (ap (λ n. n + 1) (k.excuses.counted stage)))
        go (inr ne) = rw (ne_eqb stage j ne) (k.excuses.counted j ∙ sym (asides_others j (ne_eqb stage j ne)))
