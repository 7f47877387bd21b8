-- A run's progress behind one more Begin.
use Rattle.std.specs.Prelude.{◌≡◌, ◌≢◌, ℕ, ◌+◌, ◌-◌, ◌<◌, ◌≤◌, ◌==◌, ◌⊎◌, true, false, List, ◌∷◌, Option, Some, None, IfSome, length}
use Rattle.std.proofs.Common.{refl, sym, ap, ◌∙◌, inl, inr, arith}
use Rattle.std.proofs.lemmas.Bool.{eq-eqb, ne_eqb, cases_eq, cases_lt}
use Rattle.dr_meaning.specs.Types.{Record}
use Rattle.dr_meaning.specs.Visits.{last_visit, is_excused}
use Rattle.dr_progress.specs.declared.facts.Facts.{Facts}
use Rattle.dr_progress.specs.declared.progress.Progress.{Progress}
use Rattle.dr_progress.specs.Facts.{excuse_at, visit_at, PutsVisit}
use Rattle.dr_progress.specs.Progress.{is_at, is_still, is_excused_at, asides_in, asides_at, is_due, IsUnvisited, KeepsCounts, KeepsStages, KeepsExcuses, KeepsDue, Keeps, NoneWaits, WaitsFirst}
use Rattle.dr_progress.proofs.FactLaws.{excuses_stay, answers_stay, codes_stay, excused_by}
use Rattle.dr_progress.proofs.AttemptLaws.{visited_if_some}

-- the progress behind a Begin of the stage, with the bound of what waits and how many machines are left
abbrev pub begun_at : Progress → ℕ → ℕ → ℕ → Progress
begun_at p stage upto left = record p {
  left = left;
  visits = p.visits + 1;
  begun = Some stage;
  last_aside = None;
  since_attempt = true;
  again_upto = upto;
}

counts : (p : Progress) (log : List Record) (run stage upto left : ℕ) → left ≡ p.left - asides_in stage log → KeepsCounts p log → KeepsCounts (begun_at p stage upto left) (Record.Begin run stage ∷ log)
counts p log run stage upto left fewer k = record {
  attempts = k.attempts;
  skips = k.skips;
  visits = rw k.visits (omega arith);
  left = fewer ∙ ap (λ n. n - asides_in stage log) k.left;
  finished = k.finished;
  last_aside = refl;
  few = let few : p.attempts + (p.skips + p.visits) ≤ length log = k.few in omega (arith, few);
}

-- where no stage is begun, none is at any place
free : (p : Progress) → p.begun ≡ None → (j : ℕ) → is_at p.begun j ≡ false
free p none j = rw none refl

stages : (p : Progress) (log : List Record) (run stage upto left : ℕ) → p.begun ≡ None → 1 ≤ stage → stage ≤ p.walked + 1 → KeepsStages p log → KeepsStages (begun_at p stage upto left) (Record.Begin run stage ∷ log)
stages p log run stage upto left none above below k = record {
  begun = refl;
  next = (above, below);
  done = λ j least most apart. rw apart (k.done j least most (free p none j));
  unvisited = λ j never. rw never.1 (k.unvisited j (outside j never.0, free p none j));
  done_once = k.done_once;
  walked_was = k.walked_was;
}
  where
    outside : (j : ℕ) → (j ≡ 0) ⊎ (p.walked < j) → (j ≡ 0) ⊎ (p.walked < j)
    outside j o = o

-- A stage that is worked again: its last visit is put --------------------------------------------------

module _ (old new : Facts) (run : ℕ) (p : Progress) (log : List Record) (stage upto left : ℕ) (none : p.begun ≡ None) (puts : PutsVisit old new run stage (p.visits + 1) 0) (k : KeepsExcuses old run p log) where
  here : asides_at new run stage ≡ 0
  here = rw puts.here refl

  apart_at : (j : ℕ) → stage == j ≡ false → visit_at new run j ≡ visit_at old run j
  apart_at j apart = puts.elsewhere run j (inr (λ same. let own : stage == j ≡ true = eq-eqb stage j (sym same) in cc))

  asides_stay : (j : ℕ) → stage == j ≡ false → asides_at new run j ≡ asides_at old run j
  asides_stay j apart = rw (apart_at j apart) refl

  -- nothing is of the visit that begins
  none_of_new : (m : ℕ) (a : Option ℕ) → excuse_at old run stage m ≡ a → is_still a (Some (record { visit = p.visits + 1; asides = 0 })) ≡ false
  none_of_new m None e = refl
  none_of_new m (Some visit) e = let past : visit ≤ p.visits = k.past stage m visit e in ne_eqb visit (p.visits + 1) (λ same. omega (arith, past, same))

  excused_here : (m : ℕ) → is_excused_at new run stage m ≡ false
  excused_here m = rw (puts.here, excuses_stay old new puts.excuses run stage m) (none_of_new m (excuse_at old run stage m) refl)

  excused_apart : (j m : ℕ) → stage == j ≡ false → is_excused_at new run j m ≡ is_excused_at old run j m
  excused_apart j m apart = rw (apart_at j apart, excuses_stay old new puts.excuses run j m) refl

  told_again : (j m : ℕ) → is_excused m (last_visit j (Record.Begin run stage ∷ log)) ≡ is_excused_at new run j m
  told_again j m = go (cases_eq stage j)
    where
      go : (stage ≡ j) ⊎ (stage ≡ j → ⊥) → is_excused m (last_visit j (Record.Begin run stage ∷ log)) ≡ is_excused_at new run j m
      go (inl same) = rw (← same) (rw (eq-eqb stage stage refl) (sym (excused_here m)))
      go (inr ne) = rw (ne_eqb stage j ne) (k.told j m ∙ sym (excused_apart j m (ne_eqb stage j ne)))

  counted_again : (j : ℕ) → asides_in j (Record.Begin run stage ∷ log) ≡ asides_at new run j
  counted_again j = go (cases_eq stage j)
    where
      go : (stage ≡ j) ⊎ (stage ≡ j → ⊥) → asides_in j (Record.Begin run stage ∷ log) ≡ asides_at new run j
      go (inl same) = rw (← same) (rw (eq-eqb stage stage refl) (sym here))
      go (inr ne) = rw (ne_eqb stage j ne) (k.counted j ∙ sym (asides_stay j (ne_eqb stage j ne)))

  last_again : (j : ℕ) → stage == j ≡ true → IfSome (visit_at new run j) (λ last. last.visit ≡ p.visits + 1)
  last_again j own = go (cases_eq stage j)
    where
      go : (stage ≡ j) ⊎ (stage ≡ j → ⊥) → IfSome (visit_at new run j) (λ last. last.visit ≡ p.visits + 1)
      go (inl same) = rw (← same) (rw puts.here refl)
      go (inr ne) = absurd (let other : stage == j ≡ false = ne_eqb stage j ne in cc)

  first_again : (j : ℕ) → stage == j ≡ true → visit_at new run j ≡ None → (m visit : ℕ) → excuse_at new run j m ≡ Some visit → visit ≡ p.visits + 1
  first_again j own empty m visit e = go (cases_eq stage j)
    where
      go : (stage ≡ j) ⊎ (stage ≡ j → ⊥) → visit ≡ p.visits + 1
      go (inl same) = absurd (let some : visit_at new run j ≡ Some (record { visit = p.visits + 1; asides = 0 }) = rw (← same) puts.here in cc)
      go (inr ne) = absurd (let other : stage == j ≡ false = ne_eqb stage j ne in cc)

  none_again : p.has_asides ≡ false → (j : ℕ) → asides_at new run j ≡ 0
  none_again quiet j = go (cases_eq stage j)
    where
      go : (stage ≡ j) ⊎ (stage ≡ j → ⊥) → asides_at new run j ≡ 0
      go (inl same) = rw (← same) here
      go (inr ne) = asides_stay j (ne_eqb stage j ne) ∙ k.some quiet j

  excuses_again : KeepsExcuses new run (begun_at p stage upto left) (Record.Begin run stage ∷ log)
  excuses_again = record {
    told = told_again;
    counted = counted_again;
    past = λ j m visit e. let past : visit ≤ p.visits = k.past j m visit (sym (excuses_stay old new puts.excuses run j m) ∙ e) in omega (arith, past);
    unvisited = λ j never. (
      apart_at j never.1 ∙ (k.unvisited j (never.0, free p none j)).0,
      λ m. excuses_stay old new puts.excuses run j m ∙ (k.unvisited j (never.0, free p none j)).1 m,
    );
    last = last_again;
    first = first_again;
    some = none_again;
  }

  due_again : WaitsFirst old run p stage → KeepsDue old run p log → KeepsDue new run (begun_at p stage p.again_upto left) (Record.Begin run stage ∷ log)
  due_again first d = record {
    due = λ j some apart behind within. rw apart (d.due j (still j apart some) (free p none j) behind within);
    worked = λ j some apart outside. rw apart (d.worked j (still j apart some) (free p none j) outside);
    begun = record {
      since = rw (eq-eqb stage stage refl) refl;
      first = λ within. (first.behind, later);
    };
    bounded = d.bounded;
  }
    where
      still : (j : ℕ) → stage == j ≡ false → 0 < asides_at new run j → 0 < asides_at old run j
      still j apart some = let same : asides_at new run j ≡ asides_at old run j = asides_stay j apart in omega (arith, same, some)

      later : (j : ℕ) → 0 < asides_at new run j → j ≢ stage → p.again_after < j → stage < j
      later j some ne behind = go (cases_lt stage j)
        where
          go : (stage < j) ⊎ (j ≤ stage) → stage < j
          go (inl lt) = lt
          go (inr le) = absurd (
              let less : j < stage = omega (arith, le, ne) in
              let zero : asides_at old run j ≡ 0 = first.first j behind less in
              let old_some : 0 < asides_at old run j = still j (ne_eqb stage j (λ same. ne (sym same))) some in
              omega (arith, zero, old_some)
              )

-- A stage that is begun for the first time: nothing is put ----------------------------------------------

module _ (facts : Facts) (run : ℕ) (p : Progress) (log : List Record) (left : ℕ) (none : p.begun ≡ None) where
  fresh : IsUnvisited p (p.walked + 1)
  fresh = (inr (omega arith), free p none (p.walked + 1))

  excuses_first : KeepsExcuses facts run p log → KeepsExcuses facts run (begun_at p (p.walked + 1) 0 left) (Record.Begin run (p.walked + 1) ∷ log)
  excuses_first k = record {
    told = told;
    counted = counted;
    past = λ j m visit e. let past : visit ≤ p.visits = k.past j m visit e in omega (arith, past);
    unvisited = λ j never. k.unvisited j (never.0, free p none j);
    last = last;
    first = first;
    some = k.some;
  }
    where
      never : (visit_at facts run (p.walked + 1) ≡ None) × ((m : ℕ) → excuse_at facts run (p.walked + 1) m ≡ None)
      never = k.unvisited (p.walked + 1) fresh

      told : (j m : ℕ) → is_excused m (last_visit j (Record.Begin run (p.walked + 1) ∷ log)) ≡ is_excused_at facts run j m
      told j m = go (cases_eq (p.walked + 1) j)
        where
          go : (p.walked + 1 ≡ j) ⊎ (p.walked + 1 ≡ j → ⊥) → is_excused m (last_visit j (Record.Begin run (p.walked + 1) ∷ log)) ≡ is_excused_at facts run j m
          go (inl same) = rw (← same) (rw (eq-eqb (p.walked + 1) (p.walked + 1) refl) (sym (excused_by facts run (p.walked + 1) m None (never.1 m))))
          go (inr ne) = rw (ne_eqb (p.walked + 1) j ne) (k.told j m)

      counted : (j : ℕ) → asides_in j (Record.Begin run (p.walked + 1) ∷ log) ≡ asides_at facts run j
      counted j = go (cases_eq (p.walked + 1) j)
        where
          go : (p.walked + 1 ≡ j) ⊎ (p.walked + 1 ≡ j → ⊥) → asides_in j (Record.Begin run (p.walked + 1) ∷ log) ≡ asides_at facts run j
          go (inl same) = rw (← same) (rw (eq-eqb (p.walked + 1) (p.walked + 1) refl) (rw never.0 refl))
          go (inr ne) = rw (ne_eqb (p.walked + 1) j ne) (k.counted j)

      last : (j : ℕ) → p.walked + 1 == j ≡ true → IfSome (visit_at facts run j) (λ last. last.visit ≡ p.visits + 1)
      last j own = go (cases_eq (p.walked + 1) j)
        where
          go : (p.walked + 1 ≡ j) ⊎ (p.walked + 1 ≡ j → ⊥) → IfSome (visit_at facts run j) (λ last. last.visit ≡ p.visits + 1)
          go (inl same) = rw (← same) (rw never.0 tt)
          go (inr ne) = absurd (let other : p.walked + 1 == j ≡ false = ne_eqb (p.walked + 1) j ne in cc)

      first : (j : ℕ) → p.walked + 1 == j ≡ true → visit_at facts run j ≡ None → (m visit : ℕ) → excuse_at facts run j m ≡ Some visit → visit ≡ p.visits + 1
      first j own empty m visit e = go (cases_eq (p.walked + 1) j)
        where
          go : (p.walked + 1 ≡ j) ⊎ (p.walked + 1 ≡ j → ⊥) → visit ≡ p.visits + 1
          go (inl same) = absurd (let none_there : excuse_at facts run j m ≡ None = rw (← same) (never.1 m) in cc)
          go (inr ne) = absurd (let other : p.walked + 1 == j ≡ false = ne_eqb (p.walked + 1) j ne in cc)

  due_first : NoneWaits facts run p → KeepsDue facts run p log → KeepsDue facts run (begun_at p (p.walked + 1) 0 left) (Record.Begin run (p.walked + 1) ∷ log)
  due_first waits d = record {
    due = λ j some apart behind within. absurd (omega (arith, behind, within));
    worked = λ j some apart outside. rw apart (quiet j some);
    begun = record {
      since = rw (eq-eqb (p.walked + 1) (p.walked + 1) refl) refl;
      first = λ within. absurd (omega (arith, within));
    };
    bounded = omega arith;
  }
    where
      quiet : (j : ℕ) → 0 < asides_at facts run j → is_due log j ≡ false
      quiet j some = go (cases_lt p.again_after j) (cases_lt p.again_upto j)
        where
          go : (p.again_after < j) ⊎ (j ≤ p.again_after) → (p.again_upto < j) ⊎ (j ≤ p.again_upto) → is_due log j ≡ false
          go (inr le) b = d.worked j some (free p none j) (inl le)
          go (inl lt) (inl over) = d.worked j some (free p none j) (inr over)
          go (inl lt) (inr le) = absurd (let zero : asides_at facts run j ≡ 0 = waits j lt le in omega (arith, zero, some))

-- All of it ---------------------------------------------------------------------------------------------

pub begin_again_keeps : (old new : Facts) (run stage left : ℕ) (p : Progress) (log : List Record) → left ≡ p.left - asides_at old run stage → p.begun ≡ None → WaitsFirst old run p stage → PutsVisit old new run stage (p.visits + 1) 0 → Keeps old run p log → Keeps new run (begun_at p stage p.again_upto left) (Record.Begin run stage ∷ log)
begin_again_keeps old new run stage left p log fewer none first puts k =
    let visited : (1 ≤ stage) × (stage ≤ p.walked) = visited_if_some old run p log k.excuses stage first.some (free p none stage) in
    record {
      counts = counts p log run stage p.again_upto left (fewer ∙ ap (λ n. p.left - n) (sym (k.excuses.counted stage))) k.counts;
      stages = stages p log run stage p.again_upto left none visited.0 (omega (arith, visited.1)) k.stages;
      excuses = excuses_again old new run p log stage p.again_upto left none puts k.excuses;
      due = due_again old new run p log stage p.again_upto left none puts k.excuses first k.due;
      answers = λ step. k.answers step ∙ sym (answers_stay old new puts.answers run step);
      codes = λ token m. k.codes token m ∙ sym (codes_stay old new puts.codes run token m);
    }

pub begin_first_keeps : (facts : Facts) (run left : ℕ) (p : Progress) (log : List Record) → left ≡ p.left - asides_at facts run (p.walked + 1) → p.begun ≡ None → NoneWaits facts run p → Keeps facts run p log → Keeps facts run (begun_at p (p.walked + 1) 0 left) (Record.Begin run (p.walked + 1) ∷ log)
begin_first_keeps facts run left p log fewer none waits k = record {
  counts = counts p log run (p.walked + 1) 0 left (fewer ∙ ap (λ n. p.left - n) (sym (k.excuses.counted (p.walked + 1)))) k.counts;
  stages = stages p log run (p.walked + 1) 0 left none (omega arith) (omega arith) k.stages;
  excuses = excuses_first facts run p log left none k.excuses;
  due = due_first facts run p log left none waits k.due;
  answers = k.answers;
  codes = k.codes;
}
