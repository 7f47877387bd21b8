-- A run's progress behind one more Done, and behind a Finish.
use Rattle.std.specs.Prelude.{◌≡◌, ℕ, ◌+◌, ◌<◌, ◌≤◌, ◌==◌, ◌⊎◌, Bool, true, false, ◌&&◌, ◌||◌, not, List, ◌∷◌, Option, Some, None, IfSome, length, max}
use Rattle.std.specs.List.{list_any}
use Rattle.std.proofs.Common.{refl, sym, ◌∙◌, inl, inr, arith}
use Rattle.std.proofs.lemmas.Bool.{eq-eqb, ne_eqb, cases_eq, cases_lt}
use Rattle.dr_meaning.specs.Types.{Record}
use Rattle.dr_meaning.specs.Visits.{visits, begun, last_visit, is_done}
use Rattle.dr_meaning.specs.Next.{is_attempt, begun_since_attempt}
use Rattle.dr_progress.specs.declared.facts.Facts.{Facts}
use Rattle.dr_progress.specs.declared.progress.Progress.{Progress}
use Rattle.dr_progress.specs.Progress.{is_at, asides_at, was_done, is_due, IsUnvisited, KeepsStages, KeepsExcuses, KeepsDue, IsBegunSince, IsBegunWhen, Keeps, WaitsBehind}
use Rattle.dr_progress.proofs.VisitLaws.{done_here, done_other, done_ends, done_excuses}

-- the progress behind a Done of the begun stage, with the bound behind which stages wait
abbrev pub done_at : Progress → ℕ → ℕ → Progress
done_at p stage after = record p { walked = max p.walked stage; begun = None; again_after = after }

-- what is begun, by what is kept
its_stage : (p : Progress) (log : List Record) (stage : ℕ) → p.begun ≡ Some stage → KeepsStages p log → begun log ≡ Some stage
its_stage p log stage is k = sym k.begun ∙ is

-- a stage that isn't the begun one
other_at : (p : Progress) (stage j : ℕ) → p.begun ≡ Some stage → stage == j ≡ false → is_at p.begun j ≡ false
other_at p stage j is apart = rw is apart

module _ (p : Progress) (log : List Record) (run stage after : ℕ) (is : p.begun ≡ Some stage) (k : KeepsStages p log) where
  bounds : (1 ≤ stage) × (stage ≤ p.walked + 1)
  bounds = rw is at k.next

  pub stages_done : KeepsStages (done_at p stage after) (Record.Done run stage ∷ log)
  stages_done = record {
    begun = sym (done_ends stage (visits log) (its_stage p log stage is k));
    next = tt;
    done = λ j least most free. go j least most (cases_eq stage j);
    unvisited = λ j never. fresh j never.0 (cases_eq stage j);
    done_once = λ j done. once j done (cases_eq stage j);
    walked_was = λ j least most. was j least most (cases_eq stage j);
  }
    where
      go : (j : ℕ) → 1 ≤ j → j ≤ max p.walked stage → (stage ≡ j) ⊎ (stage ≡ j → ⊥) → is_done (Record.Done run stage ∷ log) j ≡ true
      go j least most (inl same) = rw (← same) (done_here stage (visits log) (its_stage p log stage is k))
      go j least most (inr ne) =
          let below : j ≤ p.walked = let near = bounds.1 in omega (arith, most, near, ne) in
          let was : is_done log j ≡ true = k.done j least below (other_at p stage j is (ne_eqb stage j ne)) in
          rw (done_other stage j (ne_eqb stage j ne) (visits log) (its_stage p log stage is k)) was

      once : (j : ℕ) → (stage == j) || was_done log j ≡ true → (stage ≡ j) ⊎ (stage ≡ j → ⊥) → (1 ≤ j) × (j ≤ max p.walked stage)
      once j done (inl same) = let least = bounds.0 in (omega (arith, least, same), omega (arith, same))
      once j done (inr ne) =
          let before : was_done log j ≡ true = rw (ne_eqb stage j ne) at done in
          let within : (1 ≤ j) × (j ≤ p.walked) = k.done_once j before in
          (within.0, let below = within.1 in omega (arith, below))

      was : (j : ℕ) → 1 ≤ j → j ≤ max p.walked stage → (stage ≡ j) ⊎ (stage ≡ j → ⊥) → (stage == j) || was_done log j ≡ true
      was j least most (inl same) = rw (eq-eqb stage j same) refl
      was j least most (inr ne) =
          let below : j ≤ p.walked = let near = bounds.1 in omega (arith, most, near, ne) in
          rw (ne_eqb stage j ne) (k.walked_was j least below)

      fresh : (j : ℕ) → (j ≡ 0) ⊎ (max p.walked stage < j) → (stage ≡ j) ⊎ (stage ≡ j → ⊥) → last_visit j (Record.Done run stage ∷ log) ≡ None
      fresh j (inl zero) (inl same) = absurd (let least = bounds.0 in omega (arith, least, zero, same))
      fresh j (inr over) (inl same) = absurd (omega (arith, over, same))
      fresh j out (inr ne) =
          done_other stage j (ne_eqb stage j ne) (visits log) (its_stage p log stage is k)
          ∙ k.unvisited j (outside out, other_at p stage j is (ne_eqb stage j ne))
        where
          outside : (j ≡ 0) ⊎ (max p.walked stage < j) → (j ≡ 0) ⊎ (p.walked < j)
          outside (inl zero) = inl zero
          outside (inr over) = inr (omega (arith, over))

  pub excuses_done : (facts : Facts) (r : ℕ) → KeepsExcuses facts r p log → KeepsExcuses facts r (done_at p stage after) (Record.Done run stage ∷ log)
  excuses_done facts r e = record {
    told = λ j m. done_excuses j m (visits log) ∙ e.told j m;
    counted = e.counted;
    past = e.past;
    unvisited = λ j never. e.unvisited j (outside j never.0);
    last = λ j own. absurd cc;
    first = λ j own. absurd cc;
    some = e.some;
  }
    where
      outside : (j : ℕ) → (j ≡ 0) ⊎ (max p.walked stage < j) → IsUnvisited p j
      outside j (inl zero) = (inl zero, rw is (ne_eqb stage j (λ same. let least = bounds.0 in omega (arith, least, zero, same))))
      outside j (inr over) = (inr (omega (arith, over)), rw is (ne_eqb stage j (λ same. omega (arith, over, same))))

module _ (facts : Facts) (r : ℕ) (p : Progress) (log : List Record) (run stage : ℕ) (is : p.begun ≡ Some stage) (d : KeepsDue facts r p log) where
  -- a stage of which a Done doesn't change whether it is due
  same_due : (j : ℕ) → is_due (Record.Done run stage ∷ log) j ≡ is_due log j
  same_due j = refl

  -- begun since the last Attempt, and worked before: what waits is behind it
  since_again : IsBegunSince facts r p.again_after p.again_upto log stage → stage ≤ p.again_upto → KeepsDue facts r (done_at p stage stage) (Record.Done run stage ∷ log)
  since_again b within = record {
    due = λ j some free behind upto. d.due j some (other j (λ same. omega (arith, behind, same))) (let lower = (b.first within).0 in omega (arith, lower, behind)) upto;
    worked = λ j some free outside. go j some outside (cases_eq stage j);
    begun = tt;
    bounded = let most = d.bounded in omega (arith, most);
  }
    where
      other : (j : ℕ) → (stage ≡ j → ⊥) → is_at p.begun j ≡ false
      other j ne = rw is (ne_eqb stage j ne)

      begun_ago : (a b : Bool) → b ≡ true → a && not b ≡ false
      begun_ago true true e = refl
      begun_ago true false e = absurd cc
      begun_ago false b e = refl

      go : (j : ℕ) → 0 < asides_at facts r j → (j ≤ stage) ⊎ (p.again_upto < j) → (stage ≡ j) ⊎ (stage ≡ j → ⊥) → is_due log j ≡ false
      go j some outside (inl same) = rw (← same) (begun_ago _ _ b.since)
      go j some (inr over) (inr ne) = d.worked j some (other j ne) (inr over)
      go j some (inl le) (inr ne) = behind (cases_lt p.again_after j)
        where
          behind : (p.again_after < j) ⊎ (j ≤ p.again_after) → is_due log j ≡ false
          behind (inl lt) = absurd (let later = (b.first within).1 j some (λ same. ne (sym same)) lt in omega (arith, later, le))
          behind (inr before) = d.worked j some (other j ne) (inl before)

  -- otherwise what waits is as it was
  stays : (asides : 0 < asides_at facts r stage → (p.again_after < stage → stage ≤ p.again_upto → is_due log stage ≡ true) × ((stage ≤ p.again_after) ⊎ (p.again_upto < stage) → is_due log stage ≡ false)) → KeepsDue facts r (done_at p stage p.again_after) (Record.Done run stage ∷ log)
  stays own = record {
    due = λ j some free behind upto. due j some behind upto (cases_eq stage j);
    worked = λ j some free outside. worked j some outside (cases_eq stage j);
    begun = tt;
    bounded = let most = d.bounded in omega (arith, most);
  }
    where
      other : (j : ℕ) → (stage ≡ j → ⊥) → is_at p.begun j ≡ false
      other j ne = rw is (ne_eqb stage j ne)

      due : (j : ℕ) → 0 < asides_at facts r j → p.again_after < j → j ≤ p.again_upto → (stage ≡ j) ⊎ (stage ≡ j → ⊥) → is_due log j ≡ true
      due j some behind upto (inl same) = rw (← same) ((own (rw same some)).0 (rw same behind) (rw same upto))
      due j some behind upto (inr ne) = d.due j some (other j ne) behind upto

      worked : (j : ℕ) → 0 < asides_at facts r j → (j ≤ p.again_after) ⊎ (p.again_upto < j) → (stage ≡ j) ⊎ (stage ≡ j → ⊥) → is_due log j ≡ false
      worked j some outside (inl same) = rw (← same) ((own (rw same some)).1 (rw same outside))
      worked j some outside (inr ne) = d.worked j some (other j ne) outside

-- All of it ---------------------------------------------------------------------------------------------

pub done_keeps : (facts : Facts) (r run stage after : ℕ) (p : Progress) (log : List Record) → p.begun ≡ Some stage → WaitsBehind p stage after → Keeps facts r p log → Keeps facts r (done_at p stage after) (Record.Done run stage ∷ log)
done_keeps facts r run stage after p log is behind k = record {
  counts = record {
    attempts = k.counts.attempts;
    skips = k.counts.skips;
    visits = k.counts.visits;
    left = k.counts.left;
    finished = k.counts.finished;
    last_aside = k.counts.last_aside;
    few = let few : p.attempts + (p.skips + p.visits) ≤ length log = k.counts.few in omega (arith, few);
  };
  stages = stages_done p log run stage after is k.stages;
  excuses = excuses_done p log run stage after is k.stages facts r k.excuses;
  due = due behind (rw is at k.due.begun);
  answers = k.answers;
  codes = k.codes;
}
  where
    least : 1 ≤ stage
    least = (bounds p log run stage after is k.stages).0

    not_due : IsBegunSince facts r p.again_after p.again_upto log stage → is_due log stage ≡ false
    not_due b = ago (list_any is_attempt log) (begun_since_attempt log stage) b.since
      where
        ago : (a b : Bool) → b ≡ true → a && not b ≡ false
        ago true true e = refl
        ago true false e = absurd cc
        ago false b e = refl

    kept : (b : Bool) → (b ≡ true → p.again_upto < stage) → IsBegunWhen facts r p.again_after p.again_upto log b stage → KeepsDue facts r (done_at p stage p.again_after) (Record.Done run stage ∷ log)
    kept true over b = stays facts r p log run stage is k.due (λ some. (λ lt le. let beyond = over refl in absurd (omega (arith, le, beyond)), λ outside. not_due b))
    kept false over b = stays facts r p log run stage is k.due (λ some. (λ lt le. b.due, none))
      where
        none : (stage ≤ p.again_after) ⊎ (p.again_upto < stage) → is_due log stage ≡ false
        none (inl le) = absurd (let zero = b.none in omega (arith, le, zero, least))
        none (inr lt) = absurd (let within = b.within in omega (arith, lt, within))

    due : WaitsBehind p stage after → IsBegunWhen facts r p.again_after p.again_upto log p.since_attempt stage → KeepsDue facts r (done_at p stage after) (Record.Done run stage ∷ log)
    due (inl w) b = rw w.0 (since_again facts r p log run stage is k.due (rw w.1 at b) w.2)
    due (inr w) b = rw w.0 (kept p.since_attempt w.1 b)

pub finish_keeps : (facts : Facts) (run moment : ℕ) (machines : List ℕ) (p : Progress) (log : List Record) → Keeps facts run p log → Keeps facts run (record p { finished = Some moment }) (Record.Finish run moment machines ∷ log)
finish_keeps facts run moment machines p log k = record {
  counts = record {
    attempts = k.counts.attempts;
    skips = k.counts.skips;
    visits = k.counts.visits;
    left = k.counts.left;
    finished = refl;
    last_aside = k.counts.last_aside;
    few = let few : p.attempts + (p.skips + p.visits) ≤ length log = k.counts.few in omega (arith, few);
  };
  stages = record { begun = k.stages.begun; next = k.stages.next; done = k.stages.done; unvisited = k.stages.unvisited; done_once = k.stages.done_once; walked_was = k.stages.walked_was };
  excuses = record {
    told = k.excuses.told;
    counted = k.excuses.counted;
    past = k.excuses.past;
    unvisited = k.excuses.unvisited;
    last = k.excuses.last;
    first = k.excuses.first;
    some = k.excuses.some;
  };
  due = record { due = k.due.due; worked = k.due.worked; begun = begun_stays p.begun p.since_attempt k.due.begun; bounded = k.due.bounded };
  answers = k.answers;
  codes = k.codes;
}
  where
    at_stage : (b : Bool) (stage : ℕ) → IsBegunWhen facts run p.again_after p.again_upto log b stage → IsBegunWhen facts run p.again_after p.again_upto (Record.Finish run moment machines ∷ log) b stage
    at_stage true stage b = record { since = b.since; first = b.first }
    at_stage false stage b = record { due = b.due; none = b.none; within = b.within }

    begun_stays : (o : Option ℕ) (b : Bool) → IfSome o (IsBegunWhen facts run p.again_after p.again_upto log b) → IfSome o (IsBegunWhen facts run p.again_after p.again_upto (Record.Finish run moment machines ∷ log) b)
    begun_stays None b h = tt
    begun_stays (Some stage) b h = at_stage b stage h
