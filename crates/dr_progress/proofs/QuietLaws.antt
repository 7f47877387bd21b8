-- A run's progress behind one more Answer or Code: no stage, and none who is excused, changes.
use Rattle.std.specs.Prelude.{◌≡◌, ◌≢◌, ℕ, ◌+◌, ◌<◌, ◌≤◌, ◌⊎◌, Bool, true, false, List, ◌∷◌, Option, Some, None, IfSome, length}
use Rattle.std.specs.List.{list_any}
use Rattle.std.proofs.Common.{refl, sym, ◌∙◌, ap, inl, inr, arith}
use Rattle.std.proofs.lemmas.Bool.{eq-eqb, ne_eqb, cases_eq}
use Rattle.dr_meaning.specs.Types.{Record}
use Rattle.dr_meaning.specs.Next.{begun_since_attempt}
use Rattle.dr_meaning.specs.Visits.{visits}
use Rattle.dr_meaning.specs.Lawful.{is_code, last_aside}
use Rattle.dr_meaning.specs.Reports.{attempts_in, skips_in, finished_in, answer_in}
use Rattle.dr_progress.specs.declared.facts.Facts.{Facts}
use Rattle.dr_progress.specs.declared.progress.Progress.{Progress}
use Rattle.dr_progress.specs.Facts.{answer_at, is_coded_at, SaysOnlyOf, PutsAnswer, PutsCode}
use Rattle.dr_progress.specs.Progress.{asides_of, asides_at, asides_in, left_in, begins_in, was_done, is_due, KeepsCounts, KeepsStages, KeepsExcuses, KeepsDue, IsBegunWhen, Keeps}
use Rattle.dr_progress.proofs.FactLaws.{excuses_stay, visits_stay, answers_stay, codes_stay}

-- a record of which neither counts nor visits tell
pub record IsQuiet (item : Record) (log : List Record) : Type 0 where
  pub attempts : attempts_in (item ∷ log) ≡ attempts_in log
  pub skips : skips_in (item ∷ log) ≡ skips_in log
  pub begins : begins_in (item ∷ log) ≡ begins_in log
  pub left : left_in (item ∷ log) ≡ left_in log
  pub finished : finished_in (item ∷ log) ≡ finished_in log
  pub last_aside : last_aside (item ∷ log) ≡ last_aside log
  pub visits : visits (item ∷ log) ≡ visits log
  pub asides : (stage : ℕ) → asides_in stage (item ∷ log) ≡ asides_in stage log
  pub done : (stage : ℕ) → was_done (item ∷ log) stage ≡ was_done log stage
  pub due : (stage : ℕ) → is_due (item ∷ log) stage ≡ is_due log stage
  pub since : (stage : ℕ) → begun_since_attempt (item ∷ log) stage ≡ begun_since_attempt log stage

module _ (old new : Facts) (run : ℕ) (p : Progress) (log : List Record) (item : Record) (quiet : IsQuiet item log) (excuses : new.excuses ≡ old.excuses) (visits_are : new.visits ≡ old.visits) (k : Keeps old run p log) where
  counts : KeepsCounts p (item ∷ log)
  counts = record {
    attempts = k.counts.attempts ∙ sym quiet.attempts;
    skips = k.counts.skips ∙ sym quiet.skips;
    visits = k.counts.visits ∙ sym quiet.begins;
    left = k.counts.left ∙ sym quiet.left;
    finished = k.counts.finished ∙ sym quiet.finished;
    last_aside = k.counts.last_aside ∙ sym quiet.last_aside;
    few = let few : p.attempts + (p.skips + p.visits) ≤ length log = k.counts.few in omega (arith, few);
  }

  stages : KeepsStages p (item ∷ log)
  stages = record {
    begun = rw quiet.visits k.stages.begun;
    next = k.stages.next;
    done = λ j least most free. rw quiet.visits (k.stages.done j least most free);
    unvisited = λ j never. rw quiet.visits (k.stages.unvisited j never);
    done_once = λ j done. k.stages.done_once j (sym (quiet.done j) ∙ done);
    walked_was = λ j least most. quiet.done j ∙ k.stages.walked_was j least most;
  }

  asides_same : (j : ℕ) → asides_at new run j ≡ asides_at old run j
  asides_same j = ap (λ o. asides_of o) (visits_stay old new visits_are run j)

  excused : KeepsExcuses new run p (item ∷ log)
  excused = record {
    told = λ j m. rw (quiet.visits, excuses, visits_are) (k.excuses.told j m);
    counted = λ j. quiet.asides j ∙ k.excuses.counted j ∙ sym (asides_same j);
    past = λ j m visit e. k.excuses.past j m visit (sym (excuses_stay old new excuses run j m) ∙ e);
    unvisited = λ j never. (
      visits_stay old new visits_are run j ∙ (k.excuses.unvisited j never).0,
      λ m. excuses_stay old new excuses run j m ∙ (k.excuses.unvisited j never).1 m,
    );
    last = λ j own. rw visits_are (k.excuses.last j own);
    first = λ j own none m visit e. k.excuses.first j own (sym (visits_stay old new visits_are run j) ∙ none) m visit (sym (excuses_stay old new excuses run j m) ∙ e);
    some = λ none j. asides_same j ∙ k.excuses.some none j;
  }

  still : (j : ℕ) → 0 < asides_at new run j → 0 < asides_at old run j
  still j some = let same : asides_at new run j ≡ asides_at old run j = asides_same j in omega (arith, same, some)

  at_stage : (b : Bool) (stage : ℕ) → IsBegunWhen old run p.again_after p.again_upto log b stage → IsBegunWhen new run p.again_after p.again_upto (item ∷ log) b stage
  at_stage true stage h = record {
    since = quiet.since stage ∙ h.since;
    first = λ within. ((h.first within).0, λ j some ne behind. (h.first within).1 j (still j some) ne behind);
  }
  at_stage false stage h = record { due = quiet.due stage ∙ h.due; none = h.none; within = h.within }

  at_begun_stage : (b : Bool) (o : Option ℕ) → IfSome o (IsBegunWhen old run p.again_after p.again_upto log b) → IfSome o (IsBegunWhen new run p.again_after p.again_upto (item ∷ log) b)
  at_begun_stage b None h = tt
  at_begun_stage b (Some stage) h = at_stage b stage h

  due : KeepsDue new run p (item ∷ log)
  due = record {
    due = λ j some free behind within. quiet.due j ∙ k.due.due j (still j some) free behind within;
    worked = λ j some free outside. quiet.due j ∙ k.due.worked j (still j some) free outside;
    begun = at_begun_stage p.since_attempt p.begun k.due.begun;
    bounded = k.due.bounded;
  }

pub answer_keeps : (old new : Facts) (run step : ℕ) (text : List ℕ) (p : Progress) (log : List Record) → PutsAnswer old new run step text → Keeps old run p log → Keeps new run p (Record.Answer run step text ∷ log)
answer_keeps old new run step text p log puts k = record {
  counts = counts old new run p log item quiet puts.excuses puts.visits k;
  stages = stages old new run p log item quiet puts.excuses puts.visits k;
  excuses = excused old new run p log item quiet puts.excuses puts.visits k;
  due = due old new run p log item quiet puts.excuses puts.visits k;
  answers = λ s. answered s (cases_eq step s);
  codes = λ token m. k.codes token m ∙ sym (codes_stay old new puts.codes run token m);
}
  where
    item : Record
    item = Record.Answer run step text

    quiet : IsQuiet (Record.Answer run step text) log
    quiet = record { attempts = refl; skips = refl; begins = refl; left = refl; finished = refl; last_aside = refl; visits = refl; asides = λ j. refl; done = λ j. refl; due = λ j. refl; since = λ j. refl }

    answered : (s : ℕ) → (step ≡ s) ⊎ (step ≡ s → ⊥) → answer_in s (Record.Answer run step text ∷ log) ≡ answer_at new run s
    answered s (inl same) = rw (← same) (rw (eq-eqb step step refl) (sym puts.here))
    answered s (inr ne) = rw (ne_eqb step s ne) (k.answers s ∙ sym (puts.elsewhere run s (inr (λ same. ne (sym same)))))

pub code_keeps : (old new : Facts) (run token machine code : ℕ) (p : Progress) (log : List Record) → PutsCode old new run token machine → Keeps old run p log → Keeps new run p (Record.Code run token machine code ∷ log)
code_keeps old new run token machine code p log puts k = record {
  counts = counts old new run p log item quiet puts.excuses puts.visits k;
  stages = stages old new run p log item quiet puts.excuses puts.visits k;
  excuses = excused old new run p log item quiet puts.excuses puts.visits k;
  due = due old new run p log item quiet puts.excuses puts.visits k;
  answers = λ step. k.answers step ∙ sym (answers_stay old new puts.answers run step);
  codes = λ t m. coded t m (cases_eq token t) (cases_eq machine m);
}
  where
    item : Record
    item = Record.Code run token machine code

    quiet : IsQuiet (Record.Code run token machine code) log
    quiet = record { attempts = refl; skips = refl; begins = refl; left = refl; finished = refl; last_aside = refl; visits = refl; asides = λ j. refl; done = λ j. refl; due = λ j. refl; since = λ j. refl }

    stays : (t m : ℕ) → (t ≢ token) ⊎ (m ≢ machine) → list_any (is_code t m) log ≡ is_coded_at new run t m
    stays t m out = k.codes t m ∙ sym (puts.elsewhere run t m (inr out))

    coded : (t m : ℕ) → (token ≡ t) ⊎ (token ≡ t → ⊥) → (machine ≡ m) ⊎ (machine ≡ m → ⊥) → list_any (is_code t m) (Record.Code run token machine code ∷ log) ≡ is_coded_at new run t m
    coded t m (inl same) (inl own) = rw (← same, ← own) (rw (eq-eqb token token refl, eq-eqb machine machine refl) (sym puts.here))
    coded t m (inr ne) b = rw (ne_eqb token t ne) (stays t m (inl (λ same. ne (sym same))))
    coded t m (inl same) (inr ne) = rw (ne_eqb machine m ne) (rw (eq-eqb token t same) (stays t m (inr (λ own. ne (sym own)))))

-- nothing else is said of other runs
pub puts_answer_only : (old new : Facts) (run step : ℕ) (text : List ℕ) → PutsAnswer old new run step text → SaysOnlyOf run old new
puts_answer_only old new run step text puts other apart = record {
  excuses = excuses_stay old new puts.excuses other;
  visits = visits_stay old new puts.visits other;
  answers = λ s. puts.elsewhere other s (inl apart);
  codes = codes_stay old new puts.codes other;
}

pub puts_code_only : (old new : Facts) (run token machine : ℕ) → PutsCode old new run token machine → SaysOnlyOf run old new
puts_code_only old new run token machine puts other apart = record {
  excuses = excuses_stay old new puts.excuses other;
  visits = visits_stay old new puts.visits other;
  answers = answers_stay old new puts.answers other;
  codes = λ t m. puts.elsewhere other t m (inl apart);
}
