-- A run's progress behind one more Attempt.
use Rattle.std.specs.Prelude.{◌≡◌, ℕ, ◌+◌, ◌<◌, ◌≤◌, ◌⊎◌, false, List, ◌∷◌, Option, Some, None, IfSome, length}
use Rattle.std.proofs.Common.{refl, inl, inr, arith}
use Rattle.std.proofs.lemmas.Bool.{cases_lt}
use Rattle.dr_meaning.specs.Types.{Record}
use Rattle.dr_progress.specs.declared.facts.Facts.{Facts}
use Rattle.dr_progress.specs.declared.progress.Progress.{Progress}
use Rattle.dr_progress.specs.Progress.{is_at, asides_at, IsUnvisited, KeepsExcuses, IsBegunWhen, Keeps}

-- a stage that was never begun has no machines set aside
pub none_unvisited : (facts : Facts) (run : ℕ) (p : Progress) (log : List Record) → KeepsExcuses facts run p log → (stage : ℕ) → IsUnvisited p stage → asides_at facts run stage ≡ 0
none_unvisited facts run p log k stage never = rw (k.unvisited stage never).0 refl

-- so one that has some was begun
pub visited_if_some : (facts : Facts) (run : ℕ) (p : Progress) (log : List Record) → KeepsExcuses facts run p log → (stage : ℕ) → 0 < asides_at facts run stage → is_at p.begun stage ≡ false → (1 ≤ stage) × (stage ≤ p.walked)
visited_if_some facts run p log k stage some apart = (above (cases_lt 0 stage), below (cases_lt p.walked stage))
  where
    none : (stage ≡ 0) ⊎ (p.walked < stage) → ⊥
    none never = let zero : asides_at facts run stage ≡ 0 = none_unvisited facts run p log k stage (never, apart) in omega (arith, zero, some)

    above : (0 < stage) ⊎ (stage ≤ 0) → 1 ≤ stage
    above (inl lt) = lt
    above (inr le) = absurd (none (inl (omega arith)))

    below : (p.walked < stage) ⊎ (stage ≤ p.walked) → stage ≤ p.walked
    below (inl lt) = absurd (none (inr lt))
    below (inr le) = le

-- the progress behind an Attempt, with the bound of what waits
abbrev pub attempted : Progress → ℕ → Progress
attempted p upto = record p {
  attempts = p.attempts + 1;
  last_aside = None;
  since_attempt = false;
  again_after = 0;
  again_upto = upto;
}

pub attempt_keeps : (facts : Facts) (run moment upto : ℕ) (p : Progress) (log : List Record) → p.walked ≤ upto → upto ≤ p.walked + 1 → IfSome p.begun (λ stage. stage ≤ upto) → Keeps facts run p log → Keeps facts run (attempted p upto) (Record.Attempt run moment ∷ log)
attempt_keeps facts run moment upto p log walked bounded at_begun k = record {
  counts = record {
    attempts = rw k.counts.attempts (omega arith);
    skips = k.counts.skips;
    visits = k.counts.visits;
    left = k.counts.left;
    finished = k.counts.finished;
    last_aside = refl;
    few = let few : p.attempts + (p.skips + p.visits) ≤ length log = k.counts.few in omega (arith, few);
  };
  stages = record { begun = k.stages.begun; next = k.stages.next; done = k.stages.done; unvisited = k.stages.unvisited; done_once = k.stages.done_once; walked_was = k.stages.walked_was };
  excuses = record {
    told = k.excuses.told;
    counted = k.excuses.counted;
    past = k.excuses.past;
    unvisited = k.excuses.unvisited;
    last = k.excuses.last;
    first = k.excuses.first;
    some = k.excuses.some;
  };
  due = record {
    due = λ stage some apart behind within. refl;
    worked = λ stage some apart outside. absurd (none stage (visited_if_some facts run p log k.excuses stage some apart) outside);
    begun = begins p.begun at_begun;
    bounded = bounded;
  };
  answers = k.answers;
  codes = k.codes;
}
  where
    none : (stage : ℕ) → (1 ≤ stage) × (stage ≤ p.walked) → (stage ≤ 0) ⊎ (upto < stage) → ⊥
    none stage visited (inl le) = omega (arith, visited.0, le)
    none stage visited (inr lt) = omega (arith, visited.1, lt, walked)

    begins : (o : Option ℕ) → IfSome o (λ stage. stage ≤ upto) → IfSome o (IsBegunWhen facts run 0 upto (Record.Attempt run moment ∷ log) false)
    begins None h = tt
    begins (Some stage) h = record { due = refl; none = refl; within = h }
