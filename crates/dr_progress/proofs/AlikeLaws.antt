-- What is kept of a run stands where facts change that say the same of it.
use Rattle.std.specs.Prelude.{◌≡◌, ℕ, ◌<◌, Bool, true, false, List, Option, Some, None, IfSome}
use Rattle.std.proofs.Common.{refl, sym, ◌∙◌, ap, arith}
use Rattle.dr_meaning.specs.Types.{Record}
use Rattle.dr_progress.specs.declared.facts.Facts.{Facts}
use Rattle.dr_progress.specs.declared.progress.Progress.{Progress}
use Rattle.dr_progress.specs.Facts.{SayAlike}
use Rattle.dr_progress.specs.Progress.{is_excused_at, asides_of, asides_at, KeepsExcuses, KeepsDue, IsBegunWhen, Keeps}

module _ (old new : Facts) (run : ℕ) (p : Progress) (log : List Record) (alike : SayAlike old new run) where
  asides_alike : (stage : ℕ) → asides_at new run stage ≡ asides_at old run stage
  asides_alike stage = ap (λ o. asides_of o) (alike.visits stage)

  excused_alike : (stage machine : ℕ) → is_excused_at new run stage machine ≡ is_excused_at old run stage machine
  excused_alike stage machine = rw (alike.excuses stage machine, alike.visits stage) refl

  some_alike : (stage : ℕ) → 0 < asides_at new run stage → 0 < asides_at old run stage
  some_alike stage some = let same : asides_at new run stage ≡ asides_at old run stage = asides_alike stage in omega (arith, same, some)

  excuses_alike : KeepsExcuses old run p log → KeepsExcuses new run p log
  excuses_alike k = record {
    told = λ j m. k.told j m ∙ sym (excused_alike j m);
    counted = λ j. k.counted j ∙ sym (asides_alike j);
    past = λ j m visit e. k.past j m visit (sym (alike.excuses j m) ∙ e);
    unvisited = λ j never. (
      alike.visits j ∙ (k.unvisited j never).0,
      λ m. alike.excuses j m ∙ (k.unvisited j never).1 m,
    );
    last = λ j own. rw (alike.visits j) (k.last j own);
    first = λ j own none m visit e. k.first j own (sym (alike.visits j) ∙ none) m visit (sym (alike.excuses j m) ∙ e);
    some = λ none j. asides_alike j ∙ k.some none j;
  }

  begun_alike : (b : Bool) (stage : ℕ) → IsBegunWhen old run p.again_after p.again_upto log b stage → IsBegunWhen new run p.again_after p.again_upto log b stage
  begun_alike true stage h = record {
    since = h.since;
    first = λ within. ((h.first within).0, λ j some ne behind. (h.first within).1 j (some_alike j some) ne behind);
  }
  begun_alike false stage h = h

  at_begun_alike : (b : Bool) (o : Option ℕ) → IfSome o (IsBegunWhen old run p.again_after p.again_upto log b) → IfSome o (IsBegunWhen new run p.again_after p.again_upto log b)
  at_begun_alike b None h = tt
  at_begun_alike b (Some stage) h = begun_alike b stage h

  due_alike : KeepsDue old run p log → KeepsDue new run p log
  due_alike k = record {
    due = λ j some free behind within. k.due j (some_alike j some) free behind within;
    worked = λ j some free outside. k.worked j (some_alike j some) free outside;
    begun = at_begun_alike p.since_attempt p.begun k.begun;
    bounded = k.bounded;
  }

-- what is kept of a run stands where the facts say the same of it
pub keeps-alike : (old new : Facts) (run : ℕ) (p : Progress) (log : List Record) → SayAlike old new run → Keeps old run p log → Keeps new run p log
keeps-alike old new run p log alike k = record {
  counts = k.counts;
  stages = k.stages;
  excuses = excuses_alike old new run p log alike k.excuses;
  due = due_alike old new run p log alike k.due;
  answers = λ step. k.answers step ∙ sym (alike.answers step);
  codes = λ token m. k.codes token m ∙ sym (alike.codes token m);
}
