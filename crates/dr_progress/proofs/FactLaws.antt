-- What a change of facts leaves.
use Rattle.std.specs.Prelude.{◌≡◌, ℕ, true, List, Option, Some}
use Rattle.std.specs.HashMap as map
use Rattle.std.specs.HashSet as set
use Rattle.std.proofs.Common.{refl, inl}
use Rattle.dr_progress.specs.declared.facts.Facts.{Facts}
use Rattle.dr_progress.specs.Facts.{same_machine, same_stage, same_step, same_code, excuse_at, visit_at, answer_at, is_coded_at, SaysOnlyOf, PutsExcuse, PutsVisit, PutsAnswer, PutsCode}
use Rattle.dr_progress.proofs.KeyLaws.{two_differ, three_differ}
use Rattle.dr_progress.specs.Progress.{is_still, is_excused_at}

pub excuses_stay : (old new : Facts) → new.excuses ≡ old.excuses → (r s m : ℕ) → excuse_at new r s m ≡ excuse_at old r s m
excuses_stay old new e r s m = rw e refl

pub visits_stay : (old new : Facts) → new.visits ≡ old.visits → (r s : ℕ) → visit_at new r s ≡ visit_at old r s
visits_stay old new e r s = rw e refl

pub answers_stay : (old new : Facts) → new.answers ≡ old.answers → (r step : ℕ) → answer_at new r step ≡ answer_at old r step
answers_stay old new e r step = rw e refl

pub codes_stay : (old new : Facts) → new.codes ≡ old.codes → (r t m : ℕ) → is_coded_at new r t m ≡ is_coded_at old r t m
codes_stay old new e r t m = rw e refl

-- What an insertion puts

pub excuse_put : (old new : Facts) (run stage machine visit : ℕ) → map.Updates same_machine old.excuses new.excuses (record { run = run; stage = stage; machine = machine }) (Some visit) → new.visits ≡ old.visits → new.answers ≡ old.answers → new.codes ≡ old.codes → PutsExcuse old new run stage machine visit
excuse_put old new run stage machine visit updates visits answers codes = record {
  here = updates.1;
  elsewhere = λ r s m apart. updates.2 (record { run = r; stage = s; machine = m }) (three_differ run stage machine r s m apart);
  visits = visits;
  answers = answers;
  codes = codes;
}

pub visit_put : (old new : Facts) (run stage visit asides : ℕ) → map.Updates same_stage old.visits new.visits (record { run = run; stage = stage }) (Some (record { visit = visit; asides = asides })) → new.excuses ≡ old.excuses → new.answers ≡ old.answers → new.codes ≡ old.codes → PutsVisit old new run stage visit asides
visit_put old new run stage visit asides updates excuses answers codes = record {
  here = updates.1;
  elsewhere = λ r s apart. updates.2 (record { run = r; stage = s }) (two_differ run stage r s apart);
  excuses = excuses;
  answers = answers;
  codes = codes;
}

pub answer_put : (old new : Facts) (run step : ℕ) (text : List ℕ) → map.Updates same_step old.answers new.answers (record { run = run; step = step }) (Some text) → new.excuses ≡ old.excuses → new.visits ≡ old.visits → new.codes ≡ old.codes → PutsAnswer old new run step text
answer_put old new run step text updates excuses visits codes = record {
  here = updates.1;
  elsewhere = λ r s apart. updates.2 (record { run = r; step = s }) (two_differ run step r s apart);
  excuses = excuses;
  visits = visits;
  codes = codes;
}

pub code_put : (old new : Facts) (run token machine : ℕ) → set.Updates same_code old.codes new.codes (record { run = run; token = token; machine = machine }) true → new.excuses ≡ old.excuses → new.visits ≡ old.visits → new.answers ≡ old.answers → PutsCode old new run token machine
code_put old new run token machine updates excuses visits answers = record {
  here = updates.1;
  elsewhere = λ r t m apart. updates.2 (record { run = r; token = t; machine = m }) (three_differ run token machine r t m apart);
  excuses = excuses;
  visits = visits;
  answers = answers;
}

-- nothing else is said of other runs
pub puts_excuse_only : (old new : Facts) (run stage machine visit : ℕ) → PutsExcuse old new run stage machine visit → SaysOnlyOf run old new
puts_excuse_only old new run stage machine visit puts other apart = record {
  excuses = λ s m. puts.elsewhere other s m (inl apart);
  visits = visits_stay old new puts.visits other;
  answers = answers_stay old new puts.answers other;
  codes = codes_stay old new puts.codes other;
}

pub puts_visit_only : (old new : Facts) (run stage visit asides : ℕ) → PutsVisit old new run stage visit asides → SaysOnlyOf run old new
puts_visit_only old new run stage visit asides puts other apart = record {
  excuses = excuses_stay old new puts.excuses other;
  visits = λ s. puts.elsewhere other s (inl apart);
  answers = answers_stay old new puts.answers other;
  codes = codes_stay old new puts.codes other;
}

-- what is excused, by what is kept
pub excused_by : (facts : Facts) (run stage machine : ℕ) (a : Option ℕ) → excuse_at facts run stage machine ≡ a → is_excused_at facts run stage machine ≡ is_still a (visit_at facts run stage)
excused_by facts run stage machine a e = rw e refl
