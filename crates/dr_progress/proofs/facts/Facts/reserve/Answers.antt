use Rattle.std.proofs.Common.{refl}
use Rattle.dr_progress.proofs.facts.Facts.reserve.Goals as goal

pub returns-in_err-reserve-2-clause-same : goal.returns-in_err-reserve-2-clause-same
returns-in_err-reserve-2-clause-same c = λ run. record {
  excuses = λ s m. c.reserve.ensures.entries.2 _;
  visits = λ s. c.reserve-2.ensures.entries.2 _;
  answers = λ s. refl;
  codes = λ t m. refl;
}

pub returns-in_err-reserve-3-clause-same : goal.returns-in_err-reserve-3-clause-same
returns-in_err-reserve-3-clause-same c = λ run. record {
  excuses = λ s m. c.reserve.ensures.entries.2 _;
  visits = λ s. c.reserve-2.ensures.entries.2 _;
  answers = λ s. c.reserve-3.ensures.entries.2 _;
  codes = λ t m. refl;
}

pub returns-in_err-reserve-4-clause-same : goal.returns-in_err-reserve-4-clause-same
returns-in_err-reserve-4-clause-same c = λ run. record {
  excuses = λ s m. c.reserve.ensures.entries.2 _;
  visits = λ s. c.reserve-2.ensures.entries.2 _;
  answers = λ s. c.reserve-3.ensures.entries.2 _;
  codes = λ t m. c.reserve-4.ensures.keys.2 _;
}

pub returns-clause-same : goal.returns-clause-same
returns-clause-same c = λ run. record {
  excuses = λ s m. c.reserve.ensures.entries.2 _;
  visits = λ s. c.reserve-2.ensures.entries.2 _;
  answers = λ s. c.reserve-3.ensures.entries.2 _;
  codes = λ t m. c.reserve-4.ensures.keys.2 _;
}
