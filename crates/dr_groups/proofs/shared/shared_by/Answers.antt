use Rattle.std.proofs.Common.{refl}
use Rattle.dr_groups.proofs.SharedLaws.{apart_one, shared_two}
use Rattle.dr_groups.proofs.shared.shared_by.Goals as goal

pub returns-in_err-second-clause-apart : goal.returns-in_err-second-clause-apart
returns-in_err-second-clause-apart c = λ none. apart_one c.args.estate.now c.args.datastore c.in_ok-first.first c.in_ok-first.ensures.least (c.in_err-second.ensures.none refl)

pub returns-clause-shared : goal.returns-clause-shared
returns-clause-shared c = shared_two c.args.estate.now c.args.datastore c.in_ok-first.first c.in_ok-second.second c.in_ok-first.ensures.found c.in_ok-second.ensures.found
    c.in_ok-first.ensures.least c.in_ok-second.ensures.from c.in_ok-second.ensures.least
