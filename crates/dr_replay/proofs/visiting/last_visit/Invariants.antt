use Rattle.std.proofs.Common.{◌≡◌, ◌==◌, take, find}
use Rattle.std.specs.Prelude.{option_map}
use Rattle.dr_replay.specs.Values.{visit_of, visits_told}
use Rattle.dr_replay.proofs.visiting.last_visit.Given as goal

abbrev pub invariant-loop-visit : goal.invariant-loop-visit
invariant-loop-visit l = option_map (λ v. visit_of v.now) l.found ≡ find (λ v. v.stage == l.stage) (visits_told (take l.visit-index l.visits))
