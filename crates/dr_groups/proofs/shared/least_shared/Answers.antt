use Rattle.std.proofs.Common.{length, ℕ, ◌<◌}
use Rattle.std.proofs.lemmas.Option.{IfSome_then}
use Rattle.dr_groups.proofs.SharedLaws.{apart_unshared, shared_not_apart}
use Rattle.dr_groups.specs.Groups.{IsInOneAtMost}
use Rattle.dr_groups.specs.Marks.{IsMarked}
use Rattle.dr_groups.proofs.shared.least_shared.Goals as goal

pub returns-clause-none : goal.returns-clause-none
returns-clause-none c = λ none d. apart_unshared c.args.estate.now d (λ shared. c.least_marked.ensures.none none d ((c.mark_groups.ensures.in_two d).1 shared))

pub returns-clause-shared : goal.returns-clause-shared
returns-clause-shared c =
    let e = c.args.estate.now in
    IfSome_then c.least_marked.result {P = λ d. IsMarked c.mark_groups.new.shared d} {Q = λ d. ¬ IsInOneAtMost e d} c.least_marked.ensures.marked
    (λ d marked. shared_not_apart e (length e.groups) d ((c.mark_groups.ensures.in_two d).0 marked))

pub returns-clause-least : goal.returns-clause-least
returns-clause-least c =
    let e = c.args.estate.now in
    IfSome_then c.least_marked.result {P = λ d. (k : ℕ) → k < d → ¬ IsMarked c.mark_groups.new.shared k} {Q = λ d. (k : ℕ) → k < d → IsInOneAtMost e k} c.least_marked.ensures.least
    (λ d unmarked k below. apart_unshared e k (λ shared. unmarked k below ((c.mark_groups.ensures.in_two k).1 shared)))
