use Rattle.std.proofs.Common.{◌≡◌, false, subst}
use Rattle.std.specs.List.{AllByRecursion}
use Rattle.dr_meaning.specs.Meaning.{is_left}
use Rattle.dr_replay.specs.Values.{run_of}
use Rattle.dr_replay.proofs.LawfulSteps.{cause_alone}
use Rattle.dr_replay.proofs.walk.Walk.is_cause.Goals as goal

pub returns-then-none_left : goal.returns-then-none_left
returns-then-none_left c =
    let run = run_of c.args.self.now.run.now in
    cause_alone run c.args.machine c.args.by
    (subst (λ ds. AllByRecursion (λ d. is_left run d ≡ false) ds) c.dependencies-after.ensures (c.none_left.ensures.0 c.if-none_left.true))
