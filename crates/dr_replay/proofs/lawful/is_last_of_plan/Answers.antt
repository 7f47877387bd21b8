use Rattle.std.proofs.Common.{ap, sym, ◌∙◌}
use Rattle.std.specs.Option.{option_map}
use Rattle.dr_replay.specs.Values.{run_of, runs_told}
use Rattle.dr_replay.proofs.PlanOrder.{last_of_plan_told}
use Rattle.dr_replay.proofs.lawful.is_last_of_plan.Goals as goal

pub returns-in-Some : goal.returns-in-Some
returns-in-Some c =
    λ n e. last_of_plan_told (runs_told c.args.runs.now) n (run_of c.args.run.now) (run_of c.in-Some.last.now) e
    (sym c.last_of_plan.ensures ∙ ap (λ o. option_map (λ r. run_of r.now) o) c.in-Some.is)
