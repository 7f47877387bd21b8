use Rattle.std.proofs.Common.{ap, sym, ◌∙◌}
use Rattle.std.specs.Option.{option_copied}
use Rattle.dr_meaning.specs.Lawful.{machine_in_plan}
use Rattle.dr_walk.proofs.TakingLaws.{codes_of_machine}
use Rattle.dr_walk.proofs.walk.Walk.has_machine_codes.Goals as goal

pub returns-in-Some : goal.returns-in-Some
returns-in-Some c = λ run same w.
    codes_of_machine run c.args.machine c.in-Some.row.now _
    (ap (λ p. machine_in_plan p c.args.machine) (sym same) ∙ sym (c.machine_in_plan.ensures (rw same w.ordered.ascending)) ∙ ap (λ o. option_copied o) c.in-Some.is)
    (sym (c.is_left.ensures run w) ∙ c.if-is_left.false) (c.are_run.ensures run w)
