use Rattle.std.specs.Option.{option_copied}
use Rattle.std.proofs.Common.{ap, sym, ◌∙◌}
use Rattle.dr_meaning.specs.Lawful.{machine_in_plan}
use Rattle.dr_walk.proofs.TakingLaws.{cause_of_row}
use Rattle.dr_walk.proofs.walk.Walk.is_cause.Goals as goal

pub returns-in-Some : goal.returns-in-Some
returns-in-Some c = λ run same w.
    cause_of_row run c.args.machine c.args.by c.in-Some.row.now c.as_slice.result.now _
    (ap (λ p. machine_in_plan p c.args.machine) (sym same) ∙ sym (c.machine_in_plan.ensures (rw same w.ordered.ascending)) ∙ ap (λ o. option_copied o) c.in-Some.is)
    c.as_slice.ensures (c.is_cause_among.ensures run w)
