use Rattle.std.proofs.Common.{◌==◌, reverse, sym, ◌∙◌, ap}
use Rattle.std.specs.Prelude.{option_map}
use Rattle.std.proofs.lemmas.List.{map-id}
use Rattle.dr_base.specs.Lists.{has}
use Rattle.dr_meaning.specs.Visits.{is_excused}
use Rattle.dr_replay.specs.Values.{visit_of}
use Rattle.dr_replay.proofs.Told.{any_told}
use Rattle.dr_replay.proofs.visiting.is_excused.Goals as goal

pub returns-in-Some : goal.returns-in-Some
returns-in-Some c =
    let machines = c.in-Some.visit.now.excused.items in
    c.has.ensures ∙ ap (λ xs. has xs c.args.machine) c.deref.ensures.value
    ∙ sym (any_told (λ x. x) (λ x. x == c.args.machine) machines)
    ∙ ap (λ xs. has (reverse xs) c.args.machine) (map-id machines)
    ∙ sym (ap (λ v. is_excused c.args.machine (option_map (λ x. visit_of x.now) v)) c.in-Some.is)
