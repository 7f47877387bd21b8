use Rattle.std.proofs.Common.{◌≡◌, suc, ◌-◌, ◌<◌, length, refl, sym, ◌∙◌, ap, arith}
use Rattle.dr_meaning.specs.Visits.{mark_done}
use Rattle.dr_replay.specs.Values.{visit_of}
use Rattle.dr_replay.proofs.LastOf.{told_last, told_changed}
use Rattle.dr_replay.proofs.visiting.mark_done.Goals as goal

pub returns-in-Some : goal.returns-in-Some
returns-in-Some c =
    let some : 0 < c.args.visits.now.len = c.in-Some.ensures.variant.0 refl in
    let last : suc (c.args.visits.now.len - 1) ≡ length c.args.visits.now.items = omega arith in
    told_changed visit_of _ _ _ last ∙ sym (ap mark_done (told_last visit_of _ _ _ last c.in-Some.ensures.value))
