use Rattle.std.proofs.Common.{◌≡◌, suc, ◌-◌, ◌<◌, length, [], ◌∷◌, ◌++◌, reverse, refl, sym, ◌∙◌, ap, arith}
use Rattle.std.proofs.lemmas.List.{reverse-append}
use Rattle.dr_meaning.specs.Visits.{excuse}
use Rattle.dr_replay.specs.Values.{visit_of}
use Rattle.dr_replay.proofs.LastOf.{told_last, told_changed}
use Rattle.dr_replay.proofs.visiting.excuse.Goals as goal

pub returns-in_ok-push : goal.returns-in_ok-push
returns-in_ok-push c =
    let some : 0 < c.args.visits.now.len = c.in-Some.ensures.variant.0 refl in
    let last : suc (c.args.visits.now.len - 1) ≡ length c.args.visits.now.items = omega arith in
    let grown = c.in-Some.last.now.excused.items ++ c.args.machine ∷ [] in
    let pushed : c.push.new.self.items ≡ grown = c.in_ok-push.ensures.items in
    let newest = ap reverse pushed ∙ reverse-append c.in-Some.last.now.excused.items (c.args.machine ∷ []) in
    told_changed visit_of _ _ _ last ∙ rw newest refl ∙ sym (ap (excuse c.args.machine) (told_last visit_of _ _ _ last c.in-Some.ensures.value))
