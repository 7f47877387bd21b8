use Rattle.std.proofs.Common.{◌≡◌, IsTrue, ◌↔◌, take, length, ap, arith}
use Rattle.std.specs.List.{AllByRecursion}
use Rattle.std.proofs.lemmas.List.{take_all}
use Rattle.dr_replay.specs.Values.{run_of}
use Rattle.dr_replay.specs.Following.{NamesIfLeft}
use Rattle.dr_replay.proofs.LeftLaws.{named_by_visits}
use Rattle.dr_replay.proofs.walk.Walk.all_named.Goals as goal

pub returns : goal.returns
returns c =
    let walk = c.args.self.now in
    let run = run_of walk.run.now in
    let law = named_by_visits run c.args.machines.now walk.visits.items walk.visits_are in
    let e : take c.loop-visit.visit-index walk.visits.items ≡ walk.visits.items = take_all c.loop-visit.visit-index walk.visits.items (omega (arith, ap length c.deref-visit-items.ensures.value)) in
    let told : IsTrue c.loop-visit.named ↔ AllByRecursion (λ v. AllByRecursion (NamesIfLeft run c.args.machines.now) v.excused.items) walk.visits.items =
    rw e at c.loop-visit.invariant in
    (λ t. law.0 (told.0 t), λ h. told.1 (law.1 h))
