use Rattle.std.proofs.Common.{◌<◌, ℕ, List, length, get_or, ap, map, set, Vec, Global, arith}
use Rattle.std.proofs.lemmas.List.{length-map}
use Rattle.dr_plan.proofs.DependentLaws.{rows-push, depends-push}
use Rattle.dr_plan.proofs.dependents.note.Goals as goal

pub returns : goal.returns
returns c =
    let f : Vec ℕ Global → List ℕ = λ row. row.items in
    let rows = c.args.rows.now in
    let d = c.args.dependency in
    let within : d < length (map f rows) = omega (arith, length-map rows f) in
    depends-push (map f rows) (map f (set rows d c.push.new.self)) d c.args.machine within
    (rows-push f rows d c.args.machine (get_or rows d c.index-rows-dependency.result) c.push.new.self c.requires (ap (get_or rows d) c.index-rows-dependency.is) c.in_ok-push.ensures.items)
