use Rattle.std.proofs.Common.{ℕ, List, Vec, Global}
use Rattle.dr_plan.proofs.DependentLaws.{rows-push}
use Rattle.dr_plan.proofs.wave_lists.add.Goals as goal

pub returns : goal.returns
returns c =
    let f : Vec ℕ Global → List ℕ = λ list. list.items in
    rows-push f c.args.lists.now.items c.args.depth c.args.machine c.index_mut.result.now c.push.new.self c.requires c.index_mut.ensures.value c.in_ok-push.ensures.items
