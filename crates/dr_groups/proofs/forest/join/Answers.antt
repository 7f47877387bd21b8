use Rattle.std.proofs.Common.{◌<◌, ◌∙◌, length, arith}
use Rattle.dr_groups.proofs.ForestLaws.{root-below, joined_after}
use Rattle.dr_groups.proofs.forest.join.Goals as goal

pub bounds-parents-max : goal.bounds-parents-max
bounds-parents-max c = omega (arith, root-below c.args.parents.now c.args.a c.requires.forest, root-below c.root_of-x.new.parents c.args.b c.root_of-x.ensures.forest)

pub returns-clause-joined : goal.returns-clause-joined
returns-clause-joined c =
    let ps = c.root_of-y.new.parents in
    let within_a : c.args.a < length ps = omega arith in
    let within_b : c.args.b < length ps = omega arith in
    joined_after c.args.parents.now ps c.args.a c.args.b c.root_of-x.result c.root_of-y.result c.max.result c.min.result
    c.root_of-y.ensures.forest within_a within_b
    (λ k. c.root_of-y.ensures.same_trees k ∙ c.root_of-x.ensures.same_trees k)
    c.root_of-x.ensures.root (c.root_of-y.ensures.root ∙ c.root_of-x.ensures.same_trees c.args.b)
    c.max.ensures c.min.ensures
