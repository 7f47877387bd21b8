use Rattle.std.proofs.Common.{◌<◌, ◌∙◌, length, arith}
use Rattle.dr_groups.specs.Forests.{root}
use Rattle.dr_groups.proofs.ForestLaws.{halved-forest, halved-root, flattened_more}
use Rattle.dr_groups.proofs.forest.flatten.Goals as goal

pub loop-i-preserved : goal.loop-i-preserved
loop-i-preserved c =
    let ps = c.loop-i.parents in
    let i = c.loop-i.i in
    let before = c.loop-i.invariant in
    let within : i < length ps = omega arith in
    record {
      forest = halved-forest ps i before.forest within;
      same_trees = λ k. halved-root ps i before.forest within k ∙ before.same_trees k;
      flat = flattened_more ps i (root c.args.parents.now) before.forest within before.same_trees before.flat;
    }
