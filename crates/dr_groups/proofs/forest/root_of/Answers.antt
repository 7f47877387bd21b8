use Rattle.std.proofs.Common.{◌∙◌, length-set, get_or, sym, arith}
use Rattle.dr_groups.proofs.ForestLaws.{halved-forest, halved-root, root-parent, root-root}
use Rattle.dr_groups.proofs.forest.root_of.Goals as goal

pub loop-parents-preserved : goal.loop-parents-preserved
loop-parents-preserved c =
    let ps = c.loop-parents.parents in
    let at = c.loop-parents.at in
    let before = c.loop-parents.invariant in
    record {
      within = simp length-set (omega (arith, before.forest at, before.forest (get_or ps at 0)));
      forest = halved-forest ps at before.forest before.within;
      here = sym (before.same_trees (get_or ps (get_or ps at 0) 0)) ∙ root-parent ps (get_or ps at 0) before.forest ∙ root-parent ps at before.forest ∙ before.same_trees at ∙ before.here;
      same_trees = λ k. halved-root ps at before.forest before.within k ∙ before.same_trees k;
    }

pub returns-clause-root : goal.returns-clause-root
returns-clause-root c =
    let ps = c.loop-parents.parents in
    let at = c.loop-parents.at in
    sym (root-root ps at c.loop-parents-test.false) ∙ c.loop-parents.invariant.same_trees at ∙ c.loop-parents.invariant.here
