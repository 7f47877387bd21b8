use Rattle.std.proofs.Common.{◌∙◌, ℕ, List, false, map, slice_index, sym, ap, [], arith}
use Rattle.std.proofs.lemmas.List.{get_or_read}
use Rattle.dr_plan.specs.Waves.{above}
use Rattle.dr_plan.proofs.DepthLaws.{passing-more}
use Rattle.dr_plan.proofs.depths.pass.Goals as goal

pub returns-clause-passing : goal.returns-clause-passing
returns-clause-passing c =
    let g = c.args.graph.now in
    let m = c.args.machine in
    let depths = c.args.depths.now.items in
    let passed = c.args.passed.now.items in
    passing-more g depths passed m c.above_all-depth.result c.requires.passing c.requires.within
    (sym (get_or_read passed m c.index.result.now (omega (arith, c.requires.within, c.requires.passing.one_mark_each)) c.index.ensures false) ∙ c.if-index.false)
    c.requires.followed
    (c.above_all-depth.ensures
    ∙ ap (λ (ds : List ℕ). above (map (slice_index ds) c.as_slice.result.now)) c.deref.ensures.value
    ∙ ap (λ (row : List ℕ). above (map (slice_index depths) row)) (c.as_slice.ensures ∙ get_or_read g m c.index-graph-machine.result c.requires.within c.index-graph-machine.is []))
