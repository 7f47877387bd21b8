use Rattle.std.proofs.Common.{◌≡◌, ◌∙◌, ◌+◌, ◌++◌, [], ℕ, List, Vec, Global, drop, get_or, ap, sym, arith, append_assoc}
use Rattle.std.proofs.lemmas.List.{append-nil, length-map, get_or-map}
use Rattle.dr_plan.specs.Waves.{wave_of}
use Rattle.dr_plan.specs.Lists.{items_of, waves_from}
use Rattle.dr_plan.proofs.WaveLaws.{waves_more, waves_done}
use Rattle.dr_plan.proofs.wave_lists.add_waves.Goals as goal

pub loop-depth-preserved : goal.loop-depth-preserved
loop-depth-preserved c =
    let f : Vec ℕ Global → List ℕ = λ list. list.items in
    let lists = c.args.lists.now in
    let i = c.loop-depth.depth in
    let p = c.args.priority in
    let old = c.loop-depth.waves.items in
    let list = c.deref.result.now in
    let rest = waves_from p (i + 1) (drop (i + 1) (items_of lists)) in
    let read : list ≡ get_or (items_of lists) i [] = c.deref.ensures.value ∙ ap f c.index-lists-depth.is ∙ sym (get_or-map f lists i c.index-lists-depth.result [] c.loop-depth-test.true) in
    ap (λ ws. ws ++ rest) c.in_ok-add_wave.ensures ∙ append_assoc old (wave_of p i list) rest
    ∙ ap (λ ws. old ++ ws) (sym (waves_more p i (items_of lists) list (omega (arith, c.loop-depth-test.true, length-map lists f)) read)) ∙ c.loop-depth.invariant

pub returns : goal.returns
returns c =
    let f : Vec ℕ Global → List ℕ = λ list. list.items in
    let lists = c.args.lists.now in
    let i = c.loop-depth.depth in
    sym (append-nil c.loop-depth.waves.items)
    ∙ ap (λ ws. c.loop-depth.waves.items ++ ws) (sym (waves_done c.args.priority i (items_of lists) (omega (arith, c.loop-depth-test.false, length-map lists f)))) ∙ c.loop-depth.invariant
