use Rattle.std.proofs.Common.{◌≡◌, ◌∙◌, ◌++◌, ◌-◌, ℕ, List, Vec, Global, length, map, flat_map, ap, arith}
use Rattle.std.specs.List.{range_with_len}
use Rattle.std.proofs.lemmas.List.{length-map}
use Rattle.std.proofs.lemmas.List.FromFn.{length-map-range_with_len}
use Rattle.dr_plan.specs.Waves.{above, machines_at, waves_at}
use Rattle.dr_plan.specs.Lists.{items_of, waves_from}
use Rattle.dr_plan.proofs.WaveLaws.{waves_by_depth, priority_more}
use Rattle.dr_plan.proofs.wave_lists.waves_in.Goals as goal

pub add_waves-requires : goal.add_waves-requires
add_waves-requires c =
    let f : Vec ℕ Global → List ℕ = λ list. list.items in
    let xs = c.args.machines.now in
    let n = above (map (λ m. m.depth) xs) in
    let long : length (items_of c.in_ok-lists.lists.items) ≡ n = ap length c.in_ok-lists.ensures ∙ length-map-range_with_len (machines_at xs c.loop-priority.priority) 0 n in
    let same : length c.deref.result.now ≡ length c.in_ok-lists.lists.items = ap length c.deref.ensures.value in
    omega (arith, long, same, length-map c.in_ok-lists.lists.items f, c.depth_count-count.ensures.greatest, c.depth_count-count.ensures.small)

pub loop-priority-preserved : goal.loop-priority-preserved
loop-priority-preserved c =
    let xs = c.args.machines.now in
    let p = c.loop-priority.priority in
    let n = above (map (λ m. m.depth) xs) in
    c.in_ok-add_waves.ensures
    ∙ ap (λ lists. c.loop-priority.waves.items ++ waves_from p 0 (items_of lists)) c.deref.ensures.value
    ∙ ap (λ lists. c.loop-priority.waves.items ++ waves_from p 0 lists) c.in_ok-lists.ensures
    ∙ ap (λ ws. c.loop-priority.waves.items ++ ws) (waves_by_depth p 0 n (machines_at xs p))
    ∙ ap (λ ws. ws ++ waves_at xs p) c.loop-priority.invariant
    ∙ priority_more xs p (omega (arith, c.loop-priority.auto.priority))

pub returns : goal.returns
returns c =
    let last : c.loop-priority.priority ≡ 6 = omega (arith, c.loop-priority-test.false, c.loop-priority.auto.priority-end) in
    c.loop-priority.invariant ∙ ap (λ (n : ℕ). flat_map (waves_at c.args.machines.now) (range_with_len 1 (n - 1))) last
