use Rattle.std.proofs.Common.{ℕ, ◌+◌, ◌<◌, length, get_or, take, subst, refl, arith}
use Rattle.dr_base.specs.Lists.{has}
use Rattle.dr_wave.specs.declared.slot.Want.{Want}
use Rattle.dr_wave.specs.Waves.{want_at, StepsAt}
use Rattle.dr_wave.proofs.SlotLaws.{none_stepped, step_more, want_stays, pick_not_yet, pick_now, pick_others}
use Rattle.dr_wave.proofs.wave.run_picks.Goals as goal

pub loop-n-init : goal.loop-n-init
loop-n-init g c = none_stepped g.P.Port.tells g.P.Port.state (has (take 0 c.args.picks.now)) (want_at c.args.slots.now) c.args.slots.now (λ i. refl)

pub loop-n-preserved : goal.loop-n-preserved
loop-n-preserved g c =
    let n : ℕ = c.loop-n.n in
    let picks = c.args.picks.now in
    let i : ℕ = get_or picks n 0 in
    let there : i < length c.loop-n.slots = omega (arith, c.requires.within n c.loop-n-test.true) in
    let step : StepsAt g.P.Port.tells g.P.Port.state (want_at c.args.slots.now i) c.loop-n.slots c.step_at.new.slots i =
    subst (λ (want : Want). StepsAt g.P.Port.tells g.P.Port.state want c.loop-n.slots c.step_at.new.slots i) (want_stays c.args.slots.now c.loop-n.slots c.loop-n.invariant.in_place i c.index-slots-i.result there) c.step_at.ensures.steps in
    step_more g.P.Port.tells g.P.Port.state (has (take n picks)) (has (take (n + 1) picks)) (want_at c.args.slots.now) _ _ _ i
    (pick_not_yet picks c.requires.ascending n c.loop-n-test.true) (pick_now picks c.requires.ascending n c.loop-n-test.true) (pick_others picks c.requires.ascending n c.loop-n-test.true) c.loop-n.invariant
    step c.step_at.ensures.others c.step_at.ensures.in_place
