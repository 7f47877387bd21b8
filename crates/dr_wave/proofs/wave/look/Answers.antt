use Rattle.std.proofs.Common.{ℕ, ◌+◌, arith}
use Rattle.std.specs.Prelude.{nat_lt}
use Rattle.std.proofs.lemmas.Bool.{le-ltb, lt-ltb}
use Rattle.dr_wave.specs.declared.slot.Want.{Want}
use Rattle.dr_wave.proofs.SlotLaws.{none_stepped, step_more, place_not_yet, place_now, place_others}
use Rattle.dr_wave.proofs.wave.look.Goals as goal

pub loop-i-init : goal.loop-i-init
loop-i-init g c = none_stepped g.P.Port.tells g.P.Port.state (λ i. nat_lt i 0) (λ _. Want.Look) c.args.slots.now (λ i. le-ltb i 0 (omega arith))

pub loop-i-preserved : goal.loop-i-preserved
loop-i-preserved g c =
    let n : ℕ = c.loop-i.i in
    step_more g.P.Port.tells g.P.Port.state (λ i. nat_lt i n) (λ i. nat_lt i (n + 1)) (λ _. Want.Look) _ _ _ n (place_not_yet n) (place_now n) (place_others n) c.loop-i.invariant
    c.step_at.ensures.steps c.step_at.ensures.others c.step_at.ensures.in_place

pub returns-clause-steps : goal.returns-clause-steps
returns-clause-steps g c = λ i within. c.loop-i.invariant.steps i (lt-ltb i c.loop-i.i (omega (arith, within)))
