use Rattle.std.proofs.Common.{ℕ, get_or, refl, subst}
use Rattle.dr_outside.specs.Machines.{machine_at}
use Rattle.dr_testing.specs.Placing.{wanted_place}
use Rattle.dr_testing.proofs.StartLaws.{StartsAt, try}
use Rattle.dr_testing.proofs.start_up.start_wave.Goals as goal

pub loop-n-preserved : goal.loop-n-preserved
loop-n-preserved g c =
    let e = c.start_at.ensures in
    let machine : ℕ = get_or c.args.wave.now c.loop-n.n 0 in
    let started : StartsAt g.P.Port.tells (wanted_place c.args.estate.now machine) machine (machine_at g.P.Port.state c.loop-n.ports) (machine_at g.P.Port.state c.start_at.new.ports) c.start_at.result =
    subst (λ place. StartsAt g.P.Port.tells place machine (machine_at g.P.Port.state c.loop-n.ports) (machine_at g.P.Port.state c.start_at.new.ports) c.start_at.result) c.test_placement-place.ensures
    (record { later = e.later; cause = e.cause; told = e.told; elsewhere = e.elsewhere; step = e.step; others = e.others }) in
    rw (c.after-unstarted.ensures.failed, c.after-unstarted.ensures.refused)
    (try c.args.wave.now c.requires.startable.ascending (wanted_place c.args.estate.now) g.P.Port.tells _ c.loop-n.n c.loop-n-test.true machine refl _ _ _ _ c.loop-n.invariant c.start_at.result started)
