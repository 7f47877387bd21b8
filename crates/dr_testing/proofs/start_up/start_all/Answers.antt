use Rattle.std.proofs.Common.{sym, subst}
use Rattle.dr_outside.specs.Machines.{machine_at}
use Rattle.dr_testing.specs.Placing.{wanted_place}
use Rattle.dr_testing.proofs.WaveLaws.{IsWaveAt, WaveDone, wave_at, all_started, others_all, failed_cause, failed_step, refused_cause, refused_told, refused_step}
use Rattle.dr_testing.proofs.start_up.start_all.Goals as goal

pub start_wave-unstarted-requires-clause-startable :
    goal.start_wave-unstarted-requires-clause-startable
start_wave-unstarted-requires-clause-startable g c = rw c.as_slice.ensures (c.requires.startable.each c.loop-n.n c.index-waves-n.result c.loop-n-test.true)

pub returns-in-Some-clause-others : goal.returns-in-Some-clause-others
returns-in-Some-clause-others g c =
    let e = c.start_wave-unstarted.ensures in
    let it : IsWaveAt c.args.waves.now c.loop-n.n c.as_slice.result.now =
    subst (IsWaveAt c.args.waves.now c.loop-n.n) (sym c.as_slice.ensures) (wave_at c.args.estate.now c.args.waves.now c.requires.startable c.loop-n.n c.index-waves-n.result c.loop-n-test.true) in
    let wave : WaveDone c.as_slice.result.now (wanted_place c.args.estate.now) g.P.Port.tells c.start_wave-unstarted.result.failed c.start_wave-unstarted.result.refused (machine_at g.P.Port.state c.loop-n.ports) (machine_at g.P.Port.state c.start_wave-unstarted.new.ports) =
    record { later = e.later; elsewhere = e.elsewhere; others = e.others; failed = e.failed; refused = e.refused; told = e.told; passed = e.passed; step = e.step; only_failed = e.only_failed } in
    others_all c.args.waves.now (wanted_place c.args.estate.now) g.P.Port.tells c.loop-n.n _ it _ _ _ c.loop-n.invariant (c.start_wave-unstarted.result.failed) (c.start_wave-unstarted.result.refused) wave

pub returns-in-Some-clause-cause : goal.returns-in-Some-clause-cause
returns-in-Some-clause-cause g c =
    let e = c.start_wave-unstarted.ensures in
    let it : IsWaveAt c.args.waves.now c.loop-n.n c.as_slice.result.now =
    subst (IsWaveAt c.args.waves.now c.loop-n.n) (sym c.as_slice.ensures) (wave_at c.args.estate.now c.args.waves.now c.requires.startable c.loop-n.n c.index-waves-n.result c.loop-n-test.true) in
    let wave : WaveDone c.as_slice.result.now (wanted_place c.args.estate.now) g.P.Port.tells c.start_wave-unstarted.result.failed c.start_wave-unstarted.result.refused (machine_at g.P.Port.state c.loop-n.ports) (machine_at g.P.Port.state c.start_wave-unstarted.new.ports) =
    record { later = e.later; elsewhere = e.elsewhere; others = e.others; failed = e.failed; refused = e.refused; told = e.told; passed = e.passed; step = e.step; only_failed = e.only_failed } in
    failed_cause c.args.waves.now (wanted_place c.args.estate.now) g.P.Port.tells c.loop-n.n _ it _ _ _ c.loop-n.invariant c.in-Some.machine _ (rw c.in-Some.is at wave)

pub returns-in-Some-clause-step : goal.returns-in-Some-clause-step
returns-in-Some-clause-step g c =
    let e = c.start_wave-unstarted.ensures in
    let it : IsWaveAt c.args.waves.now c.loop-n.n c.as_slice.result.now =
    subst (IsWaveAt c.args.waves.now c.loop-n.n) (sym c.as_slice.ensures) (wave_at c.args.estate.now c.args.waves.now c.requires.startable c.loop-n.n c.index-waves-n.result c.loop-n-test.true) in
    let wave : WaveDone c.as_slice.result.now (wanted_place c.args.estate.now) g.P.Port.tells c.start_wave-unstarted.result.failed c.start_wave-unstarted.result.refused (machine_at g.P.Port.state c.loop-n.ports) (machine_at g.P.Port.state c.start_wave-unstarted.new.ports) =
    record { later = e.later; elsewhere = e.elsewhere; others = e.others; failed = e.failed; refused = e.refused; told = e.told; passed = e.passed; step = e.step; only_failed = e.only_failed } in
    failed_step c.args.waves.now (wanted_place c.args.estate.now) g.P.Port.tells c.loop-n.n _ it _ _ _ c.loop-n.invariant c.in-Some.machine _ (rw c.in-Some.is at wave)

pub returns-in-Some-refused-clause-others : goal.returns-in-Some-refused-clause-others
returns-in-Some-refused-clause-others g c =
    let e = c.start_wave-unstarted.ensures in
    let it : IsWaveAt c.args.waves.now c.loop-n.n c.as_slice.result.now =
    subst (IsWaveAt c.args.waves.now c.loop-n.n) (sym c.as_slice.ensures) (wave_at c.args.estate.now c.args.waves.now c.requires.startable c.loop-n.n c.index-waves-n.result c.loop-n-test.true) in
    let wave : WaveDone c.as_slice.result.now (wanted_place c.args.estate.now) g.P.Port.tells c.start_wave-unstarted.result.failed c.start_wave-unstarted.result.refused (machine_at g.P.Port.state c.loop-n.ports) (machine_at g.P.Port.state c.start_wave-unstarted.new.ports) =
    record { later = e.later; elsewhere = e.elsewhere; others = e.others; failed = e.failed; refused = e.refused; told = e.told; passed = e.passed; step = e.step; only_failed = e.only_failed } in
    others_all c.args.waves.now (wanted_place c.args.estate.now) g.P.Port.tells c.loop-n.n _ it _ _ _ c.loop-n.invariant (c.start_wave-unstarted.result.failed) (c.start_wave-unstarted.result.refused) wave

pub returns-in-Some-refused-clause-cause : goal.returns-in-Some-refused-clause-cause
returns-in-Some-refused-clause-cause g c =
    let e = c.start_wave-unstarted.ensures in
    let it : IsWaveAt c.args.waves.now c.loop-n.n c.as_slice.result.now =
    subst (IsWaveAt c.args.waves.now c.loop-n.n) (sym c.as_slice.ensures) (wave_at c.args.estate.now c.args.waves.now c.requires.startable c.loop-n.n c.index-waves-n.result c.loop-n-test.true) in
    let wave : WaveDone c.as_slice.result.now (wanted_place c.args.estate.now) g.P.Port.tells c.start_wave-unstarted.result.failed c.start_wave-unstarted.result.refused (machine_at g.P.Port.state c.loop-n.ports) (machine_at g.P.Port.state c.start_wave-unstarted.new.ports) =
    record { later = e.later; elsewhere = e.elsewhere; others = e.others; failed = e.failed; refused = e.refused; told = e.told; passed = e.passed; step = e.step; only_failed = e.only_failed } in
    refused_cause c.args.waves.now (wanted_place c.args.estate.now) g.P.Port.tells c.loop-n.n _ it _ _ _ c.loop-n.invariant c.in-Some-refused.refused (rw (c.in_default.is, c.in-Some-refused.is) at wave)

pub returns-in-Some-refused-clause-told : goal.returns-in-Some-refused-clause-told
returns-in-Some-refused-clause-told g c =
    let e = c.start_wave-unstarted.ensures in
    let it : IsWaveAt c.args.waves.now c.loop-n.n c.as_slice.result.now =
    subst (IsWaveAt c.args.waves.now c.loop-n.n) (sym c.as_slice.ensures) (wave_at c.args.estate.now c.args.waves.now c.requires.startable c.loop-n.n c.index-waves-n.result c.loop-n-test.true) in
    let wave : WaveDone c.as_slice.result.now (wanted_place c.args.estate.now) g.P.Port.tells c.start_wave-unstarted.result.failed c.start_wave-unstarted.result.refused (machine_at g.P.Port.state c.loop-n.ports) (machine_at g.P.Port.state c.start_wave-unstarted.new.ports) =
    record { later = e.later; elsewhere = e.elsewhere; others = e.others; failed = e.failed; refused = e.refused; told = e.told; passed = e.passed; step = e.step; only_failed = e.only_failed } in
    refused_told c.args.waves.now (wanted_place c.args.estate.now) g.P.Port.tells c.loop-n.n _ it _ _ _ c.loop-n.invariant c.in-Some-refused.refused (rw (c.in_default.is, c.in-Some-refused.is) at wave)

pub returns-in-Some-refused-clause-step : goal.returns-in-Some-refused-clause-step
returns-in-Some-refused-clause-step g c =
    let e = c.start_wave-unstarted.ensures in
    let it : IsWaveAt c.args.waves.now c.loop-n.n c.as_slice.result.now =
    subst (IsWaveAt c.args.waves.now c.loop-n.n) (sym c.as_slice.ensures) (wave_at c.args.estate.now c.args.waves.now c.requires.startable c.loop-n.n c.index-waves-n.result c.loop-n-test.true) in
    let wave : WaveDone c.as_slice.result.now (wanted_place c.args.estate.now) g.P.Port.tells c.start_wave-unstarted.result.failed c.start_wave-unstarted.result.refused (machine_at g.P.Port.state c.loop-n.ports) (machine_at g.P.Port.state c.start_wave-unstarted.new.ports) =
    record { later = e.later; elsewhere = e.elsewhere; others = e.others; failed = e.failed; refused = e.refused; told = e.told; passed = e.passed; step = e.step; only_failed = e.only_failed } in
    refused_step c.args.waves.now (wanted_place c.args.estate.now) g.P.Port.tells c.loop-n.n _ it _ _ _ c.loop-n.invariant c.in-Some-refused.refused (rw (c.in_default.is, c.in-Some-refused.is) at wave)

pub loop-n-preserved : goal.loop-n-preserved
loop-n-preserved g c =
    let e = c.start_wave-unstarted.ensures in
    let it : IsWaveAt c.args.waves.now c.loop-n.n c.as_slice.result.now =
    subst (IsWaveAt c.args.waves.now c.loop-n.n) (sym c.as_slice.ensures) (wave_at c.args.estate.now c.args.waves.now c.requires.startable c.loop-n.n c.index-waves-n.result c.loop-n-test.true) in
    let wave : WaveDone c.as_slice.result.now (wanted_place c.args.estate.now) g.P.Port.tells c.start_wave-unstarted.result.failed c.start_wave-unstarted.result.refused (machine_at g.P.Port.state c.loop-n.ports) (machine_at g.P.Port.state c.start_wave-unstarted.new.ports) =
    record { later = e.later; elsewhere = e.elsewhere; others = e.others; failed = e.failed; refused = e.refused; told = e.told; passed = e.passed; step = e.step; only_failed = e.only_failed } in
    all_started c.args.waves.now (wanted_place c.args.estate.now) g.P.Port.tells c.loop-n.n _ it _ _ _ c.loop-n.invariant (rw (c.in_default.is, c.in_default-refused.is) at wave)
