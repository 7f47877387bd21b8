use Rattle.std.proofs.Common.{take, map, drop, get_or, suc, ◌++◌}
use Rattle.std.specs.Prelude.{codes}
use Rattle.std.specs.Option.{option_copied}
use Rattle.dr_report.specs.Lines.{spaced, spelled}
use Rattle.dr_report.specs.Texts.{machine_names, name_at}
use Rattle.dr_report.proofs.machines.add_machines.Goals as goal
use Rattle.dr_report.proofs.LineLaws.{around, fails_after}

pub returns-in_err-add_word : goal.returns-in_err-add_word
returns-in_err-add_word c =
    let machines = c.args.machines.now in
    let i = c.loop-machine.machine-index in
    let name = name_at (machine_names (option_copied c.args.estate)) in
    let before = spaced (map name (take i machines)) in
    let rest = spaced (map name (drop (suc i) machines)) in
    rw (around name machines i 0 c.loop-machine-test.true, ← c.machine_name.ensures.value) (fails_after c.args.out.now c.loop-machine.out c.add_word.new.out before (codes " " ++ c.machine_name.result.now) rest _ c.from_residual.result c.from_residual.ensures.0 c.loop-machine.invariant.items c.loop-machine.invariant.capacity c.in_err-add_word.ensures)
