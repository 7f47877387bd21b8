use Rattle.std.proofs.Common.{ap, ◌∙◌}
use Rattle.dr_base.specs.Lists.{has}
use Rattle.dr_meaning.specs.Runs.{op}
use Rattle.dr_model.proofs.StartWaves.{start_ascends}
use Rattle.dr_walk.proofs.walk.Walk.has_machine.Goals as goal

pub returns : goal.returns
returns c = λ run w.
    let same = c.machines.ensures run w in
    c.has.ensures (rw same (start_ascends run.plan w.ordered (op run) run.start.forced c.args.number)) ∙ ap (λ ms. has ms c.args.machine) same
