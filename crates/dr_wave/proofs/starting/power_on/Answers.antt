use Rattle.std.proofs.Common.{◌≡◌, length, arith, sym}
use Rattle.dr_outside.specs.BySide.{at}
use Rattle.dr_meaning.specs.Outcomes.{IsAsWanted}
use Rattle.dr_wave.specs.Steps.{placed_of}
use Rattle.dr_wave.proofs.StartLaws.{registering_fails, commands_fail, turning_on_fails, turned_on}
use Rattle.dr_wave.proofs.starting.power_on.Goals as goal

pub returns-in-Err-clause-leaves : goal.returns-in-Err-clause-leaves
returns-in-Err-clause-leaves g c = λ tells.
    let stood : IsAsWanted (placed_of c.args.want.now) (at c.args.want.now.side (g.P.Port.state c.args.port.now).post) = rw (c.requires.told tells) c.requires.wanted in
    registering_fails c.args.want.now (g.P.Port.state c.args.port.now) stood _ (g.P.Port.once c.register_machine.new.port tells) (c.in-Err.ensures.made tells).1

pub returns-in-Err-run_two-clause-leaves : goal.returns-in-Err-run_two-clause-leaves
returns-in-Err-run_two-clause-leaves g c = λ tells.
    let stood : IsAsWanted (placed_of c.args.want.now) (at c.args.want.now.side (g.P.Port.state c.args.port.now).post) = rw (c.requires.told tells) c.requires.wanted in
    let four : length c.args.want.now.commands ≡ 4 = omega arith in
    commands_fail c.args.want.now (g.P.Port.state c.args.port.now) stood c.index-want-0.result c.index-want-1.result four _ (c.in-Ok.ensures.made tells) _ (g.P.Port.once c.run_two.new.port tells) (c.in-Err-run_two.ensures.ran tells)

pub returns-in-Err-turn_on-clause-leaves : goal.returns-in-Err-turn_on-clause-leaves
returns-in-Err-turn_on-clause-leaves g c = λ tells.
    let stood : IsAsWanted (placed_of c.args.want.now) (at c.args.want.now.side (g.P.Port.state c.args.port.now).post) = rw (c.requires.told tells) c.requires.wanted in
    let four : length c.args.want.now.commands ≡ 4 = omega arith in
    let on = c.in-Err-turn_on.ensures.made tells in
    turning_on_fails c.args.want.now (g.P.Port.state c.args.port.now) stood c.index-want-0.result c.index-want-1.result four _ (c.in-Ok.ensures.made tells) _ _ _ (g.P.Port.once c.turn_on.new.port tells) (c.in-Ok-run_two.ensures.ran tells) (c.in-Ok-run_two.ensures.told tells)
    c.args.post.now (sym (c.requires.told tells)) on.1 on.2

pub returns-in-Ok-turn_on-clause-leaves : goal.returns-in-Ok-turn_on-clause-leaves
returns-in-Ok-turn_on-clause-leaves g c = λ tells.
    let stood : IsAsWanted (placed_of c.args.want.now) (at c.args.want.now.side (g.P.Port.state c.args.port.now).post) = rw (c.requires.told tells) c.requires.wanted in
    let four : length c.args.want.now.commands ≡ 4 = omega arith in
    turned_on c.args.want.now (g.P.Port.state c.args.port.now) stood c.index-want-0.result c.index-want-1.result four _ (c.in-Ok.ensures.made tells) _ _ _ (g.P.Port.once c.turn_on.new.port tells) (c.in-Ok-run_two.ensures.ran tells) (c.in-Ok-run_two.ensures.told tells)
    (c.in-Ok-turn_on.ensures.made tells)
