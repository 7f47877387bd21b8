use Rattle.std.proofs.Common.{◌≡◌, length, arith}
use Rattle.dr_outside.specs.BySide.{at}
use Rattle.dr_meaning.specs.Outcomes.{IsAsWanted}
use Rattle.dr_wave.specs.Steps.{placed_of}
use Rattle.dr_wave.proofs.KeptLaws.{all_is_first}
use Rattle.dr_wave.proofs.StartLaws.{after_leaves, start_made}
use Rattle.dr_wave.proofs.starting.start_from.Goals as goal

pub returns-in-Err-run_two-clause-leaves : goal.returns-in-Err-run_two-clause-leaves
returns-in-Err-run_two-clause-leaves g c = λ tells.
    let stood : IsAsWanted (placed_of c.args.want.now) (at c.args.want.now.side (g.P.Port.state c.args.port.now).post) = rw (c.requires.told tells) c.requires.wanted in
    let four : length c.args.want.now.commands ≡ 4 = omega arith in
    let ran = c.in-Err-run_two.ensures.ran tells in
    after_leaves c.args.want.now (g.P.Port.state c.args.port.now) stood c.index-want-2.result c.index-want-3.result four _ _ _ (c.in-Ok.ensures.powered tells) ran.post ran.ran (g.P.Port.once c.run_two.new.port tells)

pub returns-in-Ok-run_two-clause-leaves : goal.returns-in-Ok-run_two-clause-leaves
returns-in-Ok-run_two-clause-leaves g c = λ tells.
    let stood : IsAsWanted (placed_of c.args.want.now) (at c.args.want.now.side (g.P.Port.state c.args.port.now).post) = rw (c.requires.told tells) c.requires.wanted in
    let four : length c.args.want.now.commands ≡ 4 = omega arith in
    let ran = c.in-Ok-run_two.ensures.ran tells in
    after_leaves c.args.want.now (g.P.Port.state c.args.port.now) stood c.index-want-2.result c.index-want-3.result four _ _ _ (c.in-Ok.ensures.powered tells) ran.post (all_is_first _ _ _ _ ran.ran) (g.P.Port.once c.run_two.new.port tells)

pub returns-in-Ok-run_two-clause-told : goal.returns-in-Ok-run_two-clause-told
returns-in-Ok-run_two-clause-told g c = λ tells.
    let stood : IsAsWanted (placed_of c.args.want.now) (at c.args.want.now.side (g.P.Port.state c.args.port.now).post) = rw (c.requires.told tells) c.requires.wanted in
    let four : length c.args.want.now.commands ≡ 4 = omega arith in
    let ran = c.in-Ok-run_two.ensures.ran tells in
    start_made c.args.want.now (g.P.Port.state c.args.port.now) stood c.index-want-2.result c.index-want-3.result four _ _ _ (c.in-Ok.ensures.powered tells) ran.post (all_is_first _ _ _ _ ran.ran) _ _ (c.in-Ok-run_two.ensures.told tells)
