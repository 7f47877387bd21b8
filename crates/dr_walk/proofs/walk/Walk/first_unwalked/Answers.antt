use Rattle.std.specs.Prelude.{◌<◌, ◌≤◌, length}
use Rattle.std.proofs.Common.{sym}
use Rattle.dr_meaning.specs.Runs.{stages_of}
use Rattle.dr_walk.proofs.NextLaws.{unwalked_told, all_walked}
use Rattle.dr_walk.proofs.walk.Walk.first_unwalked.Goals as goal

pub returns-then-self-len-clause-told : goal.returns-then-self-len-clause-told
returns-then-self-len-clause-told c = λ run w none.
    let within : c.args.self.now.progress.now.walked < length (stages_of run) = rw (c.len.ensures, w.stages) at c.if-self-len.true in
    sym (unwalked_told c.args.self.now run w none within)

pub returns-else-self-len-clause-told : goal.returns-else-self-len-clause-told
returns-else-self-len-clause-told c = λ run w none.
    let over : length (stages_of run) ≤ c.args.self.now.progress.now.walked = rw (c.len.ensures, w.stages) at c.if-self-len.false in
    sym (all_walked c.args.self.now run w none over)
