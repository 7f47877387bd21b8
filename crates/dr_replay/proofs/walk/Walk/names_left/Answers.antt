use Rattle.std.proofs.Common.{sym, ◌∙◌}
use Rattle.std.proofs.lemmas.Bool.{false≢true}
use Rattle.dr_replay.specs.Values.{run_of}
use Rattle.dr_replay.proofs.LeftLaws.{names_left_told}
use Rattle.dr_replay.proofs.walk.Walk.names_left.Goals as goal

pub returns-then-all_left : goal.returns-then-all_left
returns-then-all_left c =
    let law = names_left_told (run_of c.args.self.now.run.now) c.args.machines.now in
    (λ t. law.0 (c.all_left.ensures.0 c.if-all_left.true, c.all_named.ensures.0 t), λ h. c.all_named.ensures.1 (law.1 h).1)

pub returns-else-all_left : goal.returns-else-all_left
returns-else-all_left c =
    let law = names_left_told (run_of c.args.self.now.run.now) c.args.machines.now in
    (λ t. absurd (false≢true (sym c.if-all_left.false ∙ t)), λ h. c.all_left.ensures.1 (law.1 h).0)
