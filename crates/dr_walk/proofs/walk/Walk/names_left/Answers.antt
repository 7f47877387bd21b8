use Rattle.std.proofs.lemmas.Bool.{eqb-true}
use Rattle.dr_walk.proofs.WalkLaws.{left_named_by}
use Rattle.dr_walk.proofs.walk.Walk.names_left.Goals as goal

pub returns-then-machines-self : goal.returns-then-machines-self
returns-then-machines-self c = λ run w up.
    let law = left_named_by c.args.self.now run w c.args.machines.now up in
    (λ t. law.0 (c.if-machines-self.true, (c.all_left.ensures run w).0 t), λ h. (c.all_left.ensures run w).1 (law.1 h).1)

pub returns-else-machines-self : goal.returns-else-machines-self
returns-else-machines-self c = λ run w up.
    let law = left_named_by c.args.self.now run w c.args.machines.now up in
    (λ t. absurd (c.if-machines-self.false (eqb-true _ _ t)), λ h. absurd (c.if-machines-self.false (law.1 h).0))
