use Rattle.std.proofs.Common.{sym, ◌∙◌}
use Rattle.dr_walk.proofs.WalkLaws.{left_told, not_left_told}
use Rattle.dr_walk.proofs.walk.Walk.is_left.Goals as goal

pub returns-in-Some : goal.returns-in-Some
returns-in-Some c = λ run w.
    c.is_excused.ensures ∙ sym (w.keeps.excuses.told c.in-Some.stage c.args.machine)
    ∙ sym (left_told c.args.self.now run w c.args.machine c.in-Some.stage (sym c.start.ensures ∙ c.in-Some.is))

pub returns-in-None : goal.returns-in-None
returns-in-None c = λ run w. sym (not_left_told c.args.self.now run w c.args.machine (sym c.start.ensures ∙ c.in-None.is))
