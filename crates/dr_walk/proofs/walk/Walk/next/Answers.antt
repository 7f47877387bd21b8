use Rattle.std.proofs.Common.{sym, ◌∙◌}
use Rattle.dr_walk.proofs.NextLaws.{next_again, next_undone, may_begin_first}
use Rattle.dr_walk.proofs.walk.Walk.next.Goals as goal

pub returns-in-Some-due-clause-told : goal.returns-in-Some-due-clause-told
returns-in-Some-due-clause-told c = λ run w. sym (next_again c.args.self.now run w c.in-Some-due.stage (sym w.keeps.stages.begun ∙ c.in_default.is) (c.in-Some-due.ensures.due run.log w.keeps c.in_default.is))

pub returns-in-None-clause-told : goal.returns-in-None-clause-told
returns-in-None-clause-told c = λ run w.
    let none = sym w.keeps.stages.begun ∙ c.in_default.is in
    c.first_unwalked.ensures.told run w none ∙ sym (next_undone c.args.self.now run w none (c.in-None.ensures.due run.log w.keeps c.in_default.is))

pub returns-in-None-clause-follows : goal.returns-in-None-clause-follows
returns-in-None-clause-follows c = λ run w none. may_begin_first c.args.self.now run w none c.first_unwalked.result c.first_unwalked.ensures.first c.in-None.ensures.waits
