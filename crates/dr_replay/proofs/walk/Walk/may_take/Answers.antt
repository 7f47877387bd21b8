use Rattle.dr_replay.proofs.walk.Walk.may_take.Goals as goal

pub returns-in-Code : goal.returns-in-Code
returns-in-Code c = λ n h. rw c.in-Code.is c.may_code.ensures
