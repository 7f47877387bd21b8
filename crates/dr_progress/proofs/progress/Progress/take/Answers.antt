use Rattle.dr_progress.proofs.progress.Progress.take.Goals as goal

pub returns-in-Attempt-clause-kept : goal.returns-in-Attempt-clause-kept
returns-in-Attempt-clause-kept c = rw c.in-Attempt.is (λ log few may kept. c.attempt.ensures _ _ _ log few kept)

pub returns-in-Begin-clause-kept : goal.returns-in-Begin-clause-kept
returns-in-Begin-clause-kept c = rw c.in-Begin.is (λ log few may kept. c.begin.ensures.kept log few may kept)

pub returns-in-Done-clause-kept : goal.returns-in-Done-clause-kept
returns-in-Done-clause-kept c = rw c.in-Done.is (λ log few may kept. c.done.ensures _ _ _ log may kept)

pub returns-in-Some-clause-kept : goal.returns-in-Some-clause-kept
returns-in-Some-clause-kept c = rw c.in-Aside.is (λ log few may kept. c.set_aside.ensures.kept _ log few c.in-Some.is kept)

pub returns-in-Code-clause-kept : goal.returns-in-Code-clause-kept
returns-in-Code-clause-kept c = rw c.in-Code.is (λ log few may kept. c.add_code.ensures.kept _ _ log kept)

pub returns-in-Finish-clause-kept : goal.returns-in-Finish-clause-kept
returns-in-Finish-clause-kept c = rw c.in-Finish.is (λ log few may kept. c.finish.ensures _ _ _ log kept)
