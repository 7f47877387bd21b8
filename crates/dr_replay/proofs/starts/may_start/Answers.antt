use Rattle.dr_replay.proofs.starts.may_start.Goals as goal

pub returns-in-Some : goal.returns-in-Some
returns-in-Some c = rw (← c.in-Some.ensures) (c.may_start_of.ensures c.args.plans.now)

pub returns-in-None : goal.returns-in-None
returns-in-None c = rw (← c.in-None.ensures) ((λ t. absurd cc), λ may. absurd may)
