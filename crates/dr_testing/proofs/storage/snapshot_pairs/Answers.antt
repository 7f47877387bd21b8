use Rattle.dr_outside.proofs.Listed.{listed_below}
use Rattle.dr_testing.proofs.StorageLaws.{after_sync, after_start, told_by_sync, told_by_start}
use Rattle.dr_testing.proofs.storage.snapshot_pairs.Goals as goal

pub returns-in-Err-clause-step : goal.returns-in-Err-clause-step
returns-in-Err-clause-step g c = λ tells opening.
    after_sync c.args.run c.args.list.now (g.A.Array.state c.args.array.now) opening (listed_below c.args.list.now _ c.requires.below) (g.A.Array.state c.sync.new.self) _ (c.in-Err.ensures.step tells)

pub returns-in-Ok-clause-step : goal.returns-in-Ok-clause-step
returns-in-Ok-clause-step g c = λ tells opening.
    after_start c.args.run c.args.list.now (g.A.Array.state c.args.array.now) opening (listed_below c.args.list.now _ c.requires.below) (g.A.Array.state c.sync.new.self) c.in-Ok.ensures.cause.group (c.in-Ok.ensures.step tells) (g.A.Array.state c.test_start.new.self) _ (c.test_start.ensures.step tells)

pub returns-in-Err-clause-told : goal.returns-in-Err-clause-told
returns-in-Err-clause-told g c = λ tells.
    told_by_sync c.args.run c.args.list.now (g.A.Array.state c.args.array.now) (g.A.Array.state c.sync.new.self) _ (c.in-Err.ensures.step tells)

pub returns-in-Ok-clause-told : goal.returns-in-Ok-clause-told
returns-in-Ok-clause-told g c = λ tells.
    told_by_start c.args.run c.args.list.now (g.A.Array.state c.args.array.now) (g.A.Array.state c.sync.new.self) (g.A.Array.state c.test_start.new.self) (c.in-Ok.ensures.step tells) _ (c.test_start.ensures.step tells)
