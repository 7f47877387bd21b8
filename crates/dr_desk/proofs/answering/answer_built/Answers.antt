use Rattle.dr_testing.specs.Tests.{outside}
use Rattle.dr_desk.specs.Calls.{said_by}
use Rattle.dr_desk.proofs.AnswerLaws.{test_tells}
use Rattle.dr_desk.proofs.CauseLaws.{built_said}
use Rattle.dr_desk.proofs.answering.answer_built.Goals as goal

-- src/answering.rt:46:5
pub tell-requires-clause-numbers : goal.tell-requires-clause-numbers
tell-requires-clause-numbers g c =
    (test_tells g.A.Array.tells g.P.Port.tells c.args.estate.now c.args.plan.now
    (outside g.A.Array.state g.P.Port.state c.args.array.now c.args.ports.now)
    (outside g.A.Array.state g.P.Port.state c.test_plan-answer.new.array c.test_plan-answer.new.ports)
    c.test_plan-answer.result c.requires.testable c.test_plan-answer.ensures.cause).numbers

-- src/answering.rt:27:1
pub returns : goal.returns
returns g c =
    let old = outside g.A.Array.state g.P.Port.state c.args.array.now c.args.ports.now in
    let new = outside g.A.Array.state g.P.Port.state c.test_plan-answer.new.array c.test_plan-answer.new.ports in
    let is = c.test_plan-answer.ensures in
    let tells = test_tells g.A.Array.tells g.P.Port.tells c.args.estate.now c.args.plan.now old new c.test_plan-answer.result c.requires.testable is.cause in
    built_said g.A.Array.tells g.P.Port.tells c.args.estate.now old new (said_by c.tell.result c.tell.new.text.items) c.args.plan.now c.test_plan-answer.result
    (c.tell.ensures.short tells.short) is.cause is.nothing is.no_pairs is.pairs_done is.pairs_kept is.machines_done is.machines_kept is.order
