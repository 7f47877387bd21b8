use Rattle.std.specs.Prelude.{is_some}
use Rattle.std.proofs.Common.{sym, ap, ◌∙◌}
use Rattle.dr_walk.proofs.WalkLaws.{answered_here, answered_over, unanswered_over, unanswered_else}
use Rattle.dr_walk.proofs.walk.Walk.is_answered.Goals as goal

pub returns-then-is_some : goal.returns-then-is_some
returns-then-is_some c = λ run w. sym (answered_here c.args.self.now run w c.args.step (sym (ap (λ o. is_some o) c.answer.ensures) ∙ sym c.is_some.ensures ∙ c.if-is_some.true))

pub returns-then-self-ne0 : goal.returns-then-self-ne0
returns-then-self-ne0 c = λ run w.
    c.is_some-then-self-ne0.ensures ∙ ap (λ o. is_some o) c.answer-then-self-ne0.ensures
    ∙ sym (answered_over c.args.self.now run w c.args.step (sym (ap (λ o. is_some o) c.answer.ensures) ∙ sym c.is_some.ensures ∙ c.if-is_some.false) c.in-Failover.is c.if-self-ne0.true)

pub returns-else-self-ne0 : goal.returns-else-self-ne0
returns-else-self-ne0 c = λ run w. unanswered_over c.args.self.now run w c.args.step (sym (ap (λ o. is_some o) c.answer.ensures) ∙ sym c.is_some.ensures ∙ c.if-is_some.false) c.in-Failover.is c.if-self-ne0.false

pub returns-in_default : goal.returns-in_default
returns-in_default c = λ run w. sym (unanswered_else c.args.self.now run w c.args.step (sym (ap (λ o. is_some o) c.answer.ensures) ∙ sym c.is_some.ensures ∙ c.if-is_some.false) c.in_default.not-Failover)
