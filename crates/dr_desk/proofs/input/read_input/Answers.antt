use Rattle.std.proofs.Common.{◌∙◌, arith, ap, Ok}
use Rattle.dr_desk.proofs.StreamsLaws.{looks_at_all, looks_at_front}
use Rattle.dr_desk.proofs.input.read_input.Goals as goal

pub returns-then-branch-eq0-clause-bytes : goal.returns-then-branch-eq0-clause-bytes
returns-then-branch-eq0-clause-bytes g c = λ tells.
    looks_at_all _ _ _ c.in_ok-read_more.ensures.few
    (c.in_ok-read_more.ensures.end tells (ap Ok c.if-branch-eq0.true))
    (c.in_ok-read_more.ensures.bytes tells ∙ c.loop-source.invariant.whole tells)

pub returns-clause-bytes : goal.returns-clause-bytes
returns-clause-bytes g c = λ tells.
    looks_at_front _ _ _ (omega (arith, c.loop-source.invariant.few)) (c.loop-source.invariant.whole tells)
