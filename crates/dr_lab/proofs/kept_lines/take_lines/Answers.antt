use Rattle.std.proofs.Common.{◌∙◌, [], ◌∷◌, ◌++◌, sym, ap, arith}
use Rattle.dr_lab.specs.KeptText.{code_with}
use Rattle.dr_lab.proofs.Lines.{at_front, later, one_line, code_later, code_none, shorter}
use Rattle.dr_lab.proofs.kept_lines.take_lines.Goals as goal

pub loop-rest-init : goal.loop-rest-init
loop-rest-init c = ([], at_front c.args.bytes.now, code_none c.args.before c.args.token)

pub loop-rest-smaller : goal.loop-rest-smaller
loop-rest-smaller c = shorter c.in-Some.ensures

pub loop-rest-preserved : goal.loop-rest-preserved
loop-rest-preserved c =
    let so_far = c.loop-rest.invariant in
    let kept = c.in-Some.kept in (
      so_far.0 ++ kept ∷ [],
      later so_far.1 (one_line c.in-Some.ensures),
      c.code_with-code.ensures ∙ ap (λ z. code_with z (kept ∷ []) c.args.token) so_far.2 ∙ sym (code_later c.args.before so_far.0 (kept ∷ []) c.args.token),
    )

pub returns-in_default : goal.returns-in_default
returns-in_default c =
    let so_far = c.loop-rest.invariant in
    (so_far.0, c.loop-rest.rest.now, so_far.1, omega arith, c.in_default.ensures)

pub returns : goal.returns
returns c =
    let so_far = c.loop-rest.invariant in
    (so_far.0, so_far.1, omega arith, so_far.2)
