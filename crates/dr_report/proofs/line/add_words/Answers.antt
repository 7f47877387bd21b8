use Rattle.std.proofs.Common.{take, map, drop, get_or, suc, ◌++◌}
use Rattle.std.specs.Prelude.{codes}
use Rattle.dr_report.specs.Lines.{spaced, spelled}
use Rattle.dr_report.proofs.line.add_words.Goals as goal
use Rattle.dr_report.proofs.LineLaws.{around, fails_after, no_word}

pub returns-in_err-add_word : goal.returns-in_err-add_word
returns-in_err-add_word c =
    let words = c.args.words.now in
    let i = c.loop-word.word-index in
    let before = spaced (map spelled (take i words)) in
    let text = codes " " ++ spelled (get_or words i no_word) in
    let rest = spaced (map spelled (drop (suc i) words)) in
    rw (around spelled words i no_word c.loop-word-test.true) (fails_after c.args.out.now c.loop-word.out c.add_word.new.out before text rest _ c.from_residual.result c.from_residual.ensures.0 c.loop-word.invariant.items c.loop-word.invariant.capacity c.in_err-add_word.ensures)
