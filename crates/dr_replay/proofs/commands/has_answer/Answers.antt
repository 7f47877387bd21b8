use Rattle.std.proofs.Common.{sym, ◌∙◌, rules, tests}
use Rattle.std.proofs.lemmas.Iterator.{YieldsList-from_slice}
use Rattle.std.proofs.lemmas.Iterator.Search.{any_from_yields_List}
use Rattle.dr_meaning.specs.Lawful.{is_answer}
use Rattle.dr_replay.proofs.Told.{any_told}
use Rattle.dr_replay.proofs.commands.has_answer.Goals as goal

pub returns : goal.returns
returns c =
    any_from_yields_List (λ r. is_answer c.args.step r.now) _ _ c.any.result c.any.ensures.ran (YieldsList-from_slice c.args.log.now cc) (λ x b q k. search (rules, tests))
    ∙ sym (any_told (λ r. r.now) (is_answer c.args.step) c.args.log.now)
