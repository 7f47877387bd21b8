use Rattle.dr_report.proofs.AnswerLaws.{told_apart}
use Rattle.dr_report.proofs.laws.texts_tell_answers.Goals as goal

pub returns : goal.returns
returns c = told_apart
