use Rattle.dr_model.proofs.ForeignLaws.{half_expected}
use Rattle.dr_model.proofs.laws.foreign.questions_are_not_foreign.Goals as goal

pub returns-clause-posts : goal.returns-clause-posts
returns-clause-posts g = λ setting runs world sound g m side of_group there. sound.machines g m of_group there side

pub returns-clause-halves : goal.returns-clause-halves
returns-clause-halves g = half_expected
