use Rattle.dr_model.proofs.ForeignLaws.{some_post, some_half, listed_post, listed_half}
use Rattle.dr_model.proofs.laws.foreign.wanted_state_exists.Goals as goal

pub returns-clause-post : goal.returns-clause-post
returns-clause-post g = some_post

pub returns-clause-half : goal.returns-clause-half
returns-clause-half g = some_half

pub returns-clause-listed_post : goal.returns-clause-listed_post
returns-clause-listed_post g = listed_post

pub returns-clause-listed_half : goal.returns-clause-listed_half
returns-clause-listed_half g = listed_half
