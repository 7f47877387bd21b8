use Rattle.dr_model.proofs.ForeignLaws.{post_differs, half_differs, one_post, one_half}
use Rattle.dr_model.proofs.laws.foreign.foreign_codes_differ.Goals as goal

pub returns-clause-post : goal.returns-clause-post
returns-clause-post g = post_differs

pub returns-clause-half : goal.returns-clause-half
returns-clause-half g = half_differs

pub returns-clause-one_post : goal.returns-clause-one_post
returns-clause-one_post g = one_post

pub returns-clause-one_half : goal.returns-clause-one_half
returns-clause-one_half g = one_half
