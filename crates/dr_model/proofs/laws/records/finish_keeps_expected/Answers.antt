use Rattle.dr_model.proofs.StaysExpected.{finish_keeps_frames, finish_keeps_posts}
use Rattle.dr_model.proofs.Standing.{regular_of}
use Rattle.dr_model.proofs.laws.records.finish_keeps_expected.Goals as goal

pub returns-clause-frames : goal.returns-clause-frames
returns-clause-frames c = λ setting records runs s. rw s.runs_are (λ n moment group machines y. finish_keeps_frames setting s.rest n moment machines group y s.lawful)

pub returns-clause-posts : goal.returns-clause-posts
returns-clause-posts c = λ setting records runs s. rw s.runs_are (λ n moment group machine machines side y. finish_keeps_posts setting s.rest n moment machines group machine side y s.lawful (regular_of setting records runs s))
