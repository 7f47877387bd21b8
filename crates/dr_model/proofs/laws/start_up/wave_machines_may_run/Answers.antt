use Rattle.dr_model.proofs.MayRunLaws.{may_run}
use Rattle.dr_model.proofs.Standing.{regular_of}
use Rattle.dr_model.proofs.laws.start_up.wave_machines_may_run.Goals as goal

pub returns : goal.returns
returns c = λ setting records runs s. rw s.runs_are (λ run visit earlier m old now at_n going shape starts listed worked none there has_pairs sound readies runner frames commands.
    may_run setting s.rest s.lawful (regular_of setting records runs s) run at_n going visit earlier shape starts m listed worked old now sound there has_pairs none readies runner frames commands)
