use Rattle.dr_model.proofs.TokenLaws.{tokens_once, keeps_codes}
use Rattle.dr_model.proofs.laws.calls.commands_keep_tokens_once.Goals as goal

pub returns-clause-once : goal.returns-clause-once
returns-clause-once c = tokens_once

pub returns-clause-keeps : goal.returns-clause-keeps
returns-clause-keeps c = keeps_codes
