use Rattle.dr_report.specs.Reports.{preview_text_of}
use Rattle.dr_report.proofs.ReportLaws.{groups_high, preview_high, shown_apart}
use Rattle.dr_report.proofs.laws.reports_tell_answers.Goals as goal

pub returns-clause-groups : goal.returns-clause-groups
returns-clause-groups c = λ estate named report answer tells sound names holds is same.
    shown_apart named report answer (groups_high estate report tells) sound names holds is same

pub returns-clause-preview : goal.returns-clause-preview
returns-clause-preview c = λ estate plan named answer sound names holds is same.
    shown_apart named (preview_text_of estate plan) answer (preview_high estate plan) sound names holds is same
