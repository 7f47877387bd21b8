use Rattle.std.proofs.Common.{◌∙◌, [], sym, ap, append-nil, Some}
use Rattle.dr_lab.specs.KeptText.{kept_text}
use Rattle.dr_lab.proofs.Whole.{taken_again}
use Rattle.dr_lab.proofs.laws.kept_again.Goals as goal

pub returns-in-Some : goal.returns-in-Some
returns-in-Some c = ap (λ k. Some k) (taken_again c.in-Some.ensures c.args.kept c.write_kept.ensures.is (c.as_slice.ensures.value ∙ c.write_kept.ensures.text))

pub returns-in-None : goal.returns-in-None
returns-in-None c = absurd (c.in-None.ensures.none c.args.kept [] c.write_kept.ensures.is (c.as_slice.ensures.value ∙ c.write_kept.ensures.text ∙ sym (append-nil (kept_text c.args.kept))))
