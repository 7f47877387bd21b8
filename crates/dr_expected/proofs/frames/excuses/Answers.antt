use Rattle.std.proofs.Common.{ap, sym, ◌∙◌}
use Rattle.dr_base.specs.Lists.{has}
use Rattle.dr_expected.proofs.ShownLaws.{has-reverse}
use Rattle.dr_expected.proofs.frames.excuses.Goals as goal

pub returns : goal.returns
returns c =
    c.has.ensures ∙ ap (λ xs. has xs c.args.machine) c.as_slice.ensures.value ∙ sym (has-reverse c.args.visit.now.excused.items c.args.machine)
