use Rattle.std.proofs.Common.{Option, IfSome, ap, subst, Err, is_some}
use Rattle.dr_base.specs.declared.group_fault.GroupFault.{GroupFault}
use Rattle.dr_groups.specs.Groups.{IsFirstFault}
use Rattle.dr_groups.proofs.FaultLaws.{is_split, is_in_two, is_no_fault, split_open, shared_twice}
use Rattle.dr_groups.proofs.holdings.members.Goals as goal

pub returns-in-Ok-Some-clause-not_closed : goal.returns-in-Ok-Some-clause-not_closed
returns-in-Ok-Some-clause-not_closed c = λ g i o split more.
    let P : Option GroupFault → Type 0 = λ found. IfSome found (IsFirstFault c.args.estate.now) in
    ap Err (is_split c.args.estate.now c.in-Ok-Some.fault g i o (subst P c.in-Ok-Some.field-0-is c.in-Ok-Some.ensures.fault) split (λ e. more (ap Err e)))

pub returns-in-Ok-Some-clause-in_two : goal.returns-in-Ok-Some-clause-in_two
returns-in-Ok-Some-clause-in_two c = λ d g h two more.
    let P : Option GroupFault → Type 0 = λ found. IfSome found (IsFirstFault c.args.estate.now) in
    ap Err (is_in_two c.args.estate.now c.in-Ok-Some.fault d g h (subst P c.in-Ok-Some.field-0-is c.in-Ok-Some.ensures.fault) two (λ e. more (ap Err e)))

pub returns-in-Ok-Some-clause-passing : goal.returns-in-Ok-Some-clause-passing
returns-in-Ok-Some-clause-passing c = λ passes more.
    let P : Option GroupFault → Type 0 = λ found. IfSome found (IsFirstFault c.args.estate.now) in
    absurd (is_no_fault c.args.estate.now c.in-Ok-Some.fault (subst P c.in-Ok-Some.field-0-is c.in-Ok-Some.ensures.fault) passes (λ e. more (ap Err e)))

pub returns-in-Ok-clause-not_closed : goal.returns-in-Ok-clause-not_closed
returns-in-Ok-clause-not_closed c = λ g i o split more.
    absurd (split_open c.args.estate.now g i o split.least.splits ((c.in-Ok-None.ensures.passes (ap is_some c.in-Ok-None.field-0-is)).closed g))

pub returns-in-Ok-clause-in_two : goal.returns-in-Ok-clause-in_two
returns-in-Ok-clause-in_two c = λ d g h two more.
    absurd (shared_twice c.args.estate.now d g h two.shared.shared ((c.in-Ok-None.ensures.passes (ap is_some c.in-Ok-None.field-0-is)).apart d))
