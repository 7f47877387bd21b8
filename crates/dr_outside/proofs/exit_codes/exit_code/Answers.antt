use Rattle.std.proofs.Common.{◌≡◌, Some, sym, ◌∙◌, ap, arith, lit<, ◌++◌, codes, decimal}
use Rattle.std.proofs.lemmas.Bool.{true≢false}
use Rattle.dr_outside.proofs.ExitNames.{none_below, one_below, rest_is}
use Rattle.dr_outside.proofs.exit_codes.exit_code.Goals as goal

pub returns-in_default : goal.returns-in_default
returns-in_default c = sym (none_below 256 c.args.name.now (λ code below is. c.in_default.ensures _ (c.bytes.ensures.value ∙ is)))

pub returns-in_default-number_of : goal.returns-in_default-number_of
returns-in_default-number_of c = sym (none_below 256 c.args.name.now (λ code below is.
    c.in_default-number_of.not-Some code (c.number_of.ensures.value code (omega (arith, below)) (rest_is c.args.name.now c.in-Some.digits.now code (sym c.bytes.ensures.value ∙ c.in-Some.ensures) is))))

pub returns-then-spells : goal.returns-then-spells
returns-then-spells c =
    sym (one_below 256 c.args.name.now c.in-Some-number_of.code (lit< tt) (omega (arith, c.in-Some-number_of.ensures.small)) (sym c.bytes.ensures.value ∙ c.in-Some.ensures ∙ ap (λ digits. codes "exit-" ++ digits) (c.spells.ensures.0 c.if-spells.true)))

pub returns-else-spells : goal.returns-else-spells
returns-else-spells c = sym (none_below 256 c.args.name.now (λ code below is.
    let digits = rest_is c.args.name.now c.in-Some.digits.now code (sym c.bytes.ensures.value ∙ c.in-Some.ensures) is in
    let read : c.number_of.result ≡ Some code = c.number_of.ensures.value code (omega (arith, below)) digits in
    let found = c.in-Some-number_of.is in
    let same : code ≡ c.in-Some-number_of.code = cc in
    true≢false (sym (c.spells.ensures.1 (digits ∙ ap decimal same)) ∙ c.if-spells.false)))
