use Rattle.std.proofs.Common.{◌≡◌, Ok, sym, ◌∙◌, arith, subst, decimal}
use Rattle.std.specs.Str.{IsUtf8}
use Rattle.std.proofs.lemmas.Fmt.{IsAscii-decimal, parse-decimal}
use Rattle.std.proofs.lemmas.Str.{IsUtf8-from_ascii}
use Rattle.dr_outside.proofs.exit_codes.number_of.Goals as goal

pub returns-in_default-clause-value : goal.returns-in_default-clause-value
returns-in_default-clause-value c = λ code small is. absurd (c.in_default.ensures.cases.0 (subst IsUtf8 (sym is) (IsUtf8-from_ascii (decimal code) (IsAscii-decimal code (omega (arith, small))))))

pub returns-in-Ok-parse-clause-value : goal.returns-in-Ok-parse-clause-value
returns-in-Ok-parse-clause-value c = λ code small is.
    let read : c.parse.result ≡ Ok code = parse-decimal 8 code c.in-Ok.text.now c.parse.result (omega (arith, small)) (omega (arith, small)) (c.in-Ok.ensures.cases.0 ∙ is) c.parse.ensures.value.0 in
    let found = c.in-Ok-parse.is in
    cc

pub returns-in-Err-clause-value : goal.returns-in-Err-clause-value
returns-in-Err-clause-value c = λ code small is.
    let read : c.parse.result ≡ Ok code = parse-decimal 8 code c.in-Ok.text.now c.parse.result (omega (arith, small)) (omega (arith, small)) (c.in-Ok.ensures.cases.0 ∙ is) c.parse.ensures.value.0 in
    let found = c.in-Err.is in
    cc
