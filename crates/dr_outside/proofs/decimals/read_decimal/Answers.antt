use Rattle.std.proofs.Common.{rules, ◌≡◌, ◌∙◌}
use Rattle.std.proofs.lemmas.Fmt.{parse-decimal, IsAscii-decimal}
use Rattle.std.proofs.lemmas.Str.{IsUtf8-from_ascii}
use Rattle.dr_outside.proofs.decimals.read_decimal.Goals as goal

pub returns-in_default : goal.returns-in_default
returns-in_default c = λ n small is. c.in_default.ensures.cases.0 (rw is (IsUtf8-from_ascii _ (IsAscii-decimal n small)))

pub returns-in-Ok-parse : goal.returns-in-Ok-parse
returns-in-Ok-parse c = search rules

pub returns-in_default-parse : goal.returns-in_default-parse
returns-in_default-parse c = λ n small is.
    let read = parse-decimal 64 n _ _ small small (c.in-Ok.ensures.cases.0 ∙ is) c.parse.ensures.value.0 in
    let same : c.format.result.now ≡ c.in-Ok.text.now = cc (c.in-Ok.ensures.cases.0) in
    search rules

pub returns-in_default-parse-2 : goal.returns-in_default-parse-2
returns-in_default-parse-2 c = λ n small is. absurd (cc (parse-decimal 64 n _ _ small small (c.in-Ok.ensures.cases.0 ∙ is) c.parse.ensures.value.0))
