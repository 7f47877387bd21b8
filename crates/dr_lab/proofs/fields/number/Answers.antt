use Rattle.std.proofs.Common.{◌≤◌, arith}
use Rattle.std.specs.Prelude.{decimal}
use Rattle.dr_lab.proofs.Values.{value_taken, value_none, value_other, free_decimal}
use Rattle.dr_lab.proofs.fields.number.Goals as goal

pub returns-in_default : goal.returns-in_default
returns-in_default c = value_none (λ n. n ≤ c.args.greatest) decimal c.args.front.now c.args.end (free_decimal c.args.greatest c.args.end c.requires (omega arith)) c.in_default.ensures

pub returns-in-Some-number_of : goal.returns-in-Some-number_of
returns-in-Some-number_of c = value_taken (λ n. n ≤ c.args.greatest) decimal c.args.front.now c.args.end (free_decimal c.args.greatest c.args.end c.requires (omega arith)) c.in-Some.ensures c.in-Some-number_of.ensures

pub returns-in-None : goal.returns-in-None
returns-in-None c = value_other (λ n. n ≤ c.args.greatest) decimal c.args.front.now c.args.end (free_decimal c.args.greatest c.args.end c.requires (omega arith)) c.in-Some.ensures c.in-None.ensures
