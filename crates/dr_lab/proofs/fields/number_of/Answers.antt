use Rattle.std.proofs.Common.{◌≡◌, arith}
use Rattle.dr_lab.proofs.Values.{same_number}
use Rattle.dr_lab.proofs.fields.number_of.Goals as goal

pub returns-in-Some : goal.returns-in-Some
returns-in-Some c = record {
  is = c.if-number-greatest.true;
  whole = c.in-Some.ensures;
  only = λ n small is. same_number c.args.greatest c.in-Some.number n c.args.word.now (omega arith) (omega arith) small c.in-Some.ensures is;
}

pub returns-in_default : goal.returns-in_default
returns-in_default c = record {
  none = λ n small is. let same : n ≡ c.in-Some.number = same_number c.args.greatest c.in-Some.number n c.args.word.now (omega arith) (omega arith) small c.in-Some.ensures is in absurd (omega arith);
}
