use Rattle.std.proofs.Common.{rules}
use Rattle.std.specs.Prelude.{IsTrue}
use Rattle.dr_base.specs.Names.{is_name}
use Rattle.dr_lab.proofs.Values.{value_taken, value_none, value_other, itself, free_name}
use Rattle.dr_lab.proofs.fields.name.Goals as goal

pub returns-in_default : goal.returns-in_default
returns-in_default c = value_none (λ name. IsTrue (is_name name)) (λ w. w) c.args.front.now c.args.end (free_name c.args.end c.requires) c.in_default.ensures

pub returns-then-is_name : goal.returns-then-is_name
returns-then-is_name c = value_taken (λ name. IsTrue (is_name name)) (λ w. w) c.args.front.now c.args.end (free_name c.args.end c.requires) c.in-Some.ensures (itself (λ name. IsTrue (is_name name)) c.in-Some.word.now (search rules))

pub returns-else-is_name : goal.returns-else-is_name
returns-else-is_name c = value_other (λ name. IsTrue (is_name name)) (λ w. w) c.args.front.now c.args.end (free_name c.args.end c.requires) c.in-Some.ensures (record { none = λ y is e. search rules })
