use Rattle.std.proofs.Common.{rules}
use Rattle.std.specs.Prelude.{IsTrue}
use Rattle.dr_base.specs.Paths.{is_path}
use Rattle.dr_lab.proofs.Values.{value_taken, value_none, value_other, itself, free_path}
use Rattle.dr_lab.proofs.fields.path.Goals as goal

pub returns-in_default : goal.returns-in_default
returns-in_default c = value_none (λ path. IsTrue (is_path path)) (λ w. w) c.args.front.now c.args.end (free_path c.args.end c.requires) c.in_default.ensures

pub returns-then-is_path : goal.returns-then-is_path
returns-then-is_path c = value_taken (λ path. IsTrue (is_path path)) (λ w. w) c.args.front.now c.args.end (free_path c.args.end c.requires) c.in-Some.ensures (itself (λ path. IsTrue (is_path path)) c.in-Some.word.now (search rules))

pub returns-else-is_path : goal.returns-else-is_path
returns-else-is_path c = value_other (λ path. IsTrue (is_path path)) (λ w. w) c.args.front.now c.args.end (free_path c.args.end c.requires) c.in-Some.ensures (record { none = λ y is e. search rules })
