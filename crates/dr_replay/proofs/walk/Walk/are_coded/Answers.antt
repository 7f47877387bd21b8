use Rattle.std.proofs.Common.{IsTrue, rules, tests}
use Rattle.std.proofs.lemmas.Iterator.{YieldsList-from_slice}
use Rattle.std.proofs.lemmas.Iterator.Search.{all_from_yields_List}
use Rattle.dr_meaning.specs.Lawful.{is_coded}
use Rattle.dr_replay.specs.Values.{run_of}
use Rattle.dr_replay.proofs.AllTests.{all_tests}
use Rattle.dr_replay.proofs.walk.Walk.are_coded.Goals as goal

pub returns : goal.returns
returns c =
    all_tests (λ t. IsTrue (is_coded (run_of c.args.self.now.run.now) t c.args.machine)) (λ t. is_coded (run_of c.args.self.now.run.now) t c.args.machine) (λ t. (λ h. h, λ h. h)) c.args.tokens.now c.all.result
    (all_from_yields_List (λ t. is_coded (run_of c.args.self.now.run.now) t c.args.machine) _ _ c.all.result c.all.ensures.ran (YieldsList-from_slice c.args.tokens.now cc) (λ x b q k. search (rules, tests)))
