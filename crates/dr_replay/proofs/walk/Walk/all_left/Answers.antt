use Rattle.std.proofs.Common.{IsTrue, rules, tests}
use Rattle.std.proofs.lemmas.Iterator.{YieldsList-from_slice}
use Rattle.std.proofs.lemmas.Iterator.Search.{all_from_yields_List}
use Rattle.dr_meaning.specs.Meaning.{is_left}
use Rattle.dr_replay.specs.Values.{run_of}
use Rattle.dr_replay.proofs.AllTests.{all_tests}
use Rattle.dr_replay.proofs.walk.Walk.all_left.Goals as goal

pub returns : goal.returns
returns c =
    all_tests (λ m. IsTrue (is_left (run_of c.args.self.now.run.now) m)) (λ m. is_left (run_of c.args.self.now.run.now) m) (λ m. (λ h. h, λ h. h)) c.args.machines.now c.all.result
    (all_from_yields_List (λ m. is_left (run_of c.args.self.now.run.now) m) _ _ c.all.result c.all.ensures.ran (YieldsList-from_slice c.args.machines.now cc) (λ x b q k. search (rules, tests)))
