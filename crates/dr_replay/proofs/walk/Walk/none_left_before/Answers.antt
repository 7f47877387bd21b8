use Rattle.std.proofs.Common.{◌≡◌, ◌≤◌, true, not, ◌||◌, nat_le, rules, tests}
use Rattle.std.proofs.lemmas.Iterator.{YieldsList-from_slice}
use Rattle.std.proofs.lemmas.Iterator.Search.{all_from_yields_List}
use Rattle.dr_meaning.specs.Meaning.{is_left}
use Rattle.dr_replay.specs.Values.{run_of}
use Rattle.dr_replay.proofs.AllTests.{all_tests}
use Rattle.dr_replay.proofs.walk.Walk.none_left_before.Goals as goal

pub returns : goal.returns
returns c =
    all_tests (λ d. is_left (run_of c.args.self.now.run.now) d ≡ true → c.args.by ≤ d) (λ d. not (is_left (run_of c.args.self.now.run.now) d) || nat_le c.args.by d) (λ d. search (rules, tests)) c.args.machines.now c.all.result
    (all_from_yields_List (λ d. not (is_left (run_of c.args.self.now.run.now) d) || nat_le c.args.by d) _ _ c.all.result c.all.ensures.ran (YieldsList-from_slice c.args.machines.now cc) (λ x b q k. search (rules, tests)))
