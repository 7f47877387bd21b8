use Rattle.std.proofs.Common.{not, ◌||◌, rules, tests}
use Rattle.std.proofs.lemmas.Iterator.{YieldsList-from_slice}
use Rattle.std.proofs.lemmas.Iterator.Search.{all_from_yields_List}
use Rattle.dr_base.specs.Lists.{has}
use Rattle.dr_meaning.specs.Meaning.{is_left}
use Rattle.dr_replay.specs.Values.{run_of}
use Rattle.dr_replay.specs.Following.{NamesIfLeft}
use Rattle.dr_replay.proofs.AllTests.{all_tests}
use Rattle.dr_replay.proofs.walk.Walk.are_named.Goals as goal

pub returns : goal.returns
returns c =
    all_tests (NamesIfLeft (run_of c.args.self.now.run.now) c.args.machines.now) (λ m. not (is_left (run_of c.args.self.now.run.now) m) || has c.args.machines.now m) (λ m. search (rules, tests)) c.args.excused.now c.all.result
    (all_from_yields_List (λ m. not (is_left (run_of c.args.self.now.run.now) m) || has c.args.machines.now m) _ _ c.all.result c.all.ensures.ran (YieldsList-from_slice c.args.excused.now cc) (λ x b q k. search (rules, tests)))
