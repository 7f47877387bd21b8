use Rattle.std.proofs.Common.{ℕ, arith, refl}
use Rattle.std.specs.Prelude.{codes, Option}
use Rattle.dr_lab.specs.PairText.{IsRun, run_word}
use Rattle.dr_lab.proofs.Values.{value_taken, value_none, value_other, Free}
use Rattle.dr_lab.proofs.Pairs.{none_free}
use Rattle.dr_lab.proofs.pair_text.run.Goals as goal

free : (run : Option ℕ) → IsRun run → Free 10 (run_word run)
free run is = none_free 10 refl run is (omega arith)

pub returns-in_default : goal.returns-in_default
returns-in_default c = value_none IsRun run_word (codes "snapshot ") 10 free c.in_default.ensures

pub returns-in-Some-run_of : goal.returns-in-Some-run_of
returns-in-Some-run_of c = value_taken IsRun run_word (codes "snapshot ") 10 free c.in-Some.ensures c.in-Some-run_of.ensures

pub returns-in-None : goal.returns-in-None
returns-in-None c = value_other IsRun run_word (codes "snapshot ") 10 free c.in-Some.ensures c.in-None.ensures
