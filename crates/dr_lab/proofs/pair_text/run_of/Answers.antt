use Rattle.std.proofs.lemmas.Slice.Eq.{slice_eq-Decides}
use Rattle.std.proofs.lemmas.Bool.Decides.{Decides-eqb}
use Rattle.dr_lab.proofs.Pairs.{no_run}
use Rattle.dr_lab.proofs.pair_text.run_of.Goals as goal

pub returns-then-eq : goal.returns-then-eq
returns-then-eq c = no_run c.args.word.now (cc ((slice_eq-Decides Decides-eqb c.args.word.now c.as_slice.result.now c.eq.result c.eq.ensures).0 c.if-eq.true))
