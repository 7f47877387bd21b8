use Rattle.std.proofs.Common.{◌∙◌, ap, not, is_some}
use Rattle.dr_outside.specs.PairLists.{pair_at}
use Rattle.dr_outside.proofs.Listed.{listed_below}
use Rattle.dr_sim.proofs.Ending.{fit_by}
use Rattle.dr_sim.proofs.sim_array.make_unless_unfit.Goals as goal

pub target_half-requires : goal.target_half-requires
target_half-requires c = listed_below c.args.list.now _ c.requires.below c.in-Some.k c.in-Some.ensures.listed

pub returns : goal.returns
returns c =
    (fit_by c.args.call c.args.list.now (pair_at c.args.pairs.now) c.first_unfit.result c.first_unfit.ensures ∙ ap (λ found. not (is_some found)) c.in_default.is, c.make_all.ensures)
