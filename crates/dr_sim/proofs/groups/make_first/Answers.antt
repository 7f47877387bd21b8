use Rattle.std.proofs.Common.{false, not, get_or, ap, sym, ◌∙◌}
use Rattle.dr_outside.specs.PairLists.{pair_at}
use Rattle.dr_sim.specs.Groups.{least_of}
use Rattle.dr_sim.proofs.Ending.{fit_by, none_made, marked_made}
use Rattle.dr_sim.proofs.groups.make_first.Goals as goal

pub returns-then-is_some : goal.returns-then-is_some
returns-then-is_some c = none_made c.args.call c.args.list.now (least_of c.args.entries.now) (pair_at c.args.pairs.now) c.args.groups (fit_by c.args.call c.args.list.now (pair_at c.args.pairs.now) c.first_unfit.result c.first_unfit.ensures ∙ ap not (sym c.is_some.ensures ∙ c.if-is_some.true))

pub returns : goal.returns
returns c =
    marked_made c.args.call c.args.list.now (least_of c.args.entries.now) (pair_at c.args.pairs.now) (pair_at c.make_marked.new.pairs) c.args.groups (λ g. get_or c.mark_first.new.marks g false) (fit_by c.args.call c.args.list.now (pair_at c.args.pairs.now) c.first_unfit.result c.first_unfit.ensures ∙ ap not (sym c.is_some.ensures ∙ c.if-is_some.false)) c.mark_first.ensures c.make_marked.ensures
