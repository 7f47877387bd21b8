use Rattle.std.proofs.Common.{sym, ap, ◌∙◌}
use Rattle.std.proofs.lemmas.List.{get_or_default}
use Rattle.dr_outside.specs.Pairs.{is_fit}
use Rattle.dr_outside.specs.PairLists.{no_pair}
use Rattle.dr_outside.proofs.Listed.{has_at, listed_before}
use Rattle.dr_outside.proofs.pair_list.first_unfit.Goals as goal

pub returns-then-not-is_fit_for : goal.returns-then-not-is_fit_for
returns-then-not-is_fit_for c = record {
  listed = has_at c.args.list.now c.loop-k.k-index c.loop-k-test.true;
  unfit = ap (is_fit c.args.call) (get_or_default c.args.pairs.now _ no_pair _ (c.requires.below c.loop-k.k-index c.loop-k-test.true)) ∙ sym c.is_fit_for.ensures ∙ c.if-not-is_fit_for.true;
  least = λ j h below. c.loop-k.invariant j (listed_before c.args.list.now c.requires.ascending c.loop-k.k-index j c.loop-k-test.true h below);
}
