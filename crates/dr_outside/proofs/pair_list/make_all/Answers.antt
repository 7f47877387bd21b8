use Rattle.std.proofs.Common.{◌≡◌, ◌<◌, length, get_or, ap, ◌∙◌, arith}
use Rattle.std.proofs.lemmas.List.{get_or_default}
use Rattle.dr_outside.specs.Pairs.{made}
use Rattle.dr_outside.specs.PairLists.{no_pair}
use Rattle.dr_outside.proofs.Making.{made_more}
use Rattle.dr_outside.proofs.pair_list.make_all.Goals as goal

pub loop-k-preserved : goal.loop-k-preserved
loop-k-preserved c =
    let fits : get_or c.args.list.now c.loop-k.k-index 0 < length c.loop-k.pairs = omega (arith, c.requires.below c.loop-k.k-index c.loop-k-test.true, c.loop-k.auto.pairs) in
    let is : c.after.result ≡ made c.args.call (get_or c.loop-k.pairs (get_or c.args.list.now c.loop-k.k-index 0) no_pair) =
    c.after.ensures ∙ ap (made c.args.call) (get_or_default c.loop-k.pairs _ _ no_pair fits) in
    rw is (made_more c.args.call c.args.list.now c.args.pairs.now c.loop-k.pairs c.loop-k.k-index c.requires.ascending c.loop-k-test.true fits c.loop-k.invariant)
