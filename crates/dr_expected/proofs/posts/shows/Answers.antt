use Rattle.std.proofs.Common.{arith, ◌≡◌, true, false, sym, ◌∙◌}
use Rattle.std.proofs.lemmas.List.{take_all}
use Rattle.dr_expected.proofs.PostLaws.{shows-here, shows-on}
use Rattle.dr_expected.proofs.posts.shows.Goals.{then-is_standing, else-is_standing}
use Rattle.dr_expected.proofs.posts.shows.Goals as goal

pub loop-standing-preserved : goal.loop-standing-preserved
loop-standing-preserved c =
    elim c.if-is_standing.branch [
      | then-is_standing w ↦ shows-here c.args.list.now c.loop-standing.standing-index c.standing-item.result c.args.post.now (omega arith) c.standing-item.is c.if-is_standing.found (w.found-is ∙ w.if-is_standing.true) (c.is_standing.ensures.0 w.if-is_standing.true)
      | else-is_standing w ↦ shows-on c.args.list.now c.loop-standing.standing-index c.standing-item.result c.args.post.now (omega arith) c.standing-item.is c.if-is_standing.found c.loop-standing.found w.found-is (λ stands. let t : c.is_standing.result ≡ true = c.is_standing.ensures.1 stands in let wrong : true ≡ false = sym t ∙ w.if-is_standing.false in absurd cc) c.loop-standing.invariant
    ]

pub returns : goal.returns
returns c = let all = take_all c.loop-standing.standing-index c.args.list.now (omega arith) in rw all at c.loop-standing.invariant
