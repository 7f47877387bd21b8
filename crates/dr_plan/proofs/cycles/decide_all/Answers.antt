use Rattle.std.proofs.Common.{◌≡◌, ◌+◌, ◌-◌, ◌<◌, ℕ, length, get_or, subst, arith}
use Rattle.std.proofs.lemmas.List.Elements.{All-get_or}
use Rattle.dr_plan.specs.Walks.{AreSeenFrom}
use Rattle.dr_plan.proofs.CycleLaws.{settled-seen, seen-all}
use Rattle.dr_plan.proofs.cycles.decide_all.Goals as goal

pub decide-requires-clause-settled : goal.decide-requires-clause-settled
decide-requires-clause-settled c =
    let g = c.args.graph.now in
    let order = c.args.order.now in
    let n = c.loop-place.place in
    let place = n - 1 in
    let last : place + 1 ≡ n = omega arith in
    let lower : place < length order = omega arith in
    settled-seen g order c.loop-place.seen c.loop-place.marks place n (get_or order place 0) c.requires.graph c.loop-place.invariant.decided c.requires.all c.loop-place.invariant.seen last
    (c.requires.in_order place lower) (All-get_or (λ k. k < length g) order place 0 lower c.requires.within)

pub returns-clause-all : goal.returns-clause-all
returns-clause-all c =
    let P : ℕ → Type 0 = λ n. AreSeenFrom c.loop-place.seen c.args.order.now n in
    let none : c.loop-place.place ≡ 0 = omega arith in
    seen-all (length c.args.graph.now) c.loop-place.seen c.args.order.now c.requires.all (subst P none c.loop-place.invariant.seen)
