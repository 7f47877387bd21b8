use Rattle.std.proofs.Common.{◌≡◌, ◌≤◌, [], length, drop, ap, arith}
use Rattle.std.proofs.lemmas.List.{ext_get_or, drop_all}
use Rattle.dr_disk.specs.Spans.{is_changed}
use Rattle.dr_disk.proofs.spans.copy_spans.Goals as goal

pub returns : goal.returns
returns c =
    let ended : length c.args.spans.now ≤ c.loop-span.span-index = omega arith in
    let none : drop c.loop-span.span-index c.args.spans.now ≡ [] = drop_all _ _ ended in
    ext_get_or 0 _ _ c.loop-span.invariant.lengths (λ place lt. c.loop-span.invariant.same place (ap (λ spans. is_changed spans place) none))
