use Rattle.std.proofs.Common.{◌≡◌, ◌-◌, ◌<◌, false, length, subst, arith}
use Rattle.dr_disk.specs.Spans.{is_within}
use Rattle.dr_disk.specs.declared.spans.Span.{Span}
use Rattle.dr_disk.proofs.SpanLaws.{list_any-set}
use Rattle.dr_disk.proofs.spans.add_span.Goals as goal

pub returns-clause-spans : goal.returns-clause-spans
returns-clause-spans c = λ place none.
    let inside : c.len-count.result - 1 < length c.args.spans.now.items = omega arith in
    (list_any-set (is_within place) c.args.spans.now.items (c.len-count.result - 1) c.wider-last.result c.index.result.now inside
    (λ missed. subst (λ (span : Span). is_within place span ≡ false) c.index.ensures (c.wider-last.ensures.first place missed)) none).0

pub returns-clause-span : goal.returns-clause-span
returns-clause-span c = λ place none.
    let inside : c.len-count.result - 1 < length c.args.spans.now.items = omega arith in
    c.wider-last.ensures.second place
    (list_any-set (is_within place) c.args.spans.now.items (c.len-count.result - 1) c.wider-last.result c.index.result.now inside
    (λ missed. subst (λ (span : Span). is_within place span ≡ false) c.index.ensures (c.wider-last.ensures.first place missed)) none).1
