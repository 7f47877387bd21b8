use Rattle.std.proofs.Common.{◌≡◌, sym, ◌∙◌, ap, arith, nat_eq, List, ℕ}
use Rattle.std.specs.List.{starts_with}
use Rattle.dr_journal.specs.Reading.{header, form_1}
use Rattle.dr_journal.proofs.FileParts.{journal_in_other}
use Rattle.dr_journal.proofs.OpeningWalk.{begins_alike}
use Rattle.dr_journal.proofs.gate_walk.find_closing_gate.Goals as goal

pub returns-then-not-starts_with-clause-fault : goal.returns-then-not-starts_with-clause-fault
unfolding header
returns-then-not-starts_with-clause-fault g c = λ f reads.
    let window = c.hold.new.self in
    let alike = begins_alike form_1 f window.bytes.items window.start c.in_ok-hold.ensures.first (omega (arith, c.in_ok-hold.ensures.held)) (c.in_ok-hold.ensures.bytes f reads) in
    journal_in_other form_1 f (omega (arith, c.requires.size f reads, c.requires.long)) (sym alike ∙ ap (λ (l : List ℕ). starts_with nat_eq l (header form_1)) (sym c.from.ensures) ∙ sym c.starts_with.ensures.value ∙ c.if-not-starts_with.true)

pub walk_gates-requires-clause-begun : goal.walk_gates-requires-clause-begun
unfolding header
walk_gates-requires-clause-begun g c = λ f reads.
    let window = c.hold.new.self in
    let alike = begins_alike form_1 f window.bytes.items window.start c.in_ok-hold.ensures.first (omega (arith, c.in_ok-hold.ensures.held)) (c.in_ok-hold.ensures.bytes f (sym c.hold.ensures.same ∙ reads)) in
    sym alike ∙ ap (λ (l : List ℕ). starts_with nat_eq l (header form_1)) (sym c.from.ensures) ∙ sym c.starts_with.ensures.value ∙ c.if-not-starts_with.false
