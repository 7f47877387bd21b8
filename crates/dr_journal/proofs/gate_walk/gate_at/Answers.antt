use Rattle.std.proofs.Common.{◌≡◌, ◌+◌, ◌-◌, ◌≤◌, length, drop, min, sym, ◌∙◌, ap, subst, arith, length-drop, get_or, ◌<◌, ℕ, List}
use Rattle.dr_journal.specs.Gates.{gate_in}
use Rattle.dr_journal.specs.Places.{AreAt}
use Rattle.dr_journal.proofs.Reader.{are_from}
use Rattle.dr_journal.proofs.OpeningWalk.{whole_gate, field_fits}
use Rattle.dr_journal.proofs.gate_walk.gate_at.Goals as goal

pub returns-clause-gate : goal.returns-clause-gate
returns-clause-gate g c = λ f reads.
    let at = c.args.at in
    let window = c.hold.new.self in
    let head = drop (at - window.start) window.bytes.items in
    let enough : min 5 (c.args.end - at) ≤ length head = omega (arith, length-drop (at - window.start) window.bytes.items, c.in_ok-hold.ensures.held, c.min.ensures, c.in_ok-hold.ensures.first) in
    let are : AreAt f at head = are_from f window.bytes.items window.start at c.in_ok-hold.ensures.first (omega (arith, c.in_ok-hold.ensures.last)) (c.in_ok-hold.ensures.bytes f reads) in
    c.gate_in_bytes.ensures.gate ∙ ap (gate_in (c.args.end - at)) c.from.ensures ∙ whole_gate f head at (c.args.end - at) are enough (omega (arith, length-drop at f, c.requires.ends f reads))

pub returns-clause-fits : goal.returns-clause-fits
returns-clause-fits g c = λ f reads.
    let at = c.args.at in
    let window = c.hold.new.self in
    let head = drop (at - window.start) window.bytes.items in
    let enough : min 5 (c.args.end - at) ≤ length head = omega (arith, length-drop (at - window.start) window.bytes.items, c.in_ok-hold.ensures.held, c.min.ensures, c.in_ok-hold.ensures.first) in
    let are : AreAt f at head = are_from f window.bytes.items window.start at c.in_ok-hold.ensures.first (omega (arith, c.in_ok-hold.ensures.last)) (c.in_ok-hold.ensures.bytes f reads) in
    field_fits f head at (c.args.end - at) are (subst (λ (l : List ℕ). (i : ℕ) → get_or l i 0 < 256) c.from.ensures c.gate_in_bytes.ensures.fits) enough (omega (arith, c.requires.ends f reads, c.requires.inside))
