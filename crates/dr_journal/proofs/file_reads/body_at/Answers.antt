use Rattle.std.proofs.Common.{◌≡◌, Some, None, Ok, Err, sym, ◌∙◌, ap, arith}
use Rattle.dr_journal.specs.Gates.{gate_in, answer_at}
use Rattle.dr_journal.specs.Places.{AreAt}
use Rattle.dr_journal.proofs.NextRecord.{stands_inside, are_taken, next_none, next_some, no_damage, damage_fault}
use Rattle.dr_journal.proofs.file_reads.body_at.Goals as goal

pub read_range-requires-clause-inside : goal.read_range-requires-clause-inside
read_range-requires-clause-inside g c = λ f reads.
    let rest = c.requires.trimmed f reads in
    let inside = stands_inside f rest.0 rest.1 c.args.at (c.requires.gate f reads) in
    omega (arith, c.requires.ends f reads, c.min.ensures, c.saturating_sub-left.ensures)

pub returns-in-Err-clause-fault : goal.returns-in-Err-clause-fault
returns-in-Err-clause-fault g c =
    damage_fault _ _ _ c.args.at c.saturating_sub-left.result c.gate_of.result c.in-Err.fault (sym c.body_size.ensures ∙ c.in-Err.is) (λ f reads.
    let rest = c.requires.trimmed f reads in
    let gate = c.requires.gate f reads in
    let inside = stands_inside f rest.0 rest.1 c.args.at gate in
    let ends = c.requires.ends f reads in
    let head = c.in_ok-head.head.items in
    let remaining = c.saturating_sub-left.result in
    let are : AreAt f c.args.at head = are_taken f head c.args.at c.min.result (c.in_ok-head.ensures.bytes f reads) (omega (arith, c.min.ensures, c.saturating_sub-left.ensures)) in
    let told : answer_at c.args.at remaining (gate_in remaining head) ≡ Err c.in-Err.fault = ap (answer_at c.args.at remaining) (sym (c.gate_of.ensures ∙ ap (gate_in remaining) c.deref.ensures.value)) ∙ sym c.body_size.ensures ∙ c.in-Err.is in
    no_damage f rest.0 rest.1 c.args.at remaining head are (omega (arith, c.saturating_sub-left.ensures)) (omega (arith, c.in_ok-head.ensures.size, c.min.ensures)) c.in-Err.fault gate.0 gate.1 gate.2 gate.3 told)

pub returns-in-Ok-None-clause-next : goal.returns-in-Ok-None-clause-next
returns-in-Ok-None-clause-next g c = λ f reads.
    let rest = c.requires.trimmed f reads in
    let gate = c.requires.gate f reads in
    let inside = stands_inside f rest.0 rest.1 c.args.at gate in
    let ends = c.requires.ends f reads in
    let head = c.in_ok-head.head.items in
    let remaining = c.saturating_sub-left.result in
    let are : AreAt f c.args.at head = are_taken f head c.args.at c.min.result (c.in_ok-head.ensures.bytes f reads) (omega (arith, c.min.ensures, c.saturating_sub-left.ensures)) in
    let told : answer_at c.args.at remaining (gate_in remaining head) ≡ Ok None = ap (answer_at c.args.at remaining) (sym (c.gate_of.ensures ∙ ap (gate_in remaining) c.deref.ensures.value)) ∙ sym c.body_size.ensures ∙ c.in-Ok-None.is ∙ ap Ok c.in-Ok-None.field-0-is in
    next_none f rest.0 rest.1 c.args.at remaining head are (omega (arith, c.saturating_sub-left.ensures)) (omega (arith, c.in_ok-head.ensures.size, c.min.ensures)) told

pub returns-clause-next : goal.returns-clause-next
returns-clause-next g c = λ f reads.
    let rest = c.requires.trimmed f reads in
    let gate = c.requires.gate f reads in
    let inside = stands_inside f rest.0 rest.1 c.args.at gate in
    let ends = c.requires.ends f reads in
    let head = c.in_ok-head.head.items in
    let remaining = c.saturating_sub-left.result in
    let are : AreAt f c.args.at head = are_taken f head c.args.at c.min.result (c.in_ok-head.ensures.bytes f reads) (omega (arith, c.min.ensures, c.saturating_sub-left.ensures)) in
    let told : answer_at c.args.at remaining (gate_in remaining head) ≡ Ok (Some c.in-Ok-Some.size) = ap (answer_at c.args.at remaining) (sym (c.gate_of.ensures ∙ ap (gate_in remaining) c.deref.ensures.value)) ∙ sym c.body_size.ensures ∙ c.in-Ok-Some.is ∙ ap Ok c.in-Ok-Some.field-0-is in
    next_some f rest.0 rest.1 c.args.at remaining head are (omega (arith, c.saturating_sub-left.ensures)) (omega (arith, c.in_ok-head.ensures.size, c.min.ensures)) c.in-Ok-Some.size c.in_ok-body-in-Ok-Some.body.items told (c.in_ok-body-in-Ok-Some.ensures.bytes f (c.read_range.ensures.same ∙ reads))
