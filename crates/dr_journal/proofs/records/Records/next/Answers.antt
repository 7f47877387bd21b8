use Rattle.std.proofs.Common.{◌≡◌, ◌-◌, ◌≤◌, length, drop, min, Some, None, Ok, Err, refl, sym, ◌∙◌, ap, arith, length-drop}
use Rattle.dr_journal.specs.Gates.{gate_in, answer_at}
use Rattle.dr_journal.specs.Places.{AreAt}
use Rattle.dr_journal.specs.Walk.{ReaderState}
use Rattle.dr_journal.proofs.NextRecord.{damage_fault}
use Rattle.dr_journal.proofs.Reader.{are_from, ends_there, goes_to, damage_there, body_shown, body_length, body_told, answer_kept}
use Rattle.dr_journal.proofs.records.Records.next.Goals as goal

pub returns-in-Err-clause-fault : goal.returns-in-Err-clause-fault
returns-in-Err-clause-fault g c =
    let at = c.self.inside.next_place in
    let end = c.self.inside.end in
    let window = c.hold.new.self in
    let head = drop (at - window.start) window.bytes.items in
    let place = sym (ap (λ (reader : ReaderState). reader.next_place) c.self.view_is) in
    let long = ap (λ (reader : ReaderState). reader.file_length) c.self.view_is in
    let invariant = c.self.invariant in
    let enough : min 5 (end - at) ≤ length head = omega (arith, length-drop (at - window.start) window.bytes.items, c.in_ok-hold.ensures.held, c.min.ensures, c.in_ok-hold.ensures.first) in
    damage_fault _ _ _ at (end - at) c.gate_of-gate.result c.in-Err.fault (sym c.body_size.ensures ∙ c.in-Err.is) (λ f reads.
    let are : AreAt f at head = are_from f window.bytes.items window.start at c.in_ok-hold.ensures.first (omega (arith, c.in_ok-hold.ensures.last)) (c.in_ok-hold.ensures.bytes f reads) in
    let told : answer_at at (end - at) (gate_in (end - at) head) ≡ Err c.in-Err.fault = ap (answer_at at (end - at)) (sym (c.gate_of-gate.ensures ∙ ap (gate_in (end - at)) c.from.ensures)) ∙ sym c.body_size.ensures ∙ c.in-Err.is in
    let stands = c.requires.at f reads in
    damage_there c.args.self.now c.args.self.now f head at (end - at) place refl (omega arith) are enough c.in-Err.fault told stands.0 stands.1 stands.2)

pub returns-in-Ok-None-clause-next : goal.returns-in-Ok-None-clause-next
returns-in-Ok-None-clause-next g c = λ f reads.
    let at = c.self.inside.next_place in
    let end = c.self.inside.end in
    let window = c.hold.new.self in
    let head = drop (at - window.start) window.bytes.items in
    let place = sym (ap (λ (reader : ReaderState). reader.next_place) c.self.view_is) in
    let long = ap (λ (reader : ReaderState). reader.file_length) c.self.view_is in
    let invariant = c.self.invariant in
    let enough : min 5 (end - at) ≤ length head = omega (arith, length-drop (at - window.start) window.bytes.items, c.in_ok-hold.ensures.held, c.min.ensures, c.in_ok-hold.ensures.first) in
    let are : AreAt f at head = are_from f window.bytes.items window.start at c.in_ok-hold.ensures.first (omega (arith, c.in_ok-hold.ensures.last)) (c.in_ok-hold.ensures.bytes f reads) in
    let told : answer_at at (end - at) (gate_in (end - at) head) ≡ Ok None = ap (answer_at at (end - at)) (sym (c.gate_of-gate.ensures ∙ ap (gate_in (end - at)) c.from.ensures)) ∙ sym c.body_size.ensures ∙ c.in-Ok-None.is ∙ ap Ok c.in-Ok-None.field-0-is in
    ends_there c.args.self.now _ f head at (end - at) place long (omega arith) are enough (c.in_ok-hold.ensures.bytes f reads) told refl

pub returns-in_ok-hold-in-Ok-Some-clause-next : goal.returns-in_ok-hold-in-Ok-Some-clause-next
returns-in_ok-hold-in-Ok-Some-clause-next g c = λ f reads.
    let at = c.self.inside.next_place in
    let end = c.self.inside.end in
    let window = c.hold.new.self in
    let head = drop (at - window.start) window.bytes.items in
    let place = sym (ap (λ (reader : ReaderState). reader.next_place) c.self.view_is) in
    let long = ap (λ (reader : ReaderState). reader.file_length) c.self.view_is in
    let invariant = c.self.invariant in
    let enough : min 5 (end - at) ≤ length head = omega (arith, length-drop (at - window.start) window.bytes.items, c.in_ok-hold.ensures.held, c.min.ensures, c.in_ok-hold.ensures.first) in
    let are : AreAt f at head = are_from f window.bytes.items window.start at c.in_ok-hold.ensures.first (omega (arith, c.in_ok-hold.ensures.last)) (c.in_ok-hold.ensures.bytes f reads) in
    let size = c.in-Ok-Some.size in
    let now = c.hold-in-Ok-Some.new.self in
    let told : answer_at at (end - at) (gate_in (end - at) head) ≡ Ok (Some size) = ap (answer_at at (end - at)) (sym (c.gate_of-gate.ensures ∙ ap (gate_in (end - at)) c.from.ensures)) ∙ sym c.body_size.ensures ∙ c.in-Ok-Some.is ∙ ap Ok c.in-Ok-Some.field-0-is in
    let shows = c.in_ok-hold-in-Ok-Some.ensures.bytes f (c.hold.ensures.same ∙ reads) in
    let read = body_shown f now.bytes.items now.start at size _ _ c.in_ok-hold-in-Ok-Some.ensures.first (omega (arith, c.in_ok-hold-in-Ok-Some.ensures.held)) refl refl shows in
    goes_to c.args.self.now _ f head at (end - at) place long (omega arith) are enough size shows told refl read

pub returns-in_ok-hold-in-Ok-Some-clause-answer : goal.returns-in_ok-hold-in-Ok-Some-clause-answer
returns-in_ok-hold-in-Ok-Some-clause-answer g c =
    let at = c.self.inside.next_place in
    let end = c.self.inside.end in
    let window = c.hold.new.self in
    let head = drop (at - window.start) window.bytes.items in
    let place = sym (ap (λ (reader : ReaderState). reader.next_place) c.self.view_is) in
    let long = ap (λ (reader : ReaderState). reader.file_length) c.self.view_is in
    let invariant = c.self.invariant in
    let enough : min 5 (end - at) ≤ length head = omega (arith, length-drop (at - window.start) window.bytes.items, c.in_ok-hold.ensures.held, c.min.ensures, c.in_ok-hold.ensures.first) in
    let size = c.in-Ok-Some.size in
    let now = c.hold-in-Ok-Some.new.self in
    let told : answer_at at (end - at) (gate_in (end - at) head) ≡ Ok (Some size) = ap (answer_at at (end - at)) (sym (c.gate_of-gate.ensures ∙ ap (gate_in (end - at)) c.from.ensures)) ∙ sym c.body_size.ensures ∙ c.in-Ok-Some.is ∙ ap Ok c.in-Ok-Some.field-0-is in
    let keeps = c.in_ok-hold-in-Ok-Some.ensures.keeps in
    let sized = body_length now.bytes.items now.start at size _ _ c.in_ok-hold-in-Ok-Some.ensures.first (omega (arith, c.in_ok-hold-in-Ok-Some.ensures.held)) refl refl in
    answer_kept at (end - at) size head (drop (at - now.start) now.bytes.items) keeps.0 _ keeps.1 enough (omega (arith, length-drop (at - now.start) now.bytes.items, c.in_ok-hold-in-Ok-Some.ensures.within, c.in_ok-hold-in-Ok-Some.ensures.first)) told sized

pub returns-in_ok-hold-in-Ok-Some-clause-body : goal.returns-in_ok-hold-in-Ok-Some-clause-body
returns-in_ok-hold-in-Ok-Some-clause-body g c =
    let now = c.hold-in-Ok-Some.new.self in
    body_told now.bytes.items now.start c.self.inside.next_place c.in-Ok-Some.size _ _ c.in_ok-hold-in-Ok-Some.ensures.first (omega (arith, c.in_ok-hold-in-Ok-Some.ensures.held)) refl refl
