use Rattle.std.proofs.Common.{◌≡◌, ◌+◌, ◌-◌, ◌≤◌, ◌++◌, ℕ, List, length, take, drop, sym, ◌∙◌, ap, subst, arith}
use Rattle.std.proofs.lemmas.List.{take-append-drop}
use Rattle.dr_journal.specs.Places.{AreAt}
use Rattle.dr_journal.proofs.Reader.{are_from, are_more}
use Rattle.dr_journal.proofs.window.Window.hold.Goals as goal

kept : (at start : ℕ) (old front now : List ℕ) → front ≡ drop (at - start) old → take (length front) now ≡ front → (more : List ℕ) × (drop (at - at) now ≡ drop (at - start) old ++ more)
kept at start old front now is keeps =
    let none : at - at ≡ 0 = omega arith in
    (drop (length front) now, ap (λ (n : ℕ). drop n now) none ∙ sym (take-append-drop (length front) now) ∙ ap (λ (l : List ℕ). l ++ drop (length front) now) (keeps ∙ is))

front_are : (file old front : List ℕ) (start at : ℕ) → start ≤ at → at ≤ start + length old → AreAt file start old → front ≡ drop (at - start) old → AreAt file at front
front_are file old front start at first last are is = subst (AreAt file at) (sym is) (are_from file old start at first last are)

pub returns-in_err-read_more-clause-bytes : goal.returns-in_err-read_more-clause-bytes
returns-in_err-read_more-clause-bytes g c = λ f reads.
    subst (AreAt f c.args.at) (sym c.in_err-read_more.ensures.err) (front_are f c.args.self.now.bytes.items c.remove_front.new.bytes.items c.args.self.now.start c.args.at c.requires.first (omega (arith, c.requires.last)) (c.requires.bytes f reads) c.remove_front.ensures.items)

pub returns-in_err-read_more-clause-keeps : goal.returns-in_err-read_more-clause-keeps
returns-in_err-read_more-clause-keeps g c = kept c.args.at c.args.self.now.start c.args.self.now.bytes.items c.remove_front.new.bytes.items c.read_more.new.buffer.items c.remove_front.ensures.items c.read_more.ensures.front

pub returns-clause-bytes : goal.returns-clause-bytes
returns-clause-bytes g c = λ f reads.
    let are : AreAt f c.args.at c.remove_front.new.bytes.items = front_are f c.args.self.now.bytes.items c.remove_front.new.bytes.items c.args.self.now.start c.args.at c.requires.first (omega (arith, c.requires.last)) (c.requires.bytes f reads) c.remove_front.ensures.items in
    subst (AreAt f c.args.at) (sym (c.in_ok-read_more.ensures.bytes f reads)) (are_more f c.remove_front.new.bytes.items c.args.at c.len-had.result (c.max-wanted.result - c.len-had.result) (omega arith) are (omega (arith, c.requires.ends f reads)))

pub returns-clause-keeps : goal.returns-clause-keeps
returns-clause-keeps g c = kept c.args.at c.args.self.now.start c.args.self.now.bytes.items c.remove_front.new.bytes.items c.read_more.new.buffer.items c.remove_front.ensures.items c.read_more.ensures.front

pub returns-in_err-read_more-clause-room : goal.returns-in_err-read_more-clause-room
returns-in_err-read_more-clause-room g c = omega (arith, ap length c.in_err-read_more.ensures.err)

pub returns-clause-room : goal.returns-clause-room
returns-clause-room g c = omega (arith, c.in_ok-read_more.ensures.count)
