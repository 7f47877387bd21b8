use Rattle.std.proofs.Common.{◌≡◌, ◌++◌, ◌∷◌, [], length, ap, sym, ◌∙◌, arith}
use Rattle.std.specs.Cmp.Lexicographic.{same_text, bytes_decides}
use Rattle.std.proofs.lemmas.List.{take_all}
use Rattle.dr_journal.specs.Reading.{header, form_1}
use Rattle.dr_journal.proofs.opening.is_empty.Goals as goal

pub returns-clause-empty : goal.returns-clause-empty
unfolding header
returns-clause-empty g c = λ is. (
  c.if-size-ne17.false,
  λ f reads.
      let size = c.requires.size f reads in
      let same : c.read_at.new.buf ≡ header form_1 ++ 0 ∷ [] = same_text c.read_at.new.buf (header form_1 ++ 0 ∷ []) (sym is ∙ c.eq.ensures) in
      sym (take_all 17 f (omega (arith, c.if-size-ne17.false))) ∙ sym (c.in_ok-read_at.ensures.bytes f reads) ∙ same,
)

pub returns-then-size-ne17-clause-told : goal.returns-then-size-ne17-clause-told
unfolding header
returns-then-size-ne17-clause-told g c = λ file reads is.
    absurd (c.if-size-ne17.true (c.requires.size file reads ∙ ap length is))

pub returns-clause-told : goal.returns-clause-told
unfolding header
returns-clause-told g c = λ file reads is.
    let size = c.requires.size file reads in
    let same : c.read_at.new.buf ≡ header form_1 ++ 0 ∷ [] = c.in_ok-read_at.ensures.bytes file reads ∙ take_all 17 file (omega (arith, c.if-size-ne17.false)) ∙ is in
    c.eq.ensures ∙ (bytes_decides c.read_at.new.buf (header form_1 ++ 0 ∷ [])).1 same
