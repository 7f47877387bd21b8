-- Words are one command at most, and have one first bad place at most; never both.
use Rattle.std.proofs.Common.{◌≡◌, ◌<◌, ℕ, Bool, List, length, refl, sym, ap, ◌∙◌, arith, inl, inr}
use Rattle.std.proofs.lemmas.Bool.{both_ways, cases_lt}
use Rattle.dr_base.specs.declared.command.Command.{Command}
use Rattle.dr_base.specs.declared.command.Command.TheVariants.{Run, Preview, Groups}
use Rattle.dr_base.specs.declared.command.Op.{Op}
use Rattle.dr_base.specs.declared.command.RunWords.{RunWords}
use Rattle.dr_desk.specs.Words.{IsAsked, IsCommand, IsFirstBadWord, IsOfWords, AreTestWords}

-- words of a command have no bad place
pub no_bad_word : (words : List (List ℕ)) (command : Command) (place : ℕ) → IsCommand words command → IsFirstBadWord words place → ⊥
no_bad_word words command place c b =
    elim (cases_lt place (length words)) [
      | inl lt ↦ both_ways _ (b.bad lt) (c.form.stands place lt)
      | inr ge ↦ elim (b.missing (omega (arith, ge, b.within))) [
        | inl none ↦ absurd (omega (arith, none, ge, c.form.some))
        | inr more ↦ absurd (omega (arith, more, ge, c.form.count))
      ]
    ]

-- of two places, the later isn't the first bad one
not_later : (words : List (List ℕ)) (p q : ℕ) → IsFirstBadWord words p → IsFirstBadWord words q → p < q → ⊥
not_later words p q a b lt = both_ways _ (a.bad (omega (arith, b.within))) (b.before p lt)

-- the first bad place is one
pub one_bad_word : (words : List (List ℕ)) (p q : ℕ) → IsFirstBadWord words p → IsFirstBadWord words q → p ≡ q
one_bad_word words p q a b =
    elim (cases_lt p q) [
      | inl lt ↦ absurd (not_later words p q a b lt)
      | inr ge ↦ elim (cases_lt q p) [ inl lt ↦ absurd (not_later words q p b a lt) | inr le ↦ omega arith ]
    ]

abbrev made : Op → List ℕ → List ℕ → Bool → RunWords
made op plan id forced = record { op = op; plan = plan; id = id; forced = forced }

-- the run is one
one_run : (words : List (List ℕ)) (r s : RunWords) → AreTestWords words r → AreTestWords words s → r ≡ s
one_run words r s a b =
    ap (λ op. made op r.plan r.id r.forced) (a.op ∙ sym b.op)
    ∙ ap (λ plan. made s.op plan r.id r.forced) (a.plan ∙ sym b.plan)
    ∙ ap (λ id. made s.op s.plan id r.forced) (a.id ∙ sym b.id)
    ∙ ap (λ forced. made s.op s.plan s.id forced) (a.unforced ∙ sym b.unforced)

one_of_words : (words : List (List ℕ)) (c d : Command) → IsOfWords words c → IsOfWords words d → c ≡ d
one_of_words words (Run r) (Run s) a b = ap Run (one_run words r s a b)
one_of_words words (Run r) (Preview q) a b = (let e = sym a.first ∙ b.first in cc e)
one_of_words words (Run r) Groups a b = (let e = sym a.first ∙ b in cc e)
one_of_words words (Preview p) (Run s) a b = (let e = sym a.first ∙ b.first in cc e)
one_of_words words (Preview p) (Preview q) a b = ap Preview (a.plan_is ∙ sym b.plan_is)
one_of_words words (Preview p) Groups a b = (let e = sym a.first ∙ b in cc e)
one_of_words words Groups (Run s) a b = (let e = sym a ∙ b.first in cc e)
one_of_words words Groups (Preview q) a b = (let e = sym a ∙ b.first in cc e)
one_of_words words Groups Groups a b = refl
one_of_words words (Run r) d a b = absurd b
one_of_words words (Preview p) d a b = absurd b
one_of_words words Groups d a b = absurd b
one_of_words words c d a b = absurd a

-- the command is one
pub one_command : (words : List (List ℕ)) (c d : Command) → IsCommand words c → IsCommand words d → c ≡ d
one_command words c d a b = one_of_words words c d a.is b.is

-- words ask for the command that they are
asked : (words : List (List ℕ)) (command : Command) → IsOfWords words command → IsAsked command
asked words (Run run) is = is.op
asked words (Preview plan) is = tt
asked words Groups is = tt
asked words command is = absurd is

pub is_asked : (words : List (List ℕ)) (command : Command) → IsCommand words command → IsAsked command
is_asked words command is = asked words command is.is
