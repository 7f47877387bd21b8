use Rattle.std.proofs.Common.{ℕ, ◌≡◌, ◌∙◌, ◌+◌, ◌-◌, suc, List, [], ◌∷◌, ◌++◌, take, drop, length, Some, None, true, sym, ap, arith, append_assoc, take_all, length-drop}
use Rattle.std.proofs.lemmas.Bool.Decides.{Decides-eqb}
use Rattle.std.proofs.lemmas.List.{append_cancel_left}
use Rattle.std.proofs.lemmas.Slice.Eq.{strip_prefix_is}
use Rattle.dr_lab.specs.Fields.{is_free, field, Taken}
use Rattle.dr_lab.proofs.Words.{cut, one_word, no_word, Cut}
use Rattle.dr_lab.proofs.fields.word.Goals as goal

-- what stands behind the front
behind : (bytes front text word more : List ℕ) (end : ℕ) → bytes ≡ front ++ text → bytes ≡ field front end word ++ more → text ≡ word ++ end ∷ more
behind bytes front text word more end is e = append_cancel_left front text (word ++ end ∷ more) (sym is ∙ e ∙ append_assoc front (word ++ end ∷ []) more ∙ ap (λ (z : List ℕ). front ++ z) (append_assoc word (end ∷ []) more))

taken : (bytes front text : List ℕ) (end at : ℕ) → bytes ≡ front ++ text → Cut end text at → Taken (λ word. is_free end word ≡ true) (field front end) bytes (take at text) (take (length text - (at + 1)) (drop (at + 1) text))
taken bytes front text end at is cut =
    let step : at + 1 ≡ suc at = omega arith in
    let all : take (length text - (at + 1)) (drop (at + 1) text) ≡ drop (suc at) text = rw step (take_all (length text - suc at) (drop (suc at) text) (omega (arith, length-drop (suc at) text))) in
    rw all (record {
      is = cut.free;
      whole = is ∙ ap (λ (z : List ℕ). front ++ z) (cut.whole ∙ sym (append_assoc (take at text) (end ∷ []) (drop (suc at) text))) ∙ sym (append_assoc front (take at text ++ end ∷ []) (drop (suc at) text));
      only = λ y more free e. one_word end y (take at text) more (drop (suc at) text) free cut.free (sym (behind bytes front text y more end is e) ∙ cut.whole);
    })

pub returns-in_default : goal.returns-in_default
returns-in_default c = record { none = λ y more is e. strip_prefix_is Decides-eqb c.args.bytes.now c.args.front.now None c.in_default.ensures.cases ((y ++ c.args.end ∷ []) ++ more) (e ∙ append_assoc c.args.front.now (y ++ c.args.end ∷ []) more) }

pub returns-in-Some-position_of : goal.returns-in-Some-position_of
returns-in-Some-position_of c = taken c.args.bytes.now c.args.front.now c.in-Some.text.now c.args.end c.in-Some-position_of.at (strip_prefix_is Decides-eqb c.args.bytes.now c.args.front.now (Some c.in-Some.text) c.in-Some.ensures.cases) (cut c.args.end c.in-Some.text.now c.in-Some-position_of.at (sym c.in-Some-position_of.ensures))

pub returns-in-None : goal.returns-in-None
returns-in-None c = record { none = λ y more is e. no_word c.args.end c.in-Some.text.now y more (sym c.in-None.ensures) (behind c.args.bytes.now c.args.front.now c.in-Some.text.now y more c.args.end (strip_prefix_is Decides-eqb c.args.bytes.now c.args.front.now (Some c.in-Some.text) c.in-Some.ensures.cases) e) }
