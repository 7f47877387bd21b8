-- What is kept tells which stage is due, and which are done.
use Rattle.std.specs.Prelude.{◌≡◌, ℕ, ◌<◌, ◌≤◌, ◌==◌, ◌⊎◌, Bool, true, false, List, Option, Some, None, MatchOption}
use Rattle.std.proofs.Common.{refl, sym, ◌∙◌, inl, inr, arith}
use Rattle.std.proofs.lemmas.Bool.{eq-eqb, ne_eqb, cases_eq, cases_lt}
use Rattle.dr_meaning.specs.Types.{Record}
use Rattle.dr_meaning.specs.Visits.{visits, begun, is_done, is_visit_done}
use Rattle.dr_progress.specs.declared.facts.Facts.{Facts}
use Rattle.dr_progress.specs.declared.progress.Progress.{Progress}
use Rattle.dr_progress.specs.Progress.{is_at, asides_in, asides_at, is_due, KeepsStages, Keeps, NoneWaits, WaitsFirst, NoneDue, IsLeastDue}
use Rattle.dr_progress.proofs.VisitLaws.{last_of, at_begun}

pub due_of : (facts : Facts) (run : ℕ) (p : Progress) (log : List Record) (o : Option ℕ) → MatchOption o (p.has_asides ≡ true → NoneWaits facts run p) (WaitsFirst facts run p) → Keeps facts run p log → p.begun ≡ None → MatchOption o (NoneDue log) (IsLeastDue log)
due_of facts run p log o waits k none = go o waits
  where
    free : (j : ℕ) → is_at p.begun j ≡ false
    free j = rw none refl

    kept : (j : ℕ) → 0 < asides_in j log → 0 < asides_at facts run j
    kept j some = let same : asides_in j log ≡ asides_at facts run j = k.excuses.counted j in omega (arith, same, some)

    quiet : (b : Bool) → p.has_asides ≡ b → (p.has_asides ≡ true → NoneWaits facts run p) → NoneDue log
    quiet false e h j some = absurd (let zero : asides_at facts run j ≡ 0 = k.excuses.some e j in let more = kept j some in omega (arith, zero, more))
    quiet true e h j some = outside (cases_lt p.again_after j) (cases_lt p.again_upto j)
      where
        outside : (p.again_after < j) ⊎ (j ≤ p.again_after) → (p.again_upto < j) ⊎ (j ≤ p.again_upto) → is_due log j ≡ false
        outside (inr le) b = k.due.worked j (kept j some) (free j) (inl le)
        outside (inl lt) (inl over) = k.due.worked j (kept j some) (free j) (inr over)
        outside (inl lt) (inr le) = absurd (let zero : asides_at facts run j ≡ 0 = h e j lt le in let more = kept j some in omega (arith, zero, more))

    go : (o : Option ℕ) → MatchOption o (p.has_asides ≡ true → NoneWaits facts run p) (WaitsFirst facts run p) → MatchOption o (NoneDue log) (IsLeastDue log)
    go None h = quiet p.has_asides refl h
    go (Some stage) w = record {
      some = let same : asides_in stage log ≡ asides_at facts run stage = k.excuses.counted stage in let more : 0 < asides_at facts run stage = w.some in omega (arith, same, more);
      due = k.due.due stage w.some (free stage) w.behind w.within;
      least = λ j less some. before j less some (cases_lt p.again_after j);
    }
      where
        before : (j : ℕ) → j < stage → 0 < asides_in j log → (p.again_after < j) ⊎ (j ≤ p.again_after) → is_due log j ≡ false
        before j less some (inl lt) = absurd (let zero : asides_at facts run j ≡ 0 = w.first j lt less in let more = kept j some in omega (arith, zero, more))
        before j less some (inr le) = k.due.worked j (kept j some) (free j) (inl le)

-- the begun stage isn't done
pub begun_not_done : (log : List Record) (stage : ℕ) → begun log ≡ Some stage → is_done log stage ≡ false
begun_not_done log stage e = at_begun (λ vs. is_visit_done (last_of stage vs) ≡ false) stage (λ v vs same undone. let own : v.stage == stage ≡ true = eq-eqb v.stage stage same in rw own undone) (visits log) e

-- which stages are done, by what is kept
pub done_of : (p : Progress) (log : List Record) (stage : ℕ) → KeepsStages p log → ((1 ≤ stage) × (stage ≤ p.walked) × (is_at p.begun stage ≡ false) → is_done log stage ≡ true) × (((stage ≡ 0) ⊎ (p.walked < stage)) ⊎ (is_at p.begun stage ≡ true) → is_done log stage ≡ false)
done_of p log stage k = (λ h. k.done stage h.0 h.1 h.2, not_done)
  where
    at_it : (o : Option ℕ) → p.begun ≡ o → is_at o stage ≡ true → is_done log stage ≡ false
    at_it None e own = absurd cc
    at_it (Some n) e own = go (cases_eq n stage)
      where
        go : (n ≡ stage) ⊎ (n ≡ stage → ⊥) → is_done log stage ≡ false
        go (inl same) = begun_not_done log stage (sym k.begun ∙ rw same at e)
        go (inr ne) = absurd (let other : n == stage ≡ false = ne_eqb n stage ne in cc)

    not_done : ((stage ≡ 0) ⊎ (p.walked < stage)) ⊎ (is_at p.begun stage ≡ true) → is_done log stage ≡ false
    not_done (inr own) = at_it p.begun refl own
    not_done (inl never) = go (is_at p.begun stage) refl
      where
        go : (b : Bool) → is_at p.begun stage ≡ b → is_done log stage ≡ false
        go true e = at_it p.begun refl e
        go false e = rw (k.unvisited stage (never, e)) refl
