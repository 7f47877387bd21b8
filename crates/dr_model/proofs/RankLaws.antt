-- Which stages have not been reached when one is begun.
use Rattle.std.specs.Prelude.{◌≡◌, ◌≢◌, ℕ, ◌+◌, ◌<◌, ◌≤◌, ◌⊎◌, Bool, true, false, List, [], ◌∷◌, ◌++◌, None, find}
use Rattle.std.proofs.Common.{refl, sym, ap, ◌∙◌, inl, inr, arith, subst}
use Rattle.std.proofs.lemmas.Bool.{eq-eqb, ne_eqb, cases_eq, cases_lt}
use Rattle.dr_meaning.specs.Types.{Op, Plan}
use Rattle.dr_meaning.specs.declared.stage.StageKind.{StageKind}
use Rattle.dr_meaning.specs.declared.stage.Stage.{Stage}
use Rattle.dr_meaning.specs.Stages.{array_stage, recovery, stages, start_up, wind_down, stage_from, stage_at}
use Rattle.dr_meaning.specs.Visits.{Visit, visits}
use Rattle.dr_meaning.specs.Runs.{Run, stages_of}
use Rattle.dr_meaning.specs.Meaning.{is_of_kind}
use Rattle.dr_meaning.specs.Fits.{is_visit_whole, is_done_whole}
use Rattle.dr_meaning.proofs.Lists.{Each, each-append, each-map}
use Rattle.dr_model.proofs.StageLaws.{IsCallout, IsWave, wind_down-kind, each-start_up, stage_from-each}
use Rattle.dr_model.proofs.NumberLaws.{kind-same}
use Rattle.dr_model.proofs.SequenceLaws.{IsInSequence, IsAhead}

-- the order of the kinds, in each operation
abbrev pub rank : StageKind → ℕ
rank StageKind.Sync = 0
rank StageKind.Stop = 1
rank StageKind.Clear = 1
rank StageKind.Prepare = 2
rank StageKind.Reverse = 3
rank StageKind.FinalSync = 4
rank StageKind.Split = 5
rank StageKind.TestStart = 5
rank StageKind.TestStop = 5
rank _ = 6

rank_most : (kind : StageKind) → rank kind ≤ 6
rank_most StageKind.Sync = omega arith
rank_most StageKind.Stop = omega arith
rank_most StageKind.Clear = omega arith
rank_most StageKind.Prepare = omega arith
rank_most StageKind.Reverse = omega arith
rank_most StageKind.FinalSync = omega arith
rank_most StageKind.Split = omega arith
rank_most StageKind.TestStart = omega arith
rank_most StageKind.TestStop = omega arith
rank_most _ = omega arith

abbrev IsAt : ℕ → Stage → Type 0
IsAt c s = rank s.kind ≡ c

abbrev IsFrom : ℕ → Stage → Type 0
IsFrom c s = c ≤ rank s.kind

abbrev pub IsRanked : List Stage → Type 0
IsRanked [] = Unit {0}
IsRanked (s ∷ rest) = Each (IsFrom (rank s.kind)) rest × IsRanked rest

ranked-block : (c : ℕ) (xs ys : List Stage) → Each (IsAt c) xs → Each (IsFrom c) ys → IsRanked ys → IsRanked (xs ++ ys)
ranked-block c [] ys hx hy r = r
ranked-block c (x ∷ xs) ys hx hy r = (
  each-append (IsFrom (rank x.kind)) xs ys
      (each-map (IsAt c) (IsFrom (rank x.kind)) (λ s e. omega (arith, hx.0, e)) xs hx.1)
      (each-map (IsFrom c) (IsFrom (rank x.kind)) (λ s le. omega (arith, hx.0, le)) ys hy),
  ranked-block c xs ys hx.1 hy r,
)

ranked-flat : (c : ℕ) (xs : List Stage) → Each (IsAt c) xs → IsRanked xs
ranked-flat c [] h = tt
ranked-flat c (x ∷ xs) h = (each-map (IsAt c) (IsFrom (rank x.kind)) (λ s e. omega (arith, h.0, e)) xs h.1, ranked-flat c xs h.1)

module _ (plan : Plan) where
  up_at : Each (IsAt 6) (start_up plan)
  up_at = each-start_up (IsAt 6) plan callout (λ s e. rw e refl)
    where
      callout : (s : Stage) → IsCallout s → rank s.kind ≡ 6
      callout s (inl e, none) = rw e refl
      callout s (inr e, none) = rw e refl

  up_from : (c : ℕ) → c ≤ 6 → Each (IsFrom c) (start_up plan)
  up_from c le = each-map (IsAt 6) (IsFrom c) (λ s e. omega (arith, e, le)) (start_up plan) up_at

  wind_at : (kind : StageKind) → rank kind ≡ 1 → Each (IsAt 1) (wind_down kind plan)
  wind_at kind e = each-map (IsWave kind) (IsAt 1) (λ s k. ap rank k ∙ e) _ (wind_down-kind kind plan)

  wind_from : (kind : StageKind) → rank kind ≡ 1 → Each (IsFrom 0) (wind_down kind plan)
  wind_from kind e = each-map (IsAt 1) (IsFrom 0) (λ s k. omega arith) _ (wind_at kind e)

  abbrev late : List Stage
  late = array_stage StageKind.Prepare ∷ array_stage StageKind.FinalSync ∷ array_stage StageKind.Split ∷ start_up plan

  late_ranked : IsRanked late
  late_ranked = ((omega arith, (omega arith, up_from 2 (omega arith))), ((omega arith, up_from 4 (omega arith)), (up_from 5 (omega arith), ranked-flat 6 (start_up plan) up_at)))

  late_from : (c : ℕ) → c ≤ 2 → Each (IsFrom c) late
  late_from c le = (omega (arith, le), (omega (arith, le), (omega (arith, le), up_from c (omega (arith, le)))))

  recovery_ranked : IsRanked (recovery plan)
  recovery_ranked = (
    each-append (IsFrom 0) (wind_down StageKind.Stop plan) late (wind_from StageKind.Stop refl) (late_from 0 (omega arith)),
    ranked-block 1 (wind_down StageKind.Stop plan) late (wind_at StageKind.Stop refl) (late_from 1 (omega arith)) late_ranked,
  )

  pub stages_ranked : (o : Op) (forced : Bool) → IsRanked (stages plan o forced)
  stages_ranked Op.Testing forced = ((omega arith, up_from 0 (omega arith)), (up_from 5 (omega arith), ranked-flat 6 (start_up plan) up_at))
  stages_ranked Op.Migrate forced = recovery_ranked
  stages_ranked Op.Failover false = recovery_ranked
  stages_ranked Op.Failover true = (up_from 5 (omega arith), ranked-flat 6 (start_up plan) up_at)
  stages_ranked Op.Cleanup forced = ranked-block 1 (wind_down StageKind.Clear plan) (array_stage StageKind.TestStop ∷ []) (wind_at StageKind.Clear refl) (omega arith, tt) (tt, tt)
  stages_ranked Op.Reprotect forced =
      ranked-block 1 (wind_down StageKind.Clear plan) (array_stage StageKind.Prepare ∷ array_stage StageKind.Reverse ∷ array_stage StageKind.FinalSync ∷ []) (wind_at StageKind.Clear refl)
      (omega arith, (omega arith, (omega arith, tt))) ((omega arith, (omega arith, tt)), ((omega arith, tt), (tt, tt)))

-- By numbers

pub ranked_numbers : (n : ℕ) (ss : List Stage) → IsRanked ss → (i j : ℕ) → n ≤ i → i < j → rank (stage_from n ss i).kind ≤ rank (stage_from n ss j).kind
ranked_numbers n [] h i j above below = omega arith
ranked_numbers n (s ∷ ss) h i j above below = go (cases_eq i n) (λ le. ranked_numbers (n + 1) ss h.1 i j le below)
  where
    go : (i ≡ n) ⊎ (i ≡ n → ⊥) → (n + 1 ≤ i → rank (stage_from (n + 1) ss i).kind ≤ rank (stage_from (n + 1) ss j).kind) → rank (stage_from n (s ∷ ss) i).kind ≤ rank (stage_from n (s ∷ ss) j).kind
    go (inl e) later = rw (eq-eqb i n e, ne_eqb j n (λ same. omega arith)) (stage_from-each (IsFrom (rank s.kind)) (n + 1) ss j (rank_most s.kind) h.0)
    go (inr ne) later = rw (ne_eqb i n ne, ne_eqb j n (λ same. omega arith)) (later (omega arith))

-- below the first number there is no stage
pub none_below : (n : ℕ) (ss : List Stage) (k : ℕ) → k < n → (stage_from n ss k).kind ≡ StageKind.Prompt
none_below n [] k below = refl
none_below n (s ∷ ss) k below = rw (ne_eqb k n (λ same. omega arith)) (none_below (n + 1) ss k (omega arith))

find_none : (p : Visit → Bool) (vs : List Visit) → Each (λ v. p v ≡ false) vs → find p vs ≡ None
find_none p [] h = refl
find_none p (v ∷ vs) h = rw h.0 (find_none p vs h.1)

-- at a begun stage of a lower kind, none of a higher kind has been begun
module _ (run : Run) (v : Visit) (earlier : List Visit) (shape : visits run.log ≡ v ∷ earlier) (sequence : IsInSequence run) (kind : StageKind) (lower : rank (stage_at (stages_of run) v.stage).kind < rank kind) (not_prompt : kind ≢ StageKind.Prompt) where
  test_fails : (u : Visit) → (u.stage < v.stage) ⊎ (u.stage ≡ v.stage) → is_of_kind kind (stage_at (stages_of run) u.stage) ≡ false
  test_fails u le = go (is_of_kind kind (stage_at (stages_of run) u.stage)) refl
    where
      go : (b : Bool) → is_of_kind kind (stage_at (stages_of run) u.stage) ≡ b → is_of_kind kind (stage_at (stages_of run) u.stage) ≡ false
      go false e = e
      go true e = absurd (wrong le (cases_lt u.stage 1))
        where
          its : (stage_at (stages_of run) u.stage).kind ≡ kind
          its = kind-same _ kind e

          wrong : (u.stage < v.stage) ⊎ (u.stage ≡ v.stage) → (u.stage < 1) ⊎ (1 ≤ u.stage) → ⊥
          wrong (inr same) at_least = omega (arith, lower, ap rank (sym its), ap (λ n. rank (stage_at (stages_of run) n).kind) same)
          wrong (inl lt) (inl none) = not_prompt (sym its ∙ none_below 1 (stages_of run) u.stage none)
          wrong (inl lt) (inr above) = omega (arith, lower, ap rank (sym its), ranked_numbers 1 (stages_of run) (stages_ranked run.plan run.start.op run.start.forced) u.stage v.stage above lt)

  pub no_visit : Each (λ u. is_of_kind kind (stage_at (stages_of run) u.stage) ≡ false) (visits run.log)
  no_visit = subst (λ vs. Each (λ u. is_of_kind kind (stage_at (stages_of run) u.stage) ≡ false) vs) (sym shape) (
    test_fails v (inr refl),
    each-map (λ u. u.stage < v.stage) (λ u. is_of_kind kind (stage_at (stages_of run) u.stage) ≡ false) (λ u lt. test_fails u (inl lt)) earlier (ahead.0 not_start),
  )
    where
      ahead : IsAhead (stages_of run) (v ∷ earlier)
      ahead = subst (IsAhead (stages_of run)) shape sequence.ahead

      not_start : (stage_at (stages_of run) v.stage).kind ≢ StageKind.Start
      not_start e = omega (arith, lower, ap rank e, rank_most kind)

  pub not_reached : is_done_whole run kind ≡ false
  not_reached = ap is_visit_whole (find_none (λ u. is_of_kind kind (stage_at (stages_of run) u.stage)) (visits run.log) no_visit)
