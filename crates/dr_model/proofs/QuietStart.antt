-- Where a Start may come, no reprotect of its groups is under way.
use Rattle.std.specs.Prelude.{◌≡◌, ◌≢◌, ℕ, ◌<◌, ◌==◌, ◌⊎◌, Bool, true, false, ◌&&◌, ◌||◌, not, List, [], ◌∷◌, Option, Some, None, IsSomeAnd, cond, filter, find, slice_get}
use Rattle.std.specs.List.{list_any}
use Rattle.std.proofs.Common.{refl, sym, ap, ◌∙◌, inl, inr, subst, arith}
use Rattle.dr_base.specs.Lists.{has}
use Rattle.dr_meaning.specs.Types.{Op, Plan, StartRow, Estate, Record}
use Rattle.dr_meaning.specs.Runs.{Setting, Run, number, op, holds, is_finished, is_open, last_of_group}
use Rattle.dr_meaning.specs.Lawful.{takes_over, is_taken_over, MayStart, MayCome}
use Rattle.dr_meaning.specs.Journals.{Stands}
use Rattle.dr_meaning.specs.Changes.{is_reprotect, is_reversing}
use Rattle.dr_meaning.proofs.Lists.{Each, each-find, find-passes, find-filter}
use Rattle.dr_meaning.proofs.Elements.{pick}
use Rattle.dr_model.proofs.PhaseLaws.{IsChain, StartsAt}
use Rattle.dr_model.proofs.ChainLaws.{IsWellKept, HeadFree, taken, open_if, and_left, and_right, positive, same_number}
use Rattle.dr_model.proofs.Standing.{well_kept_of}

-- whether a run is a reprotect that isn't finished
abbrev goes_back : Run → Bool
goes_back run = is_reprotect (op run) && not (is_finished run)

reversing-filter : (g : ℕ) (runs : List Run) → is_reversing g runs ≡ list_any goes_back (filter (holds g) runs)
reversing-filter g [] = refl
reversing-filter g (r ∷ runs) = go (holds g r) (reversing-filter g runs)
  where
    go : (b : Bool) → is_reversing g runs ≡ list_any goes_back (filter (holds g) runs) → (b && goes_back r) || is_reversing g runs ≡ list_any goes_back (cond b (r ∷ filter (holds g) runs) (filter (holds g) runs))
    go true ih = ap (λ b. goes_back r || b) ih
    go false ih = ih

no_takes : (o other : Op) → takes_over o other ≡ true → is_reprotect other ≡ false
no_takes o Op.Testing e = refl
no_takes o Op.Cleanup e = refl
no_takes o Op.Migrate e = refl
no_takes o Op.Failover e = refl
no_takes Op.Cleanup Op.Reprotect e = absurd cc
no_takes Op.Failover Op.Reprotect e = absurd cc
no_takes Op.Testing Op.Reprotect e = absurd cc
no_takes Op.Migrate Op.Reprotect e = absurd cc
no_takes Op.Reprotect Op.Reprotect e = absurd cc

-- none but the last run of a chain is such a reprotect
none_before : (estate : Estate) (g : ℕ) (r : Run) (rest : List Run) → IsChain estate g (r ∷ rest) → list_any goes_back rest ≡ false
none_before estate g r [] chain = refl
none_before estate g r (q ∷ rest) chain = go chain.2 (none_before estate g q rest chain.3)
  where
    ended : (b : Bool) → b && false ≡ false
    ended true = refl
    ended false = refl

    go : StartsAt estate g r (q ∷ rest) → list_any goes_back rest ≡ false → list_any goes_back (q ∷ rest) ≡ false
    go (inl (fin, from)) none = rw (fin, ended (is_reprotect (op q))) none
    go (inr (going, takes)) none = rw (no_takes (op r) (op q) takes) none

module _ (setting : Setting) (runs : List Run) (well : IsWellKept setting runs) (row : StartRow) (plan : Plan) (may : MayStart setting runs row plan) (g : ℕ) (held : has row.groups g ≡ true) where
  not_over : (r : Run) → last_of_group g runs ≡ Some r → is_reprotect (op r) ≡ true → number r ≢ row.over
  not_over r last back same = go (taken row runs (find (is_taken_over row) runs) refl may.over)
    where
      go : (row.over ≡ 0) ⊎ ((q : Run) × (find (is_taken_over row) runs ≡ Some q) × (row.over ≡ number q)) → ⊥
      go (inl none) = let above : 0 < number r = each-find (λ run. 0 < number run) (holds g) runs r (positive runs well.table) last in omega arith
      go (inr (q, found, over)) =
          let is : r ≡ q = same_number runs r q well.table (holds g) (is_taken_over row) last found (same ∙ over) in
          let passes : is_open q && takes_over row.op (op q) && (q.start.plan == row.plan) ≡ true = find-passes (is_taken_over row) runs q found in
          let both : is_open q && takes_over row.op (op q) ≡ true = and_left _ (q.start.plan == row.plan) passes in
          let none : is_reprotect (op q) ≡ false = no_takes row.op (op q) (and_right (is_open q) _ both) in
          let wrong : true ≡ false = sym back ∙ ap (λ (x : Run). is_reprotect (op x)) is ∙ none in
          cc

  last_rests : (r : Run) (rest : List Run) → filter (holds g) runs ≡ r ∷ rest → goes_back r ≡ false
  last_rests r rest e = go (is_reprotect (op r)) (is_finished r) refl refl
    where
      last : last_of_group g runs ≡ Some r
      last = find-filter (holds g) runs r rest e

      free : r.by ≡ 0
      free = let its : HeadFree (r ∷ rest) = subst HeadFree e (well.groups g).free in its

      go : (b f : Bool) → is_reprotect (op r) ≡ b → is_finished r ≡ f → b && not f ≡ false
      go false f back fin = refl
      go true true back fin = refl
      go true false back fin =
          let clear = each-find (λ run. is_open run ≡ true → number run ≢ row.over → Each (λ k. holds k run ≡ false) row.groups) (holds g) runs r may.free last in
          let none : holds g r ≡ false = pick (λ k. holds k r ≡ false) row.groups g (clear (open_if r fin free) (not_over r last back)) held in
          let its : holds g r ≡ true = find-passes (holds g) runs r last in
          absurd (let wrong : false ≡ true = sym none ∙ its in cc)

  quiet_may : is_reversing g runs ≡ false
  quiet_may = reversing-filter g runs ∙ go (filter (holds g) runs) refl
    where
      go : (hs : List Run) → filter (holds g) runs ≡ hs → list_any goes_back hs ≡ false
      go [] e = refl
      go (r ∷ rest) e = rw (last_rests r rest e) (none_before setting.estate g r rest (subst (IsChain setting.estate g) e (well.groups g).chain))

pub quiet_start : (setting : Setting) (records : List Record) (runs : List Run) → Stands setting records runs → (row : StartRow) → MayCome setting runs (Record.Start row) → (g : ℕ) → has row.groups g ≡ true → is_reversing g runs ≡ false
quiet_start setting records runs s row may g held = go (slice_get setting.plans row.plan) may
  where
    go : (o : Option Plan) → IsSomeAnd o (MayStart setting runs row) → is_reversing g runs ≡ false
    go None m = elim m [ ]
    go (Some plan) m = quiet_may setting runs (well_kept_of setting records runs s) row plan m g held
