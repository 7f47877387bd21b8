use Rattle.std.proofs.Common.{◌≡◌, ◌++◌, [], ◌∷◌, ℕ, List, map, refl, sym, ◌∙◌, ap, subst}
use Rattle.std.proofs.lemmas.List.{map-append}
use Rattle.dr_journal.specs.Walk.{IsAt}
use Rattle.dr_journal.proofs.Laws.{reader_begins, reader_moves, reader_ends}
use Rattle.test_journal.proofs.reader.read_all.Goals as goal

pub loop-bodies-init : goal.loop-bodies-init
loop-bodies-init g c = record {
  reads = refl;
  so_far = λ file reads.
      let begun = reader_begins _ _ _ _ c.requires c.in_ok-records.ensures.reader file reads in
      let none : map (λ v. v.items) c.new-bodies.result.items ≡ [] = ap (map (λ v. v.items)) c.new-bodies.ensures.items in
      (begun.0, subst (λ (l : List (List ℕ)). IsAt c.in_ok-records.records file l begun.0) (sym none) begun.1);
}

pub next-requires : goal.next-requires
next-requires g c = record {
  at = λ file reads. let so_far = c.loop-bodies.invariant.so_far file reads in (map (λ v. v.items) c.loop-bodies.bodies.items, so_far.0, so_far.1);
}

pub loop-bodies-preserved : goal.loop-bodies-preserved
loop-bodies-preserved g c = record {
  reads = c.next.ensures.same ∙ c.loop-bodies.invariant.reads;
  so_far = λ file reads.
      let here = sym c.next.ensures.same ∙ reads in
      let before = map (λ v. v.items) c.loop-bodies.bodies.items in
      let so_far = c.loop-bodies.invariant.so_far file here in
      let moved = rw c.if-branch.true at (c.in_ok-next.ensures.next file here before so_far.0 so_far.1) in
      let more = reader_moves c.next.new.self file before so_far.0 moved in
      let body : c.in_ok-body.body.items ≡ c.next.new.self.body = c.in_ok-body.ensures.items_if_clones_equal (λ x y same. same) ∙ c.body.ensures in
      let pushed : map (λ v. v.items) c.push.new.self.items ≡ before ++ c.next.new.self.body ∷ [] =
      ap (map (λ v. v.items)) c.in-Ok.ensures.items ∙ map-append (λ v. v.items) c.loop-bodies.bodies.items (c.in_ok-body.body ∷ []) ∙ ap (λ (b : List ℕ). before ++ b ∷ []) body in
      (more.0, subst (λ (l : List (List ℕ)). IsAt c.next.new.self file l more.0) (sym pushed) more.1);
}

pub returns : goal.returns
returns g c = λ file reads.
    let here = c.loop-bodies.invariant.reads ∙ reads in
    let before = map (λ v. v.items) c.loop-bodies.bodies.items in
    let so_far = c.loop-bodies.invariant.so_far file here in
    let moved = rw c.if-branch.false at (c.in_ok-next.ensures.next file here before so_far.0 so_far.1) in
    reader_ends c.next.new.self file before so_far.0 moved
