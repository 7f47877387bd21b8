use Rattle.std.proofs.Common.{◌≡◌, ◌++◌, [], ◌∷◌, ℕ, List, map, refl, sym, ◌∙◌, ap, subst, arith}
use Rattle.std.proofs.lemmas.List.{map-append}
use Rattle.dr_journal.specs.Reading.Reading.{Whole}
use Rattle.dr_journal.specs.State.{JournalState, IsOpen}
use Rattle.dr_journal.specs.Places.{place_after}
use Rattle.dr_journal.proofs.Laws.{open_records, open_kept, next_record, no_record}
use Rattle.test_journal.proofs.journal.read_all.Goals as goal

pub loop-bodies-init : goal.loop-bodies-init
loop-bodies-init g c = record {
  is_open = c.requires;
  reads = refl;
  journal = refl;
  so_far = λ file reads.
      let held = open_records _ _ _ c.requires file (g.met.D.Disk.finds _ file reads) in
      let none : map (λ v. v.items) c.new-bodies.result.items ≡ [] = ap (map (λ v. v.items)) c.new-bodies.ensures.items in (
        held.0,
        held.1 ∙ ap (λ (l : List (List ℕ)). Whole (l ++ held.0)) (sym none),
        ap place_after (sym none),
      );
}

pub body-requires-clause-open : goal.body-requires-clause-open
body-requires-clause-open g c = c.loop-bodies.invariant.is_open

pub body-requires-clause-gate : goal.body-requires-clause-gate
body-requires-clause-gate g c = λ file reads.
    let so_far = c.loop-bodies.invariant.so_far file reads in
    (map (λ v. v.items) c.loop-bodies.bodies.items, so_far.0, so_far.1, so_far.2)

pub loop-bodies-smaller : goal.loop-bodies-smaller
loop-bodies-smaller g c =
    let inside = rw c.in-Some.is at c.in_ok-body.ensures.inside in
    omega (arith, inside, ap (λ (s : JournalState). s.file_length) c.loop-bodies.invariant.journal, c.len.ensures)

pub loop-bodies-preserved : goal.loop-bodies-preserved
loop-bodies-preserved g c =
    let same = c.body.ensures.same in
    let next = rw c.in-Some.is at c.in_ok-body.ensures.next in
    record {
      is_open = subst (λ (s : JournalState). IsOpen s (g.D.Disk.reads c.body.new.disk) (g.D.Disk.images c.body.new.disk)) (sym c.body.ensures.journal) (open_kept _ _ _ _ _ c.loop-bodies.invariant.is_open same c.body.ensures.images);
      reads = same ∙ c.loop-bodies.invariant.reads;
      journal = c.body.ensures.journal ∙ c.loop-bodies.invariant.journal;
      so_far = λ file reads.
          let so_far = c.loop-bodies.invariant.so_far file (sym same ∙ reads) in
          let before = map (λ v. v.items) c.loop-bodies.bodies.items in
          let more = next_record file before so_far.0 c.in-Some.body.items c.loop-bodies.at so_far.1 so_far.2 (next file (sym same ∙ reads)) in
          let pushed : map (λ v. v.items) c.push.new.self.items ≡ before ++ c.in-Some.body.items ∷ [] =
          ap (map (λ v. v.items)) c.in-Ok.ensures.items ∙ map-append (λ v. v.items) c.loop-bodies.bodies.items (c.in-Some.body ∷ []) in (
            more.0,
            more.1 ∙ ap (λ (l : List (List ℕ)). Whole (l ++ more.0)) (sym pushed),
            omega (arith, c.len.ensures, more.2, ap place_after pushed),
          );
    }

pub returns : goal.returns
returns g c = λ file reads.
    let here = c.loop-bodies.invariant.reads ∙ reads in
    let so_far = c.loop-bodies.invariant.so_far file here in
    let next = rw c.in_default.is at c.in_ok-body.ensures.next in
    no_record file (map (λ v. v.items) c.loop-bodies.bodies.items) so_far.0 c.loop-bodies.at so_far.1 so_far.2 (next file here)
