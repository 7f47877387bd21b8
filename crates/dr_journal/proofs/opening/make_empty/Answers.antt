use Rattle.std.proofs.Common.{◌≡◌, ◌<◌, ◌≤◌, ℕ, List, [], ◌∷◌, ◌++◌, length, Some, refl, sym, ◌∙◌, ap, arith}
use Rattle.dr_journal.specs.Reading.{header, form_1}
use Rattle.dr_journal.proofs.OpenedFile.{written_short, renewed, empty_trimmed}
use Rattle.dr_journal.proofs.opening.make_empty.Goals as goal

pub returns-then-branch-clause-open : goal.returns-then-branch-clause-open
unfolding header
returns-then-branch-clause-open g c =
    let is : (f : List ℕ) → g.D.Disk.reads c.is_empty.new.disk ≡ Some f → f ≡ header form_1 ++ 0 ∷ [] = λ f reads. let told = c.in_ok-is_empty.ensures.empty c.if-branch.true in told.1 f (sym c.is_empty.ensures.same ∙ reads) in
    record {
      one = λ f here. c.is_empty.ensures.same ∙ c.requires.one f (c.is_empty.ensures.images f here);
      trimmed = λ f reads. ([], empty_trimmed (header form_1 ++ 0 ∷ []) f refl (is f reads));
      ends = λ f reads. ap length (is f reads);
    }

pub returns-in_err-write_at-clause-same : goal.returns-in_err-write_at-clause-same
returns-in_err-write_at-clause-same g c =
    let short : (x : List ℕ) → g.D.Disk.images c.args.disk.now x → length x < 18 = λ x here. omega (arith, c.requires.short, c.requires.size x (c.requires.one x here)) in
    written_short _ _ _ short c.is_empty.ensures.images 17 (omega arith) c.write_at.ensures.images

pub returns-in_err-sync-clause-same : goal.returns-in_err-sync-clause-same
returns-in_err-sync-clause-same g c = λ f here.
    let short : (x : List ℕ) → g.D.Disk.images c.args.disk.now x → length x < 18 = λ x at. omega (arith, c.requires.short, c.requires.size x (c.requires.one x at)) in
    written_short _ _ _ short c.is_empty.ensures.images 17 (omega arith) c.write_at.ensures.images f (c.sync.ensures.images f here)

pub returns-clause-same : goal.returns-clause-same
returns-clause-same g c = λ f here.
    let short : (x : List ℕ) → g.D.Disk.images c.args.disk.now x → length x < 18 = λ x at. omega (arith, c.requires.short, c.requires.size x (c.requires.one x at)) in
    written_short _ _ _ short c.is_empty.ensures.images 17 (omega arith) c.write_at.ensures.images f (c.sync.ensures.images f here)

pub returns-clause-open : goal.returns-clause-open
unfolding header
returns-clause-open g c =
    let short : (x : List ℕ) → g.D.Disk.reads c.is_empty.new.disk ≡ Some x → length x ≤ 17 = λ x reads. let size = c.requires.size x (sym c.is_empty.ensures.same ∙ reads) in omega (arith, c.requires.short) in
    let is : (f : List ℕ) → g.D.Disk.reads c.sync.new.self ≡ Some f → f ≡ header form_1 ++ 0 ∷ [] =
    renewed _ _ _ (header form_1 ++ 0 ∷ []) short c.in_ok-write_at.ensures.written c.sync.ensures.same in
    record {
      one = λ f here. c.sync.ensures.same ∙ c.in_ok-sync.ensures.one f here;
      trimmed = λ f reads. ([], empty_trimmed (header form_1 ++ 0 ∷ []) f refl (is f reads));
      ends = λ f reads. ap length (is f reads);
    }
