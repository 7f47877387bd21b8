-- Two lines with a failed append between, and a Start found by the next line, by hand.
use Rattle.std.specs.Prelude.{◌≡◌, ℕ, zero, suc, ◌<◌, ◌≤◌, ◌+◌, ◌⊎◌, true, List, [], ◌∷◌, ◌++◌, length, Contains, slice_index_or, Some, None, IfSome}
use Rattle.std.proofs.Common.{refl, sym, ap, ◌∙◌, subst, inl, inr, arith}
use Rattle.std.proofs.lemmas.Bool.{ne_eqb}
use Rattle.std.proofs.lemmas.List.{length-append}
use Rattle.dr_groups.specs.Groups.{IsPairOf}
use Rattle.dr_outside.specs.BySide.{at}
use Rattle.dr_outside.proofs.Drifts.{Drift-refl}
use Rattle.dr_meaning.specs.Types.{Side, Op, StartRow, Record}
use Rattle.dr_meaning.specs.Worlds.{World}
use Rattle.dr_meaning.specs.Sound.{IsSound}
use Rattle.dr_meaning.specs.Runs.{Setting, Run, protected_side}
use Rattle.dr_meaning.specs.Fits.{pair_row}
use Rattle.dr_meaning.specs.Journals.{DeclaresSetting, HasRecords, Stands}
use Rattle.dr_meaning.specs.Images.{Keeps, AreKept, SomeHas}
use Rattle.dr_meaning.specs.Changes.{last_reverse, least_of, least_at, ReadsAtLeast, ChangedBy}
use Rattle.dr_meaning.specs.Since.{ReadTruly, IsTrueStart, HasTrueStarts, Rests, Comes, Since}
use Rattle.dr_model.proofs.FileLaws.{one_records, one_stand, declare_stands}
use Rattle.dr_model.proofs.ExampleEstate.{row_of, started, live, quiet}
use Rattle.dr_model.proofs.ChangeExamples.{all_split, no_split, row_in, drifts}

-- Two lines with a failed append between ----------------------------------------------------------------------------------------

-- what drifts changes so, where these records finish no reprotect
pub changed : (records more : List Record) → ((g : ℕ) (runs : List Run) → last_reverse g runs more ≡ None) → (records ≡ [] → ⊥) → ChangedBy records more (quiet 100 95) (quiet 120 110)
changed records more none some = record {
  by_runs = λ st runs s. record {
    idle_pairs = λ p e. drifts;
    idle_posts = λ m e. refl;
    tested_pairs = λ g p of_group there e. drifts;
    tested_posts = λ g m of_group e. refl;
    pair_count = refl;
    machine_count = refl;
    kept = λ m. record { added = []; grows = refl; each = tt; once = λ o. o };
    runner = record { added = []; grows = refl; each = tt; once = λ o. o };
  };
  writes = λ st runs s g p side of_group there e. subst (λ o. least_of p (at side (live 100 95).content).writes o ≤ (at side (live 120 110).content).writes) (sym (none g runs)) (rise side);
  empty = λ e. absurd (some e);
}
  where
    rise : (side : Side) → (at side (live 100 95).content).writes ≤ (at side (live 120 110).content).writes
    rise Side.A = omega arith
    rise Side.B = omega arith

-- the disk has the image a at entry, of an Estate; a line's append of a test's Start failed, and left a or b
module _ (st : Setting) (bytes a b : List ℕ) (declares : DeclaresSetting bytes st) (of_group : IsPairOf st.estate 0 0) (protects : Side.A ≡ protected_side st (0 ∷ []) [])
    (has_a : HasRecords (Record.Estate bytes ∷ []) a) (has_b : HasRecords (Record.Estate bytes ∷ started 1 Op.Testing 0 95 ∷ []) b) where
  abbrev row : StartRow
  row = row_of 1 Op.Testing 0 100 95

  abbrev both : List Record
  both = Record.Estate bytes ∷ Record.Start row ∷ []

  abbrev entry : List ℕ → Type 0
  entry file = file ≡ a

  abbrev between : List ℕ → Type 0
  between file = (file ≡ a) ⊎ (file ≡ b)

  abbrev found : List ℕ → Type 0
  found file = file ≡ b

  no_estate : Record.Estate bytes ∷ [] ≡ [] → ⊥
  no_estate e = cc

  -- of the first line: its record may be kept or not
  b_comes : Comes entry between (quiet 100 95) (quiet 120 110) [] b
  b_comes = record {
    entry = a;
    was = refl;
    had = Record.Estate bytes ∷ [];
    has_had = has_a;
    more = [];
    last = Record.Start row ∷ [];
    one_at_most = omega arith;
    has_all = has_b;
    kept = λ file here. elim here [
      | inl is ↦ ([], subst (HasRecords (Record.Estate bytes ∷ [])) (sym is) has_a)
      | inr is ↦ (Record.Start row ∷ [], subst (HasRecords both) (sym is) has_b)
    ];
    changed = changed (Record.Estate bytes ∷ []) [] (λ g runs. refl) no_estate;
    among = λ item c. absurd (let (k, below, e) = c in omega arith);
  }

  a_rests : Rests entry (quiet 100 95) (quiet 120 110) [] a
  a_rests = record {
    entry = a;
    was = refl;
    had = Record.Estate bytes ∷ [];
    has_had = has_a;
    has_same = has_a;
    only = record { pair_count = refl; machine_count = refl; pairs = λ p. drifts; posts = λ m. refl; kept = λ m. refl; runner = refl };
    none = refl;
  }

  -- of both lines as one, where the second found the record
  b_comes_to_end : Comes entry found (quiet 100 95) (quiet 120 110) [] b
  b_comes_to_end = record {
    entry = a;
    was = refl;
    had = Record.Estate bytes ∷ [];
    has_had = has_a;
    more = Record.Start row ∷ [];
    last = [];
    one_at_most = omega arith;
    has_all = has_b;
    kept = λ file is. ([], subst (HasRecords both) (sym is) has_b);
    changed = changed both (Record.Start row ∷ []) (λ g runs. refl) (λ e. cc);
    among = λ item c. absurd (let (k, below, e) = c in omega arith);
  }

  -- a line that added the record doesn't end where an image lacks it
  no_rest_with_record : Rests entry (quiet 100 95) (quiet 120 110) (Record.Start row ∷ []) a → ⊥
  no_rest_with_record r = let wrong : Record.Start row ∷ [] ≡ [] = r.none in cc

  -- what stands behind the records at entry where a is an image at the end: nothing is kept
  none_kept : (images : List ℕ → Type 0) (added : List Record) (file : List ℕ) → images a → (c : Comes entry images (quiet 100 95) (quiet 120 110) added file) → (length c.had ≡ 1) × (length c.more ≡ 0)
  none_kept images added file here c =
      let had_is : c.had ≡ Record.Estate bytes ∷ [] = one_records a c.had (Record.Estate bytes ∷ []) (subst (HasRecords c.had) c.was c.has_had) has_a in
      let (rest, has) = c.kept a here in
      let all_is : (c.had ++ c.more) ++ rest ≡ Record.Estate bytes ∷ [] = one_records a ((c.had ++ c.more) ++ rest) (Record.Estate bytes ∷ []) has has_a in
      let one : length c.had ≡ 1 = ap (λ (l : List Record). length l) had_is in
      let sum : length c.had + length c.more + length rest ≡ 1 = sym (length-append (c.had ++ c.more) rest ∙ ap (λ n. n + length rest) (length-append c.had c.more)) ∙ ap (λ (l : List Record). length l) all_is in
      (one, omega (arith, one, sum))

  no_end_without_record : Comes entry between (quiet 100 95) (quiet 120 110) (Record.Start row ∷ []) b → ⊥
  no_end_without_record c =
      let (one, none) = none_kept between (Record.Start row ∷ []) b (inl refl) c in
      let (k, below, e) = c.among (Record.Start row) (0, omega arith, refl) in
      omega (arith, none, below)

  no_rest_but_drift : Rests entry (quiet 100 95) all_split [] a → ⊥
  no_rest_but_drift r = no_split (r.only.pairs 0)

  no_rest_with_more : Rests entry (quiet 100 95) (quiet 120 110) [] b → ⊥
  no_rest_with_more r =
      let had_is : r.had ≡ Record.Estate bytes ∷ [] = one_records a r.had (Record.Estate bytes ∷ []) (subst (HasRecords r.had) r.was r.has_had) has_a in
      let more_is : r.had ≡ both = one_records b r.had both r.has_same has_b in
      let one = ap (λ (l : List Record). length l) had_is in
      let two = ap (λ (l : List Record). length l) more_is in
      omega (arith, one, two)

  -- nor where writes fell
  no_lost_writes_in_line : ChangedBy (Record.Estate bytes ∷ []) [] (quiet 100 95) (quiet 99 95) → ⊥
  no_lost_writes_in_line c = let least : 100 ≤ 99 = c.writes st [] (declare_stands st bytes declares) 0 0 Side.A of_group (omega arith) refl in omega arith

  no_fewer_pairs_in_line : ChangedBy (Record.Estate bytes ∷ []) [] (quiet 100 95) (record (quiet 100 95) { pair_count = 1 }) → ⊥
  no_fewer_pairs_in_line c = let wrong : 1 ≡ 2 = (c.by_runs st [] (declare_stands st bytes declares)).pair_count in omega (arith, wrong)

  -- what both lines keep
  kept_between : AreKept between (Record.Estate bytes ∷ [])
  kept_between = record {
    begin = λ file here. elim here [
      | inl is ↦ ([], subst (HasRecords (Record.Estate bytes ∷ [])) (sym is) has_a)
      | inr is ↦ (Record.Start row ∷ [], subst (HasRecords both) (sym is) has_b)
    ];
    longest = λ longer begin.
        let (rest, has) = begin a (inl refl) in
        let is : longer ++ rest ≡ Record.Estate bytes ∷ [] = one_records a (longer ++ rest) (Record.Estate bytes ∷ []) has has_a in
        let sum : length longer + length rest ≡ 1 = sym (length-append longer rest) ∙ ap (λ (l : List Record). length l) is in
        omega (arith, sum);
  }

  kept_found : AreKept found both
  kept_found = record {
    begin = λ file is. ([], subst (HasRecords both) (sym is) has_b);
    longest = λ longer begin.
        let (rest, has) = begin b refl in
        let is : longer ++ rest ≡ both = one_records b (longer ++ rest) both has has_b in
        let sum : length longer + length rest ≡ 2 = sym (length-append longer rest) ∙ ap (λ (l : List Record). length l) is in
        omega (arith, sum);
  }

  not_kept_back : Keeps found entry → ⊥
  not_kept_back keeps =
      let (rest, has) = keeps both kept_found.begin a refl in
      let is : both ++ rest ≡ Record.Estate bytes ∷ [] = one_records a (both ++ rest) (Record.Estate bytes ∷ []) has has_a in
      let sum : 2 + length rest ≡ 1 = sym (length-append both rest) ∙ ap (λ (l : List Record). length l) is in
      omega (arith, sum)

  -- nor comes an image with two records that may be kept or not
  no_two_at_end : (file : List ℕ) → HasRecords (both ++ Record.Begin 1 1 ∷ []) file → Comes entry (λ x. (x ≡ a) ⊎ (x ≡ file)) (quiet 100 95) (quiet 120 110) [] file → ⊥
  no_two_at_end file has c =
      let (one, none) = none_kept (λ x. (x ≡ a) ⊎ (x ≡ file)) [] file (inl refl) c in
      let all_is : (c.had ++ c.more) ++ c.last ≡ both ++ Record.Begin 1 1 ∷ [] = one_records file ((c.had ++ c.more) ++ c.last) (both ++ Record.Begin 1 1 ∷ []) c.has_all has in
      let sum : length c.had + length c.more + length c.last ≡ 3 = sym (length-append (c.had ++ c.more) c.last ∙ ap (λ n. n + length c.last) (length-append c.had c.more)) ∙ ap (λ (l : List Record). length l) all_is in
      let most = c.one_at_most in
      omega (arith, one, none, sum, most)

  -- The Start that the second line found ----------------------------------------------------------------------------------------

  -- it is new to both lines as one, and not to the second
  new_to_both : SomeHas entry (Record.Start row) → ⊥
  new_to_both it =
      let is : it.records ≡ Record.Estate bytes ∷ [] = one_records a it.records (Record.Estate bytes ∷ []) (subst (HasRecords it.records) it.there it.has) has_a in
      let (k, below, e) = subst (λ l. Contains l (Record.Start row)) is it.listed in
      at_start k below e
    where
      at_start : (k : ℕ) → k < 1 → slice_index_or (Record.Estate bytes ∷ []) k (Record.Start row) ≡ Record.Start row → ⊥
      at_start zero below e = cc
      at_start (suc k) below e = omega arith

  known_to_second : SomeHas between (Record.Start row)
  known_to_second = record { file = b; there = inr refl; records = both; has = has_b; listed = (1, omega arith, refl) }

  -- it gives no fewer writes than there were at the first line's entry, and fewer than at the second's
  read_at_entry : ReadTruly (Record.Estate bytes ∷ []) [] row (quiet 100 95)
  read_at_entry other_setting runs s g p pair there held =
      let (settings, lists) = one_stand st other_setting (Record.Estate bytes ∷ []) [] runs (declare_stands st bytes declares) s in
      subst (λ x. IfSome (pair_row p row) (ReadsAtLeast (least_at g p runs [] (quiet 100 95)) x)) (protects ∙ (λ i. protected_side (settings i) (0 ∷ []) (lists i))) (go g p runs)
    where
      go : (g p : ℕ) (runs : List Run) → IfSome (pair_row p row) (ReadsAtLeast (least_at g p runs [] (quiet 100 95)) Side.A)
      go g zero runs = record { new_side = omega arith; old_side_too = λ seen. omega arith }
      go g (suc p) runs = rw (ne_eqb 0 (suc p) (λ e. omega arith)) tt

  not_at_second : ReadTruly (Record.Estate bytes ∷ []) [] row (quiet 120 110) → ⊥
  not_at_second truly =
      let reads : ReadsAtLeast (least_at 0 0 [] [] (quiet 120 110)) Side.A (record { pair = 0; seen = true; old_writes = 100; new_writes = 95 }) =
      subst (λ x. ReadsAtLeast (least_at 0 0 [] [] (quiet 120 110)) x (record { pair = 0; seen = true; old_writes = 100; new_writes = 95 })) (sym protects) (truly st [] (declare_stands st bytes declares) 0 0 of_group (omega arith) refl) in
      let least : 110 ≤ 95 = reads.new_side in
      omega arith

  judged_at_first : IsTrueStart entry (quiet 100 95) both row
  judged_at_first = record { file = a; was = refl; had = Record.Estate bytes ∷ []; has_had = has_a; since = []; later = []; are = refl; truly = read_at_entry }

  -- where it is new it isn't true of what it didn't read
  no_true_start : HasTrueStarts entry (quiet 120 110) both → ⊥
  no_true_start true_starts = go (true_starts row (1, omega arith, refl))
    where
      at_since : (had since later : List Record) → had ≡ Record.Estate bytes ∷ [] → both ≡ (had ++ since) ++ Record.Start row ∷ later → ReadTruly (had ++ since) since row (quiet 120 110) → ⊥
      at_since had [] later is are truly = not_at_second (subst (λ h. ReadTruly (h ++ []) [] row (quiet 120 110)) is truly)
      at_since had (x ∷ since) later is are truly =
          let one = ap (λ (l : List Record). length l) is in
          let sum : 2 ≡ length had + length (x ∷ since) + length (Record.Start row ∷ later) =
          ap (λ (l : List Record). length l) are ∙ length-append (had ++ x ∷ since) (Record.Start row ∷ later) ∙ ap (λ n. n + length (Record.Start row ∷ later)) (length-append had (x ∷ since)) in
          omega (arith, one, sum)

      go : SomeHas entry (Record.Start row) ⊎ IsTrueStart entry (quiet 120 110) both row → ⊥
      go (inl some) = new_to_both some
      go (inr it) = at_since it.had it.since it.later (one_records a it.had (Record.Estate bytes ∷ []) (subst (HasRecords it.had) it.was it.has_had) has_a) it.are it.truly

  -- so the Starts of b are true in the second line and in both as one
  true_in_second : HasTrueStarts between (quiet 120 110) both
  true_in_second found_row listed = inl (record { file = b; there = inr refl; records = both; has = has_b; listed = listed })

  true_in_both : HasTrueStarts entry (quiet 100 95) both
  true_in_both found_row (zero, below, e) = absurd cc
  true_in_both found_row (suc zero, below, e) = inr (subst (IsTrueStart entry (quiet 100 95) both) (ap row_in e) judged_at_first)
  true_in_both found_row (suc (suc k), below, e) = absurd (omega arith)

  -- The lines as a whole ----------------------------------------------------------------------------------------------------------

  no_start : (images : List ℕ → Type 0) (world : World) → HasTrueStarts images world (Record.Estate bytes ∷ [])
  no_start images world found_row (zero, below, e) = absurd cc
  no_start images world found_row (suc k, below, e) = absurd (omega arith)

  module _ (sound_a : IsSound (quiet 120 110) a) (sound_b : IsSound (quiet 120 110) b) where
    first_line : Since entry (quiet 100 95) [] between (quiet 120 110)
    first_line = record {
      sound = λ file here. elim here [ inl is ↦ subst (IsSound (quiet 120 110)) (sym is) sound_a | inr is ↦ subst (IsSound (quiet 120 110)) (sym is) sound_b ];
      comes = λ file here. elim here [
        | inl is ↦ subst (λ f. Rests entry (quiet 100 95) (quiet 120 110) [] f ⊎ Comes entry between (quiet 100 95) (quiet 120 110) [] f) (sym is) (inl a_rests)
        | inr is ↦ subst (λ f. Rests entry (quiet 100 95) (quiet 120 110) [] f ⊎ Comes entry between (quiet 100 95) (quiet 120 110) [] f) (sym is) (inr b_comes)
      ];
      starts = λ file records here has. elim here [
        | inl is ↦ subst (HasTrueStarts entry (quiet 100 95)) (one_records a (Record.Estate bytes ∷ []) records has_a (subst (HasRecords records) is has)) (no_start entry (quiet 100 95))
        | inr is ↦ subst (HasTrueStarts entry (quiet 100 95)) (one_records b both records has_b (subst (HasRecords records) is has)) true_in_both
      ];
    }

    second_line : Since between (quiet 120 110) [] found (quiet 120 110)
    second_line = record {
      sound = λ file is. subst (IsSound (quiet 120 110)) (sym is) sound_b;
      comes = λ file is.
          inl
          (record {
            entry = b;
            was = inr refl;
            had = both;
            has_had = has_b;
            has_same = subst (HasRecords both) (sym is) has_b;
            only = record { pair_count = refl; machine_count = refl; pairs = λ p. Drift-refl (live 120 110); posts = λ m. refl; kept = λ m. refl; runner = refl };
            none = refl;
          });
      starts = λ file records is has. subst (HasTrueStarts between (quiet 120 110)) (one_records b both records has_b (subst (HasRecords records) is has)) true_in_second;
    }

    -- both as one, where the second found the record
    lines_with_record : Since entry (quiet 100 95) [] found (quiet 120 110)
    lines_with_record = record {
      sound = λ file is. subst (IsSound (quiet 120 110)) (sym is) sound_b;
      comes = λ file is. subst (λ f. Rests entry (quiet 100 95) (quiet 120 110) [] f ⊎ Comes entry found (quiet 100 95) (quiet 120 110) [] f) (sym is) (inr b_comes_to_end);
      starts = λ file records is has. subst (HasTrueStarts entry (quiet 100 95)) (one_records b both records has_b (subst (HasRecords records) is has)) true_in_both;
    }

    -- and where it didn't
    lines_without_record : Since entry (quiet 100 95) [] entry (quiet 120 110)
    lines_without_record = record {
      sound = λ file is. subst (IsSound (quiet 120 110)) (sym is) sound_a;
      comes = λ file is. subst (λ f. Rests entry (quiet 100 95) (quiet 120 110) [] f ⊎ Comes entry entry (quiet 100 95) (quiet 120 110) [] f) (sym is) (inl a_rests);
      starts = λ file records is has. subst (HasTrueStarts entry (quiet 100 95)) (one_records a (Record.Estate bytes ∷ []) records has_a (subst (HasRecords records) is has)) (no_start entry (quiet 100 95));
    }

    -- no such line added the record
    no_line_added : Since entry (quiet 100 95) (Record.Start row ∷ []) between (quiet 120 110) → ⊥
    no_line_added s = go (s.comes b (inr refl))
      where
        go : Rests entry (quiet 100 95) (quiet 120 110) (Record.Start row ∷ []) b ⊎ Comes entry between (quiet 100 95) (quiet 120 110) (Record.Start row ∷ []) b → ⊥
        go (inl r) = let wrong : Record.Start row ∷ [] ≡ [] = r.none in cc
        go (inr c) = no_end_without_record c

  -- A Start behind a reprotect that came since may give fewer writes than there were at entry, and no fewer than the reprotect's Start
  module _ (since : List Record) (runs : List Run) (stands : Stands st (Record.Estate bytes ∷ since) runs) (protects_now : Side.A ≡ protected_side st (0 ∷ []) runs)
      (reversed : (g : ℕ) → last_reverse g runs since ≡ Some (row_of 2 Op.Reprotect 0 0 80)) where
    abbrev fewer : StartRow
    fewer = row_of 3 Op.Testing 0 85 80

    read_behind : ReadTruly (Record.Estate bytes ∷ since) since fewer (quiet 100 95)
    read_behind other_setting these s g p pair there held =
        let (settings, lists) = one_stand st other_setting (Record.Estate bytes ∷ since) runs these stands s in
        subst (λ l. IfSome (pair_row p fewer) (ReadsAtLeast (least_at g p l since (quiet 100 95)) (protected_side other_setting (0 ∷ []) these))) lists
        (subst (λ x. IfSome (pair_row p fewer) (ReadsAtLeast (least_at g p runs since (quiet 100 95)) x)) (protects_now ∙ (λ i. protected_side (settings i) (0 ∷ []) (lists i)))
        (subst (λ o. IfSome (pair_row p fewer) (ReadsAtLeast (λ side. least_of p (at side (live 100 95).content).writes o) Side.A)) (sym (reversed g)) (go p)))
      where
        go : (p : ℕ) → IfSome (pair_row p fewer) (ReadsAtLeast (λ side. least_of p (at side (live 100 95).content).writes (Some (row_of 2 Op.Reprotect 0 0 80))) Side.A)
        go zero = record { new_side = omega arith; old_side_too = λ seen. omega arith }
        go (suc p) = rw (ne_eqb 0 (suc p) (λ e. omega arith)) tt

    judged_behind : IsTrueStart entry (quiet 100 95) (Record.Estate bytes ∷ (since ++ Record.Start fewer ∷ [])) fewer
    judged_behind = record { file = a; was = refl; had = Record.Estate bytes ∷ []; has_had = has_a; since = since; later = []; are = refl; truly = read_behind }
