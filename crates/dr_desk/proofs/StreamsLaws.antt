-- How much of an input was read, and of an output written.
use Rattle.std.proofs.Common.{◌≡◌, ◌+◌, ◌-◌, ◌≤◌, ◌++◌, ℕ, List, [], length, take, drop, sym, ◌∙◌, ap, append_assoc, arith, length-drop}
use Rattle.std.proofs.lemmas.List.{append-nil, take_all}
use Rattle.std.proofs.Math.Seq.{drop-append_seam, take-append_seam, take-add}
use Rattle.dr_desk.specs.Streams.{looked_at, ReadsNoFurther}

-- what was read and what is left are the input
pub reads_whole : (read left input : List ℕ) → length read ≤ 4194305 → read ++ left ≡ input → ReadsNoFurther input left
reads_whole read left input few whole = record {
  count = length read;
  few = few;
  rest = rw (← whole) (sym (drop-append_seam read left));
}

-- where nothing is left, all that was read is looked at
pub looks_at_all : (read left input : List ℕ) → length read ≤ 4194305 → left ≡ [] → read ++ left ≡ input → read ≡ looked_at input
looks_at_all read left input few end whole =
    let all : input ≡ read = sym whole ∙ ap (λ l. read ++ l) end ∙ append-nil read in
    rw all (sym (take_all 4194305 read few))

-- where as much was read as may be, that is looked at
pub looks_at_front : (read left input : List ℕ) → length read ≡ 4194305 → read ++ left ≡ input → read ≡ looked_at input
looks_at_front read left input full whole =
    rw (← whole) (rw (← full) (sym (take-append_seam read left)))

-- how far an output has come: no call has failed, and so many bytes were taken
pub record WritesSome (tells : Type 0) (before now : ℕ) (old new bytes : List ℕ) (written : ℕ) : Type 0 where
  pub within : written ≤ length bytes
  pub later : before ≤ now
  pub taken : tells → new ≡ old ++ take written bytes

-- how far an input has come
pub record ReadsSome (tells : Type 0) (before now : ℕ) (old new read : List ℕ) : Type 0 where
  pub few : length read ≤ 4194305
  pub later : before ≤ now
  pub whole : tells → read ++ new ≡ old

-- one more write, of what isn't written yet
pub writes_more : (old middle new bytes : List ℕ) (written count : ℕ) → middle ≡ old ++ take written bytes → new ≡ middle ++ take count (take (length bytes - written) (drop written bytes)) → new ≡ old ++ take (written + count) bytes
writes_more old middle new bytes written count before now =
    let rest : take (length bytes - written) (drop written bytes) ≡ drop written bytes = take_all _ (drop written bytes) (omega (arith, length-drop written bytes)) in
    now
    ∙ ap (λ l. middle ++ take count l) rest
    ∙ ap (λ l. l ++ take count (drop written bytes)) before
    ∙ append_assoc old (take written bytes) (take count (drop written bytes))
    ∙ ap (λ l. old ++ l) (sym (take-add written count bytes))
