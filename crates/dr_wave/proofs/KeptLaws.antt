-- Kept codes that commands add, part by part.
use Rattle.std.specs.Prelude.{is_some, not, cond, if◌then◌else◌, Option, Some, None, IsTrue}
use Rattle.std.specs.List.{AllByRecursion}
use Rattle.std.proofs.Common.{◌≡◌, ℕ, suc, ◌+◌, ◌<◌, ◌≤◌, ◌==◌, Bool, true, false, List, [], ◌∷◌, ◌++◌, length, refl, sym, ◌∙◌, ap, subst, arith, append_assoc, length-append, add-zero}
use Rattle.std.proofs.lemmas.List.{append-nil}
use Rattle.std.proofs.lemmas.List.Elements.{filter-append}
use Rattle.std.proofs.lemmas.Bool.Decides.{nat_tests}
use Rattle.dr_base.specs.declared.side.Side.{Side}
use Rattle.dr_outside.specs.declared.machine.Kept.{Kept}
use Rattle.dr_outside.specs.Commands.{code_of}
use Rattle.dr_meaning.specs.Lawful.{token_of}
use Rattle.dr_meaning.specs.InOrder.{has_code}
use Rattle.dr_meaning.specs.Calls.{KeepsCodes}
use Rattle.dr_wave.specs.Commands.{Command, commands_from, unkept, kept_of, RanFirst, RanAll, codes_from, AreKept, AreCodes}

-- Kept codes with more behind them ---------------------------------------------------------------------

-- a code that is kept is so where more is behind it
pub found_behind : (old more : List Kept) (token code : ℕ) → code_of old token ≡ Some code → code_of (old ++ more) token ≡ Some code
found_behind [] more token code h = absurd (cc h)
found_behind (k ∷ rest) more token code h = go (found_behind rest more token code) (k.token == token) h
  where
    go : (code_of rest token ≡ Some code → code_of (rest ++ more) token ≡ Some code) → (b : Bool) → (if b then Some k.code else code_of rest token) ≡ Some code → (if b then Some k.code else code_of (rest ++ more) token) ≡ Some code
    go later true e = e
    go later false e = later e

-- where none is kept, the one behind is found
pub last_found : (old : List Kept) (kept : Kept) → code_of old kept.token ≡ None → code_of (old ++ kept ∷ []) kept.token ≡ Some kept.code
last_found [] kept none = let same : (kept.token == kept.token) ≡ true = grind (arith, nat_tests) in rw same refl
last_found (k ∷ rest) kept none = go (last_found rest kept) (k.token == kept.token) none
  where
    go : (code_of rest kept.token ≡ None → code_of (rest ++ kept ∷ []) kept.token ≡ Some kept.code) → (b : Bool) → (if b then Some k.code else code_of rest kept.token) ≡ None → (if b then Some k.code else code_of (rest ++ kept ∷ []) kept.token) ≡ Some kept.code
    go later true e = absurd (cc e)
    go later false e = later e

-- a token isn't found among codes of others
none_among : (more : List Kept) (token : ℕ) → AllByRecursion (λ k. (k.token == token) ≡ false) more → code_of more token ≡ None
none_among [] token others = refl
none_among (k ∷ more) token others = rw (others.0) (none_among more token others.1)

-- nor does it matter behind
pub same_behind : (old more : List Kept) (token : ℕ) → AllByRecursion (λ k. (k.token == token) ≡ false) more → code_of (old ++ more) token ≡ code_of old token
same_behind [] more token others = none_among more token others
same_behind (k ∷ rest) more token others = rw (same_behind rest more token others) refl

-- Which are unkept -----------------------------------------------------------------------------------------

pub unkept_none : (old : List Kept) (command : Command) (rest : List Command) → code_of old command.token ≡ None → unkept old (command ∷ rest) ≡ command ∷ unkept old rest
unkept_none old command rest none = rw none refl

pub unkept_some : (old : List Kept) (command : Command) (rest : List Command) (code : ℕ) → code_of old command.token ≡ Some code → unkept old (command ∷ rest) ≡ unkept old rest
unkept_some old command rest code some = rw some refl

-- the same ones where the same codes are kept for them
unkept_same : (old now : List Kept) (commands : List Command) → AllByRecursion (λ command. code_of now command.token ≡ code_of old command.token) commands → unkept now commands ≡ unkept old commands
unkept_same old now [] same = refl
unkept_same old now (command ∷ rest) same = rw (same.0, unkept_same old now rest same.1) refl

-- What is kept of them ---------------------------------------------------------------------------------------

pub kept_of-none : (side : Side) (commands : List Command) → kept_of side commands [] ≡ []
kept_of-none side [] = refl
kept_of-none side (command ∷ commands) = refl

pub kept_of-append : (side : Side) (xs ys : List Command) (codes more : List ℕ) → length codes ≡ length xs → kept_of side (xs ++ ys) (codes ++ more) ≡ kept_of side xs codes ++ kept_of side ys more
kept_of-append side [] ys [] more e = refl
kept_of-append side [] ys (code ∷ codes) more e = absurd (omega (arith, e))
kept_of-append side (x ∷ xs) ys [] more e = absurd (omega (arith, e))
kept_of-append side (x ∷ xs) ys (code ∷ codes) more e =
    ap (λ (l : List Kept). record { token = x.token; code = code; name = x.name; side = Some side } ∷ l) (kept_of-append side xs ys codes more (omega (arith, e)))

-- what is kept of some commands is kept of these and more
kept_of-front : (side : Side) (xs ys : List Command) (codes : List ℕ) → (less : List ℕ) × (kept_of side (xs ++ ys) less ≡ kept_of side xs codes)
kept_of-front side [] ys codes = ([], kept_of-none side ys)
kept_of-front side (x ∷ xs) ys [] = ([], refl)
kept_of-front side (x ∷ xs) ys (code ∷ codes) =
    let (less, e) = kept_of-front side xs ys codes in
    (code ∷ less, ap (λ (l : List Kept). record { token = x.token; code = code; name = x.name; side = Some side } ∷ l) e)

-- Parts together --------------------------------------------------------------------------------------------

pub none_ran : (side : Side) (commands : List Command) (old : List Kept) → RanFirst side commands old old
none_ran side commands old = record { codes = []; grew = rw (kept_of-none side (unkept old commands)) (sym (append-nil old)) }

pub all_is_first : (side : Side) (commands : List Command) (old now : List Kept) → RanAll side commands old now → RanFirst side commands old now
all_is_first side commands old now ran = record { codes = ran.codes; grew = ran.grew }

-- the first of some are the first of these and more
pub front_ran : (side : Side) (xs ys : List Command) (old now : List Kept) → RanFirst side xs old now → RanFirst side (xs ++ ys) old now
front_ran side xs ys old now ran =
    let (less, e) = kept_of-front side (unkept old xs) (unkept old ys) ran.codes in
    record {
      codes = less;
      grew = rw (filter-append (λ command. not (has_code old command.token)) xs ys, e) ran.grew;
    }

grown : (old mid now a b : List Kept) → mid ≡ old ++ a → now ≡ mid ++ b → now ≡ old ++ (a ++ b)
grown old mid now a b e f = f ∙ ap (λ (l : List Kept). l ++ b) e ∙ append_assoc old a b

-- all of some, and then the first of more
then_first : (side : Side) (xs ys : List Command) (old mid now : List Kept) → unkept mid ys ≡ unkept old ys → RanAll side xs old mid → RanFirst side ys mid now → RanFirst side (xs ++ ys) old now
then_first side xs ys old mid now same all first = record {
  codes = all.codes ++ first.codes;
  grew =
      rw (filter-append (λ command. not (has_code old command.token)) xs ys, kept_of-append side (unkept old xs) (unkept old ys) all.codes first.codes all.all)
      (grown old mid now (kept_of side (unkept old xs) all.codes) (kept_of side (unkept old ys) first.codes) all.grew (rw same at first.grew));
}

then_all : (side : Side) (xs ys : List Command) (old mid now : List Kept) → unkept mid ys ≡ unkept old ys → RanAll side xs old mid → RanAll side ys mid now → RanAll side (xs ++ ys) old now
then_all side xs ys old mid now same all more = record {
  codes = all.codes ++ more.codes;
  all =
      rw (filter-append (λ command. not (has_code old command.token)) xs ys)
      (length-append all.codes more.codes ∙ (let e : length more.codes ≡ length (unkept old ys) = rw same at more.all in omega (arith, e, all.all, length-append (unkept old xs) (unkept old ys))));
  grew =
      rw (filter-append (λ command. not (has_code old command.token)) xs ys, kept_of-append side (unkept old xs) (unkept old ys) all.codes more.codes all.all)
      (grown old mid now (kept_of side (unkept old xs) all.codes) (kept_of side (unkept old ys) more.codes) all.grew (rw same at more.grew));
}

-- By index ---------------------------------------------------------------------------------------------------

pub commands_from-append : (root i : ℕ) (xs ys : List (Option (List ℕ))) → commands_from root i (xs ++ ys) ≡ commands_from root i xs ++ commands_from root (i + length xs) ys
commands_from-append root i [] ys = rw (add-zero i) refl
commands_from-append root i (None ∷ xs) ys = let e : (i + 1) + length xs ≡ i + suc (length xs) = omega arith in commands_from-append root (i + 1) xs ys ∙ ap (λ n. commands_from root (i + 1) xs ++ commands_from root n ys) e
commands_from-append root i (Some name ∷ xs) ys = let e : (i + 1) + length xs ≡ i + suc (length xs) = omega arith in
    ap (λ (l : List Command). record { token = token_of root i; name = name } ∷ l) (commands_from-append root (i + 1) xs ys ∙ ap (λ n. commands_from root (i + 1) xs ++ commands_from root n ys) e)

-- the tokens of commands below an index are below its token
below : (root i bound : ℕ) (xs : List (Option (List ℕ))) → i + length xs ≤ bound → AllByRecursion (λ command. command.token < token_of root bound) (commands_from root i xs)
below root i bound [] le = tt
below root i bound (None ∷ xs) le = below root (i + 1) bound xs (omega (arith, le))
below root i bound (Some name ∷ xs) le = (omega (arith, le), below root (i + 1) bound xs (omega (arith, le)))

-- and so are those of what is kept of them
below_kept : (side : Side) (old : List Kept) (most : ℕ) (commands : List Command) (codes : List ℕ) → AllByRecursion (λ command. command.token < most) commands → AllByRecursion (λ k. k.token < most) (kept_of side (unkept old commands) codes)
below_kept side old most [] codes all = tt
below_kept side old most (command ∷ rest) codes all = go (λ more. below_kept side old most rest more all.1) (has_code old command.token) codes
  where
    go : ((more : List ℕ) → AllByRecursion (λ k. k.token < most) (kept_of side (unkept old rest) more)) → (b : Bool) (codes : List ℕ) → AllByRecursion (λ k. k.token < most) (kept_of side (cond (not b) (command ∷ unkept old rest) (unkept old rest)) codes)
    go later true codes = later codes
    go later false [] = tt
    go later false (code ∷ codes) = (all.0, later codes)

-- so the codes of commands from this index on are as they were
above : (old more : List Kept) (root most i : ℕ) (ys : List (Option (List ℕ))) → AllByRecursion (λ k. k.token < token_of root most) more → most ≤ i →
    AllByRecursion (λ command. code_of (old ++ more) command.token ≡ code_of old command.token) (commands_from root i ys)
above old more root most i [] small le = tt
above old more root most i (None ∷ ys) small le = above old more root most (i + 1) ys small (omega (arith, le))
above old more root most i (Some name ∷ ys) small le = (same_behind old more (token_of root i) (others more small), above old more root most (i + 1) ys small (omega (arith, le)))
  where
    others : (more : List Kept) → AllByRecursion (λ k. k.token < token_of root most) more → AllByRecursion (λ k. (k.token == token_of root i) ≡ false) more
    others [] small = tt
    others (k ∷ more) small = (let less : k.token < token_of root most = small.0 in let up : token_of root most ≤ token_of root i = omega (arith, le) in grind (arith, nat_tests), others more small.1)

module _ (side : Side) (root i : ℕ) (xs ys : List (Option (List ℕ))) (old mid now : List Kept) (all : RanAll side (commands_from root i xs) old mid) where
  same_from : unkept mid (commands_from root (i + length xs) ys) ≡ unkept old (commands_from root (i + length xs) ys)
  same_from =
      subst (λ (m : List Kept). unkept m (commands_from root (i + length xs) ys) ≡ unkept old (commands_from root (i + length xs) ys)) (sym all.grew)
      (unkept_same old _ (commands_from root (i + length xs) ys)
      (above old (kept_of side (unkept old (commands_from root i xs)) all.codes) root (i + length xs) (i + length xs) ys
      (below_kept side old (token_of root (i + length xs)) (commands_from root i xs) all.codes (below root i (i + length xs) xs (omega arith))) (omega arith)))

  -- all commands of some indices, and then the first from there on
  pub first_from : RanFirst side (commands_from root (i + length xs) ys) mid now → RanFirst side (commands_from root i (xs ++ ys)) old now
  first_from first = rw (commands_from-append root i xs ys) (then_first side _ _ old mid now same_from all first)

  pub all_from : RanAll side (commands_from root (i + length xs) ys) mid now → RanAll side (commands_from root i (xs ++ ys)) old now
  all_from more = rw (commands_from-append root i xs ys) (then_all side _ _ old mid now same_from all more)

pub front_from : (side : Side) (root i : ℕ) (xs ys : List (Option (List ℕ))) (old now : List Kept) → RanFirst side (commands_from root i xs) old now → RanFirst side (commands_from root i (xs ++ ys)) old now
front_from side root i xs ys old now first = rw (commands_from-append root i xs ys) (front_ran side _ _ old now first)

-- Codes ------------------------------------------------------------------------------------------------------

pub keeps_codes : (side : Side) (commands : List Command) (old now : List Kept) → RanFirst side commands old now → KeepsCodes old now
keeps_codes side commands old now ran token code h = rw ran.grew (found_behind old (kept_of side (unkept old commands) ran.codes) token code h)

-- a token for which a code is kept keeps it
has_later : (old now : List Kept) → KeepsCodes old now → (token : ℕ) → IsTrue (has_code old token) → (code_of now token ≡ code_of old token) × IsTrue (has_code now token)
has_later old now keeps token h = go (code_of old token) refl h
  where
    go : (o : Option ℕ) → code_of old token ≡ o → IsTrue (is_some o) → (code_of now token ≡ o) × IsTrue (has_code now token)
    go None e h = absurd (cc h)
    go (Some code) e h = let later : code_of now token ≡ Some code = keeps token code e in (later, rw later refl)

pub kept_later : (old now : List Kept) → KeepsCodes old now → (root i : ℕ) (names : List (Option (List ℕ))) (codes : List (Option ℕ)) → AreCodes old root i names codes → AreCodes now root i names codes
kept_later old now keeps root i names codes were = record { are_kept = are root i names were.are_kept; told = were.told ∙ same root i names were.are_kept }
  where
    are : (root i : ℕ) (names : List (Option (List ℕ))) → AreKept old root i names → AreKept now root i names
    are root i [] h = tt
    are root i (None ∷ names) h = are root (i + 1) names h
    are root i (Some name ∷ names) h = ((has_later old now keeps (token_of root i) h.0).1, are root (i + 1) names h.1)

    same : (root i : ℕ) (names : List (Option (List ℕ))) → AreKept old root i names → codes_from old root i names ≡ codes_from now root i names
    same root i [] h = refl
    same root i (None ∷ names) h = ap (λ (l : List (Option ℕ)). None ∷ l) (same root (i + 1) names h)
    same root i (Some name ∷ names) h = rw ((has_later old now keeps (token_of root i) h.0).0, same root (i + 1) names h.1) refl

pub codes-append : (kept : List Kept) (root i : ℕ) (xs ys : List (Option (List ℕ))) (codes more : List (Option ℕ)) → AreCodes kept root i xs codes → AreCodes kept root (i + length xs) ys more → AreCodes kept root i (xs ++ ys) (codes ++ more)
codes-append kept root i xs ys codes more a b = record {
  are_kept = are i xs a.are_kept b.are_kept;
  told = ap (λ (l : List (Option ℕ)). l ++ more) a.told ∙ ap (λ (l : List (Option ℕ)). codes_from kept root i xs ++ l) b.told ∙ sym (both i xs);
}
  where
    are : (i : ℕ) (xs : List (Option (List ℕ))) → AreKept kept root i xs → AreKept kept root (i + length xs) ys → AreKept kept root i (xs ++ ys)
    are i [] h k = rw (add-zero i) at k
    are i (None ∷ xs) h k = let e : i + suc (length xs) ≡ (i + 1) + length xs = omega arith in are (i + 1) xs h (subst (λ n. AreKept kept root n ys) e k)
    are i (Some name ∷ xs) h k = let e : i + suc (length xs) ≡ (i + 1) + length xs = omega arith in (h.0, are (i + 1) xs h.1 (subst (λ n. AreKept kept root n ys) e k))

    both : (i : ℕ) (xs : List (Option (List ℕ))) → codes_from kept root i (xs ++ ys) ≡ codes_from kept root i xs ++ codes_from kept root (i + length xs) ys
    both i [] = rw (add-zero i) refl
    both i (None ∷ xs) = let e : (i + 1) + length xs ≡ i + suc (length xs) = omega arith in ap (λ (l : List (Option ℕ)). None ∷ l) (both (i + 1) xs ∙ ap (λ n. codes_from kept root (i + 1) xs ++ codes_from kept root n ys) e)
    both i (Some name ∷ xs) = let e : (i + 1) + length xs ≡ i + suc (length xs) = omega arith in ap (λ (l : List (Option ℕ)). code_of kept (token_of root i) ∷ l) (both (i + 1) xs ∙ ap (λ n. codes_from kept root (i + 1) xs ++ codes_from kept root n ys) e)
