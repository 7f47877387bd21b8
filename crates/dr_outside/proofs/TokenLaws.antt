-- Kept codes, with one more behind them, and those of them that count.
use Rattle.std.specs.Prelude.{◌≡◌, ℕ, ◌==◌, Bool, true, false, List, [], ◌∷◌, ◌++◌, Option, Some, None, if◌then◌else◌, not, cond, filter}
use Rattle.std.proofs.Common.{refl, sym, ◌∙◌, ap, subst, arith}
use Rattle.std.proofs.lemmas.Bool.Decides.{nat_tests}
use Rattle.std.proofs.lemmas.Bool.{eqb-true}
use Rattle.std.proofs.lemmas.List.Elements.{filter-append}
use Rattle.dr_base.specs.declared.side.Side.{Side}
use Rattle.dr_outside.specs.declared.machine.Kept.{Kept}
use Rattle.dr_outside.specs.Commands.{code_of, HasTokensOnce, RunsOnce}
use Rattle.dr_outside.specs.FirstCodes.{is_other, first_codes}

-- a code that is found in a list is found where more is behind it
pub kept_behind : (old : List Kept) (kept : Kept) (token code : ℕ) → code_of old token ≡ Some code → code_of (old ++ kept ∷ []) token ≡ Some code
kept_behind [] kept token code h = absurd cc
kept_behind (k ∷ rest) kept token code h = go (kept_behind rest kept token code) (k.token == token) h
  where
    go : (code_of rest token ≡ Some code → code_of (rest ++ kept ∷ []) token ≡ Some code) → (b : Bool) → (if b then Some k.code else code_of rest token) ≡ Some code → (if b then Some k.code else code_of (rest ++ kept ∷ []) token) ≡ Some code
    go later true e = e
    go later false e = later e

-- a token of another one is found in neither
none_behind : (old : List Kept) (kept : Kept) (token : ℕ) → code_of old token ≡ None → (kept.token == token) ≡ false → code_of (old ++ kept ∷ []) token ≡ None
none_behind [] kept token h other = rw other refl
none_behind (k ∷ rest) kept token h other = go (λ e. none_behind rest kept token e other) (k.token == token) h
  where
    go : (code_of rest token ≡ None → code_of (rest ++ kept ∷ []) token ≡ None) → (b : Bool) → (if b then Some k.code else code_of rest token) ≡ None → (if b then Some k.code else code_of (rest ++ kept ∷ []) token) ≡ None
    go later true e = absurd cc
    go later false e = later e

flipped : (a b : ℕ) → (a == b) ≡ false → (b == a) ≡ false
flipped a b h = grind (arith, nat_tests)

-- what isn't found begins with another token, and isn't found behind it
first_other : (k : Kept) (rest : List Kept) (token : ℕ) → code_of (k ∷ rest) token ≡ None → ((token == k.token) ≡ false) × (code_of rest token ≡ None)
first_other k rest token h = go (k.token == token) refl h
  where
    go : (b : Bool) → (k.token == token) ≡ b → (if b then Some k.code else code_of rest token) ≡ None → ((token == k.token) ≡ false) × (code_of rest token ≡ None)
    go true e h = absurd cc
    go false e h = (flipped k.token token e, h)

pub once_behind : (old : List Kept) (kept : Kept) → code_of old kept.token ≡ None → HasTokensOnce old → HasTokensOnce (old ++ kept ∷ [])
once_behind [] kept none once = (refl, tt)
once_behind (k ∷ rest) kept none once =
    let (other, behind) = first_other k rest kept.token none in
    (none_behind rest kept k.token once.0 other, once_behind rest kept behind once.1)

-- The codes that count

-- one for another token isn't missed
found_other : (taken token : ℕ) (list : List Kept) → (taken == token) ≡ false → code_of (filter (is_other taken) list) token ≡ code_of list token
found_other taken token [] other = refl
found_other taken token (kept ∷ rest) other = go (kept.token == taken) refl (kept.token == token) refl (found_other taken token rest other)
  where
    go : (t : Bool) → (kept.token == taken) ≡ t → (b : Bool) → (kept.token == token) ≡ b → code_of (filter (is_other taken) rest) token ≡ code_of rest token
        → code_of (cond (not t) (kept ∷ filter (is_other taken) rest) (filter (is_other taken) rest)) token ≡ (if b then Some kept.code else code_of rest token)
    go true is true at later = let wrong : (taken == token) ≡ true = ap (λ n. n == token) (sym (eqb-true kept.token taken is)) ∙ at in let not_so : true ≡ false = sym wrong ∙ other in absurd cc
    go true is false at later = later
    go false is true at later = rw at refl
    go false is false at later = rw at later

-- for each token the same code is kept among them
pub first_same : (list : List Kept) (token : ℕ) → code_of (first_codes list) token ≡ code_of list token
first_same [] token = refl
first_same (kept ∷ rest) token = go (kept.token == token) refl (first_same rest token)
  where
    go : (b : Bool) → (kept.token == token) ≡ b → code_of (first_codes rest) token ≡ code_of rest token
        → (if b then Some kept.code else code_of (filter (is_other kept.token) (first_codes rest)) token) ≡ (if b then Some kept.code else code_of rest token)
    go true is later = refl
    go false is later = found_other kept.token token (first_codes rest) is ∙ later

-- one more code counts, where none was kept for its token
pub first_behind : (list : List Kept) (one : Kept) → code_of list one.token ≡ None → first_codes (list ++ one ∷ []) ≡ first_codes list ++ one ∷ []
first_behind [] one none = refl
first_behind (kept ∷ rest) one none =
    let (other, behind) = first_other kept rest one.token none in
    ap (λ l. kept ∷ filter (is_other kept.token) l) (first_behind rest one behind)
    ∙ ap (λ l. kept ∷ l) (filter-append (is_other kept.token) (first_codes rest) (one ∷ []) ∙ ap (λ l. filter (is_other kept.token) (first_codes rest) ++ l) (rw other refl))

-- a command that runs once does so among the codes that count
pub runs_first : (side : Option Side) (token : ℕ) (name : List ℕ) (old now : List Kept) (code : ℕ) → RunsOnce side token name old now code → RunsOnce side token name (first_codes old) (first_codes now) code
runs_first side token name old now code ran = record {
  first = first_same old token ∙ ran.first;
  kept = ap first_codes ran.kept ∙ first_behind old (record { token = token; code = code; name = name; side = side }) ran.first;
}
