-- Of kept codes those that count: of several for one token the first.
use Rattle.std.specs.Prelude.{ℕ, ◌≡◌, ◌==◌, Bool, true, false, not, cond, if◌then◌else◌, List, [], ◌∷◌, filter, Option, Some, None}
use Rattle.std.proofs.Common.{refl}
use Rattle.dr_outside.specs.declared.machine.Kept.{Kept}
use Rattle.dr_outside.specs.Commands.{code_of, HasTokensOnce}

-- whether a code is kept for another token
abbrev pub is_other : ℕ → Kept → Bool
is_other token kept = not (kept.token == token)

-- each code for whose token none is kept before it
abbrev pub first_codes : List Kept → List Kept
first_codes [] = []
first_codes (kept ∷ rest) = kept ∷ filter (is_other kept.token) (first_codes rest)

-- none is left for a token whose codes were taken out
none_left : (token : ℕ) (list : List Kept) → code_of (filter (is_other token) list) token ≡ None
none_left token [] = refl
none_left token (kept ∷ rest) = go (kept.token == token) refl (none_left token rest)
  where
    go : (b : Bool) → (kept.token == token) ≡ b → code_of (filter (is_other token) rest) token ≡ None → code_of (cond (not b) (kept ∷ filter (is_other token) rest) (filter (is_other token) rest)) token ≡ None
    go true is later = later
    go false is later = rw is later

-- none is found for a token where fewer are looked at
none_fewer : (test : Kept → Bool) (token : ℕ) (list : List Kept) → code_of list token ≡ None → code_of (filter test list) token ≡ None
none_fewer test token [] none = refl
none_fewer test token (kept ∷ rest) none = go (test kept) (kept.token == token) refl none (none_fewer test token rest)
  where
    go : (t b : Bool) → (kept.token == token) ≡ b → (if b then Some kept.code else code_of rest token) ≡ None → (code_of rest token ≡ None → code_of (filter test rest) token ≡ None)
        → code_of (cond t (kept ∷ filter test rest) (filter test rest)) token ≡ None
    go t true is none later = absurd cc
    go true false is none later = rw is (later none)
    go false false is none later = later none

once_fewer : (test : Kept → Bool) (list : List Kept) → HasTokensOnce list → HasTokensOnce (filter test list)
once_fewer test [] once = tt
once_fewer test (kept ∷ rest) once = go (test kept) (none_fewer test kept.token rest once.0) (once_fewer test rest once.1)
  where
    go : (t : Bool) → code_of (filter test rest) kept.token ≡ None → HasTokensOnce (filter test rest) → HasTokensOnce (cond t (kept ∷ filter test rest) (filter test rest))
    go true none later = (none, later)
    go false none later = later

-- one code is kept for a token
pub first_once : (list : List Kept) → HasTokensOnce (first_codes list)
first_once [] = tt
first_once (kept ∷ rest) = (none_left kept.token (first_codes rest), once_fewer (is_other kept.token) (first_codes rest) (first_once rest))
