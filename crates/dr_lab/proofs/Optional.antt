-- Texts of two parts, the second of which is there only where the first says so.
use Rattle.std.proofs.Common.{ℕ, ◌≡◌, ◌≢◌, ◌∙◌, List, ◌++◌, Option, Some, None, refl, sym, ap, append_assoc}
use Rattle.dr_lab.specs.Fields.{Taken, NoneThere}

module _ {R V : Type 0} (IsHead : Option R → Type 0) (IsV : V → Type 0) (head : Option R → List ℕ) (tail : V → List ℕ) where
  -- the first part alone, or both
  abbrev pub opt_text : Option (R × V) → List ℕ
  opt_text None = head None
  opt_text (Some p) = head (Some p.0) ++ tail p.1

  -- which values have such texts
  abbrev pub IsOpt : Option (R × V) → Type 0
  IsOpt None = IsHead None
  IsOpt (Some p) = IsHead (Some p.0) × IsV p.1

  behind : (bytes more : List ℕ) (p : R × V) → bytes ≡ (head (Some p.0) ++ tail p.1) ++ more → bytes ≡ head (Some p.0) ++ (tail p.1 ++ more)
  behind bytes more p e = e ∙ append_assoc (head (Some p.0)) (tail p.1) more

  only_none : {bytes rest : List ℕ} → Taken IsHead head bytes None rest → (y : Option (R × V)) (more : List ℕ) → IsOpt y → bytes ≡ opt_text y ++ more → (y ≡ None) × (more ≡ rest)
  only_none t None more is e = (refl, (t.only None more is e).1)
  only_none {bytes} {rest} t (Some p) more is e = absurd (cc ((t.only (Some p.0) (tail p.1 ++ more) is.0 (behind bytes more p e)).0))

  -- the first part alone
  pub head_alone : {bytes rest : List ℕ} → Taken IsHead head bytes None rest → Taken IsOpt opt_text bytes None rest
  head_alone t = record { is = t.is; whole = t.whole; only = only_none t }

  only_some : {bytes mid rest : List ℕ} {r : R} {v : V} → Taken IsHead head bytes (Some r) mid → Taken IsV tail mid v rest → (y : Option (R × V)) (more : List ℕ) → IsOpt y → bytes ≡ opt_text y ++ more → (y ≡ Some (r, v)) × (more ≡ rest)
  only_some t u None more is e = absurd (cc ((t.only None more is e).0))
  only_some {bytes} {mid} {rest} {r} {v} t u (Some p) more is e =
      let one = t.only (Some p.0) (tail p.1 ++ more) is.0 (behind bytes more p e) in
      let two = u.only p.1 more is.1 (sym one.1) in
      let same : p.0 ≡ r = cc (one.0) in
      ((λ i. Some (same i, two.0 i)), two.1)

  -- both parts
  pub head_and_tail : {bytes mid rest : List ℕ} {r : R} {v : V} → Taken IsHead head bytes (Some r) mid → Taken IsV tail mid v rest → Taken IsOpt opt_text bytes (Some (r, v)) rest
  head_and_tail {bytes} {mid} {rest} {r} {v} t u = record {
    is = (t.is, u.is);
    whole = t.whole ∙ ap (λ (z : List ℕ). head (Some r) ++ z) u.whole ∙ sym (append_assoc (head (Some r)) (tail v) rest);
    only = only_some t u;
  }

  no_half : {bytes mid : List ℕ} {r : R} → Taken IsHead head bytes (Some r) mid → NoneThere IsV tail mid → (y : Option (R × V)) (more : List ℕ) → IsOpt y → bytes ≢ opt_text y ++ more
  no_half t u None more is e = absurd (cc ((t.only None more is e).0))
  no_half {bytes} t u (Some p) more is e =
      let one = t.only (Some p.0) (tail p.1 ++ more) is.0 (behind bytes more p e) in
      u.none p.1 more is.1 (sym one.1)

  -- none where the second part is wanting
  pub tail_none : {bytes mid : List ℕ} {r : R} → Taken IsHead head bytes (Some r) mid → NoneThere IsV tail mid → NoneThere IsOpt opt_text bytes
  tail_none t u = record { none = no_half t u }

  no_first : {bytes : List ℕ} → NoneThere IsHead head bytes → (y : Option (R × V)) (more : List ℕ) → IsOpt y → bytes ≢ opt_text y ++ more
  no_first t None more is e = t.none None more is e
  no_first {bytes} t (Some p) more is e = t.none (Some p.0) (tail p.1 ++ more) is.0 (behind bytes more p e)

  -- none where the first part is
  pub head_none : {bytes : List ℕ} → NoneThere IsHead head bytes → NoneThere IsOpt opt_text bytes
  head_none t = record { none = no_first t }
