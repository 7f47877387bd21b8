-- Keys that differ in a part aren't equal.
use Rattle.std.specs.Prelude.{◌≡◌, ◌≢◌, ℕ, ◌==◌, ◌&&◌, ◌⊎◌, Bool, true, false}
use Rattle.std.specs.Prelude.{OnOk}
use Rattle.std.specs.declared.result.Result.{Result}
use Rattle.std.specs.Result.{IsOk}
use Rattle.std.proofs.Common.{refl, sym, inl, inr}
use Rattle.std.proofs.lemmas.Bool.{false≢true, eq-eqb, ne_eqb}

pub one_same : (a : ℕ) → a == a ≡ true
one_same a = eq-eqb a a refl

differ : (a b : ℕ) → b ≢ a → a == b ≡ false
differ a b apart = ne_eqb a b (λ same. apart (sym same))

and_false : (x : Bool) → x && false ≡ false
and_false true = refl
and_false false = refl

pub two_differ : (a b x y : ℕ) → (x ≢ a) ⊎ (y ≢ b) → (a == x) && (b == y) ≡ false
two_differ a b x y (inl apart) = rw (differ a x apart) refl
two_differ a b x y (inr apart) = rw (differ b y apart) (and_false (a == x))

pub three_differ : (a b c x y z : ℕ) → (x ≢ a) ⊎ ((y ≢ b) ⊎ (z ≢ c)) → (a == x) && ((b == y) && (c == z)) ≡ false
three_differ a b c x y z (inl apart) = rw (differ a x apart) refl
three_differ a b c x y z (inr apart) = rw (two_differ b c y z apart) (and_false (a == x))

-- what holds of an Ok result that is Ok
pub of_ok : {T E : Type 0} {P : Type 0} (r : Result T E) → IsOk r → OnOk r P → P
of_ok (Result.Ok x) ok h = h
of_ok (Result.Err e) ok h = absurd (false≢true ok)
