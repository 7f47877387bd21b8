-- Drift goes on: no change is a drift, and two drifts in a row are one.
use Rattle.std.proofs.Common.{◌≡◌, ◌⊎◌, inl, inr, Bool, true, false, ◌&&◌, not, refl, sym, ◌∙◌, ap, arith}
use Rattle.dr_base.specs.declared.side.Side.{Side}
use Rattle.dr_base.specs.declared.side.Side.TheVariants.{A, B}
use Rattle.dr_base.specs.Sides.{same_side}
use Rattle.dr_outside.specs.declared.pair.Content.{Content}
use Rattle.dr_outside.specs.declared.pair.Pair.{Pair}
use Rattle.dr_outside.specs.BySide.{at}
use Rattle.dr_outside.specs.Pairs.{is_live, is_target, Grows, FollowsSource, Drift}

-- the same content has grown
pub grows_refl : (a b : Content) → b ≡ a → Grows a b
grows_refl a b e = record { line = ap (λ c. c.line) e; base = ap (λ c. c.base) e; writes = omega (arith, ap (λ c. c.writes) e) }

grows_trans : (a b c : Content) → Grows a b → Grows b c → Grows a c
grows_trans a b c p q = record { line = q.line ∙ p.line; base = q.base ∙ p.base; writes = omega arith }

-- no change
pub Drift-refl : (p : Pair) → Drift p p
Drift-refl p = record {
  frame = refl;
  snapshot = refl;
  written = λ side w. grows_refl _ _ refl;
  replicated = λ side t. inl refl;
  read_only = λ side w t. refl;
}

-- a source is no target, live or not
pub source_is_no_target : (s : Side) (b : Bool) → (b && not (same_side s s)) ≡ false
source_is_no_target A true = refl
source_is_no_target A false = refl
source_is_no_target B true = refl
source_is_no_target B false = refl

-- the source is written, or stays
pub source_grows : (p q : Pair) → Drift p q → Grows (at p.source p.content) (at p.source q.content)
source_grows p q d = go (at p.source p.writable) refl
  where
    go : (b : Bool) → at p.source p.writable ≡ b → Grows (at p.source p.content) (at p.source q.content)
    go true w = d.written p.source w
    go false w = grows_refl _ _ (d.read_only p.source w (source_is_no_target p.source (is_live p.link)))

target_trans : (t0 t1 t2 s1 s2 : Content) → Grows s1 s2 → (t1 ≡ t0) ⊎ FollowsSource t0 s1 t1 → (t2 ≡ t1) ⊎ FollowsSource t1 s2 t2 → (t2 ≡ t0) ⊎ FollowsSource t0 s2 t2
target_trans t0 t1 t2 s1 s2 g (inl a) (inl b) = inl (b ∙ a)
target_trans t0 t1 t2 s1 s2 g (inl a) (inr f) = inr (record { line = f.line; at_least = omega (arith, f.at_least, ap (λ c. c.writes) a); at_most = f.at_most })
target_trans t0 t1 t2 s1 s2 g (inr f) (inl b) =
    inr (record { line = ap (λ c. c.line) b ∙ f.line ∙ sym g.line; at_least = omega (arith, ap (λ c. c.writes) b); at_most = omega (arith, ap (λ c. c.writes) b) })
target_trans t0 t1 t2 s1 s2 g (inr f) (inr h) = inr (record { line = h.line; at_least = omega arith; at_most = h.at_most })

-- two drifts in a row
pub Drift-trans : (p q r : Pair) → Drift p q → Drift q r → Drift p r
Drift-trans p q r d e =
    let w_same = λ (side : Side). ap (λ f. at side f.writable) d.frame in
    let t_same = λ (side : Side). ap (is_target side) d.frame in
    let s_same : q.source ≡ p.source = ap (λ f. f.source) d.frame in
    record {
      frame = e.frame ∙ d.frame;
      snapshot = e.snapshot ∙ d.snapshot;
      written = λ side w. grows_trans _ _ _ (d.written side w) (e.written side (w_same side ∙ w));
      replicated = λ side t.
          target_trans _ _ _ (at p.source q.content) _
          (rw (← s_same) (source_grows q r e))
          (d.replicated side t)
          (rw (← s_same) (e.replicated side (t_same side ∙ t)));
      read_only = λ side w t. e.read_only side (w_same side ∙ w) (t_same side ∙ t) ∙ d.read_only side w t;
    }
