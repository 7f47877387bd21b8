-- Drifts but for the snapshot, and kept lists that grow: two changes in a row are one.
use Rattle.std.specs.Prelude.{◌≡◌, List, [], ◌++◌, Option, option_map}
use Rattle.std.proofs.Common.{refl, sym, ap, ◌∙◌}
use Rattle.std.proofs.lemmas.List.{append-nil, append_assoc}
use Rattle.dr_outside.specs.Pairs.{Frame, Drift}
use Rattle.dr_outside.proofs.Drifts.{Drift-trans}
use Rattle.dr_meaning.specs.Types.{Pair, Snapshot, Kept}
use Rattle.dr_meaning.specs.Testing.{DriftsButSnapshot}
use Rattle.dr_meaning.specs.Changes.{GrowsBy}
use Rattle.dr_meaning.proofs.Lists.{each-append, each-map}

-- Pairs

-- a frame with the run of this snapshot
abbrev with_run_of : Option Snapshot → Frame → Frame
with_run_of s f = record f { snapshot = option_map (λ (x : Snapshot). x.run) s }

-- what drifts but for the snapshot does so with any snapshot
with_any : (s : Option Snapshot) (p q : Pair) → DriftsButSnapshot p q → Drift (record p { snapshot = s }) (record q { snapshot = s })
with_any s p q d = record {
  frame = ap (with_run_of s) d.frame;
  snapshot = refl;
  written = d.written;
  replicated = d.replicated;
  read_only = d.read_only;
}

pub but_of : (p q : Pair) → Drift p q → DriftsButSnapshot p q
but_of p q d = record {
  frame = ap (with_run_of p.snapshot) d.frame;
  snapshot = refl;
  written = d.written;
  replicated = d.replicated;
  read_only = d.read_only;
}

pub but_trans : (p q r : Pair) → DriftsButSnapshot p q → DriftsButSnapshot q r → DriftsButSnapshot p r
but_trans p q r d e = Drift-trans p (record q { snapshot = p.snapshot }) (record r { snapshot = p.snapshot }) d (with_any p.snapshot q r e)

-- Kept lists

pub grows_same : (Is : Kept → Type 0) (old new : List Kept) → new ≡ old → GrowsBy Is old new
grows_same Is old new same = record { added = []; grows = same ∙ sym (append-nil old); each = tt; once = λ h. rw same h }

pub grows_trans : (Is : Kept → Type 0) (a b c : List Kept) → GrowsBy Is a b → GrowsBy Is b c → GrowsBy Is a c
grows_trans Is a b c p q = record {
  added = p.added ++ q.added;
  grows = q.grows ∙ ap (λ l. l ++ q.added) p.grows ∙ append_assoc a p.added q.added;
  each = each-append Is p.added q.added p.each q.each;
  once = λ h. q.once (p.once h);
}

pub grows_map : (Is These : Kept → Type 0) → ((kept : Kept) → Is kept → These kept) → (a b : List Kept) → GrowsBy Is a b → GrowsBy These a b
grows_map Is These f a b p = record { added = p.added; grows = p.grows; each = each-map Is These f p.added p.each; once = p.once }
