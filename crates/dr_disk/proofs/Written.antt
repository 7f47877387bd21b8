-- What a write and a cut leave of a file, and of the images of a disk in memory.
use Rattle.std.proofs.Common.{◌≡◌, inl, inr, ℕ, ◌+◌, ◌≤◌, max, false, List, length, replicate, get_or, refl, sym, ◌∙◌, subst, arith}
use Rattle.std.proofs.lemmas.Grind.{common_steps}
use Rattle.std.proofs.lemmas.List.{length-replicate, places, get_or_past}
use Rattle.std.proofs.lemmas.Bool.Decides.{nat_tests}
use Rattle.dr_disk.specs.Spans.{is_within, is_changed, SameOutside}
use Rattle.dr_disk.specs.declared.spans.Span.{Span}
use Rattle.dr_disk.specs.Disk.{written, Torn, Follows}
use Rattle.dr_disk.specs.Memory.{MemoryDisk, IsImage}

pub length-written : (at : ℕ) (bytes old : List ℕ) → at ≤ length old → length (written at bytes old) ≡ max (length old) (at + length bytes)
length-written at bytes old le = grind (arith, common_steps)

pub torn_same : (at n : ℕ) (old : List ℕ) → Torn at n old old
torn_same at n old = record { before = refl; after = refl; no_shorter = omega arith; no_longer = omega arith }

pub torn_written : (at : ℕ) (bytes old : List ℕ) → at ≤ length old → Torn at (length bytes) old (written at bytes old)
torn_written at bytes old le = record {
  before = grind (arith, common_steps);
  after = grind (arith, common_steps);
  no_shorter = omega (arith, length-written at bytes old le);
  no_longer = omega (arith, length-written at bytes old le);
}

-- a write leaves the bytes outside of its range
pub get_or-written : (at : ℕ) (bytes old : List ℕ) (place : ℕ) → at ≤ length old → is_within place (record { from = at; to = at + length bytes }) ≡ false → get_or (written at bytes old) place 0 ≡ get_or old place 0
get_or-written at bytes old place le outside = grind (arith, places, nat_tests, get_or_past)

-- the places that lie in none of some spans lie in none of others
abbrev pub Hold : List Span → List Span → Type 0
Hold more spans = (place : ℕ) → is_changed more place ≡ false → is_changed spans place ≡ false

-- a place that lies in none of some spans isn't in a range
abbrev pub HoldRange : List Span → ℕ → ℕ → Type 0
HoldRange more at n = (place : ℕ) → is_changed more place ≡ false → is_within place (record { from = at; to = at + n }) ≡ false

-- of two files that are the same outside of spans, the second one is written to
pub same_outside_write : (spans more : List Span) (at : ℕ) (left bytes old : List ℕ) → SameOutside spans left old → at ≤ length old → Hold more spans → HoldRange more at (length bytes) → SameOutside more left (written at bytes old)
same_outside_write spans more at left bytes old same le hold hold_range place outside =
    same place (hold place outside) ∙ sym (get_or-written at bytes old place le (hold_range place outside))

-- both are written to in one range
pub same_outside_writes : (spans more : List Span) (at : ℕ) (marks torn bytes old : List ℕ) → SameOutside spans torn old → at ≤ length old → at ≤ length torn → length marks ≡ length bytes → Hold more spans → HoldRange more at (length bytes)
    → SameOutside more (written at marks torn) (written at bytes old)
same_outside_writes spans more at marks torn bytes old same le le_torn as_many hold hold_range place outside =
    let range = subst (λ (n : ℕ). is_within place (record { from = at; to = at + n }) ≡ false) (sym as_many) (hold_range place outside) in
    get_or-written at marks torn place le_torn range ∙ same_outside_write spans more at torn bytes old same le hold hold_range place outside

-- each image after a write comes from one before it
pub images_of_write : (at : ℕ) (bytes : List ℕ) (old new : MemoryDisk) → at ≤ length old.bytes → length old.torn ≡ length old.bytes
    → new.bytes ≡ written at bytes old.bytes → new.synced ≡ old.synced → new.torn ≡ written at (replicate (length bytes) 165) old.torn
    → Follows (Torn at (length bytes)) (IsImage old) (IsImage new)
images_of_write at bytes old new le same bytes_is synced_is torn_is file (inl is) =
    (old.bytes, inl refl, subst (Torn at (length bytes) old.bytes) (sym (is ∙ bytes_is)) (torn_written at bytes old.bytes le))
images_of_write at bytes old new le same bytes_is synced_is torn_is file (inr (inl is)) =
    (old.synced, inr (inl refl), subst (Torn at (length bytes) old.synced) (sym (is ∙ synced_is)) (torn_same at (length bytes) old.synced))
images_of_write at bytes old new le same bytes_is synced_is torn_is file (inr (inr is)) =
    let marks : List ℕ = replicate (length bytes) 165 in
    let whole : Torn at (length marks) old.torn (written at marks old.torn) = torn_written at marks old.torn (omega arith) in
    let torn : Torn at (length bytes) old.torn (written at marks old.torn) = subst (λ (n : ℕ). Torn at n old.torn (written at marks old.torn)) (length-replicate (length bytes) 165) whole in
    (old.torn, inr (inr refl), subst (Torn at (length bytes) old.torn) (sym (is ∙ torn_is)) torn)
