-- Which places of a file were changed.
use Rattle.std.specs.Prelude.{◌≡◌, ℕ, nat_le, nat_lt, Bool, false, ◌&&◌, List, slice_index}
use Rattle.std.specs.List.{list_any}
use Rattle.dr_disk.specs.declared.spans.Span.{Span}

-- whether this place lies in the span
abbrev pub is_within : ℕ → Span → Bool
is_within place span = nat_le span.from place && nat_lt place span.to

-- whether this place lies in one of the spans
abbrev pub is_changed : List Span → ℕ → Bool
is_changed spans place = list_any (is_within place) spans

-- two files have the same byte at each place that lies in none of the spans; past the end of a file stands 0
abbrev pub SameOutside : List Span → List ℕ → List ℕ → Type 0
SameOutside spans a b = (place : ℕ) → is_changed spans place ≡ false → slice_index a place ≡ slice_index b place
