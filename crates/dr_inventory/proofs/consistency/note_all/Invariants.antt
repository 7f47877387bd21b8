use Rattle.std.proofs.Common.{◌≡◌, ℕ, List, Some, None, take, if◌then◌else◌}
use Rattle.std.specs.Option.{option_or}
use Rattle.std.specs.Ordering.{nat_cmp}
use Rattle.std.specs.Cmp.Lexicographic.{slice_cmp}
use Rattle.std.specs.BTreeMap.{get}
use Rattle.dr_inventory.specs.Names.{is_name_of}
use Rattle.dr_inventory.proofs.consistency.note_all.Given as goal

abbrev pub invariant-loop-name : goal.invariant-loop-name
invariant-loop-name l = (q : List ℕ) → get (slice_cmp nat_cmp) l.numbers q ≡ option_or (get (slice_cmp nat_cmp) l.fn.numbers q) (if is_name_of (λ n. n) q (take l.name-index l.names) then Some l.number else None)
