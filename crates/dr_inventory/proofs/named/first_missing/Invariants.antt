use Rattle.std.proofs.Common.{◌≡◌, drop, find, not, is_some}
use Rattle.std.specs.Ordering.{nat_cmp}
use Rattle.std.specs.Cmp.Lexicographic.{slice_cmp}
use Rattle.std.specs.BTreeMap.{get}
use Rattle.dr_inventory.proofs.named.first_missing.Given as goal

abbrev pub invariant-loop-name : goal.invariant-loop-name
invariant-loop-name l = find (λ n. not (is_some (get (slice_cmp nat_cmp) l.places n))) (drop l.name-index l.names) ≡ find (λ n. not (is_some (get (slice_cmp nat_cmp) l.places n))) l.names
