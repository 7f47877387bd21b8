use Rattle.std.proofs.Common.{◌≡◌, ℕ, List, [], take, drop}
use Rattle.std.specs.Ordering.{nat_cmp}
use Rattle.std.specs.Cmp.Lexicographic.{slice_cmp}
use Rattle.std.specs.BTreeSet.{contains}
use Rattle.dr_inventory.specs.Names.{is_name_of, twice}
use Rattle.dr_inventory.proofs.named.first_twice.Given as goal

abbrev pub invariant-loop-row : goal.invariant-loop-row
invariant-loop-row g l = record {
  same : twice g.T.Named.name g.T.Named.name g.T.Named.within (take l.row-index l.rows) (drop l.row-index l.rows) ≡ twice g.T.Named.name g.T.Named.name g.T.Named.within [] l.rows;
  known : (q : List ℕ) → contains (slice_cmp nat_cmp) l.names q ≡ is_name_of g.T.Named.name q (take l.row-index l.rows);
}
