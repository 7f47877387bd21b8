-- The machine of a number, after one port changes.
use Rattle.std.proofs.Common.{◌≡◌, ◌≢◌, ℕ, ◌<◌, List, length, get_or, set, map, sym, arith, get_or-set_same, get_or-set_other}
use Rattle.std.proofs.lemmas.List.{map-set, get_or-map, length-map}
use Rattle.dr_outside.specs.Machines.{PortState, machine_at, no_machine}

module _ {P : Type 0} (state : P → PortState) (ports : List P) (i : ℕ) where
  pub machine_at_is : (d : P) → i < length ports → state (get_or ports i d) ≡ machine_at state ports i
  machine_at_is d l = sym (get_or-map state ports i d no_machine l)

  pub machine_at-set_same : (p : P) → i < length ports → machine_at state (set ports i p) i ≡ state p
  machine_at-set_same p l = rw (map-set state ports i p) (get_or-set_same (map state ports) i (state p) no_machine (omega (arith, length-map ports state, l)))

  pub machine_at-set_other : (p : P) (j : ℕ) → j ≢ i → machine_at state (set ports i p) j ≡ machine_at state ports j
  machine_at-set_other p j other = rw (map-set state ports i p) (get_or-set_other (map state ports) i j (state p) no_machine other)
