-- An array's pairs as a list, by their numbers.
use Rattle.std.specs.Prelude.{ℕ, false, List, slice_index_or, None}
use Rattle.dr_base.specs.declared.side.Side.TheVariants.{A}
use Rattle.dr_outside.specs.declared.pair.Pair.{Pair}
use Rattle.dr_outside.specs.declared.pair.Link.TheVariants.{Split}

-- a pair where there is none
abbrev pub no_pair : Pair
no_pair =
    record {
      source = A;
      link = Split;
      writable = record { a = false; b = false };
      content = record { a = record { line = 0; base = 0; writes = 0 }; b = record { line = 0; base = 0; writes = 0 } };
      snapshot = None;
    }

-- the pair of a number
abbrev pub pair_at : List Pair → ℕ → Pair
pair_at pairs i = slice_index_or pairs i no_pair
