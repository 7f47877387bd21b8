-- The names of the files of a site.
use Rattle.std.specs.Prelude.{ℕ, List, ◌++◌, codes, decimal}
use Rattle.dr_base.specs.declared.side.Side.{Side}
use Rattle.dr_base.specs.declared.side.Side.TheVariants.{A, B}

-- the file of a pair
abbrev pub pair_file : ℕ → List ℕ
pair_file i = codes "pair-" ++ (decimal i ++ codes ".site")

-- the file of a machine's posts
abbrev pub machine_file : ℕ → List ℕ
machine_file i = codes "machine-" ++ (decimal i ++ codes ".site")

-- the file of the commands that a machine ran
abbrev pub kept_file : ℕ → List ℕ
kept_file i = codes "machine-" ++ (decimal i ++ codes ".kept")

-- the file beside, which takes its place once it is written
abbrev pub beside : List ℕ → List ℕ
beside name = name ++ codes ".new"

-- the file that lies there while a side is down
abbrev pub down_file : Side → List ℕ
down_file A = codes "A.down"
down_file B = codes "B.down"
