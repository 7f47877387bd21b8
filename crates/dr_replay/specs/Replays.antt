-- What a replay finds.
use Rattle.std.specs.Prelude.{ℕ, List, [], take, slice_get, IsSomeAnd}
use Rattle.dr_meaning.specs.Types.{Record}
use Rattle.dr_meaning.specs.Runs.{Setting, runs_of}
use Rattle.dr_meaning.specs.Lawful.{MayCome, LawfulAfter}

-- each record before this place may come after those before it, and the one there may not
pub record IsFirstUnlawful (setting : Setting) (records : List Record) (place : ℕ) : Type 0 where
  pub before : LawfulAfter setting [] (take place records)
  pub unlawful : IsSomeAnd (slice_get records place) (λ item. ¬ (MayCome setting (runs_of setting (take place records)) item))
