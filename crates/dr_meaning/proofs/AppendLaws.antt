-- One more record at the end of a journal.
use Rattle.std.specs.Prelude.{◌≡◌, List, [], ◌∷◌, ◌++◌, fold}
use Rattle.std.proofs.lemmas.List.Sums.{fold-append}
use Rattle.dr_meaning.specs.Types.{Record}
use Rattle.dr_meaning.specs.Runs.{Setting, Run, runs_of, add_record}
use Rattle.dr_meaning.specs.Lawful.{MayCome, LawfulAfter}

pub runs_of-append : (setting : Setting) (records : List Record) (item : Record) → runs_of setting (records ++ item ∷ []) ≡ add_record setting (runs_of setting records) item
runs_of-append setting records item = fold-append (add_record setting) [] records (item ∷ [])

pub LawfulAfter-append : (setting : Setting) (runs : List Run) (records : List Record) (item : Record) → LawfulAfter setting runs records → MayCome setting (fold (add_record setting) runs records) item → LawfulAfter setting runs (records ++ item ∷ [])
LawfulAfter-append setting runs [] item h may = (may, tt)
LawfulAfter-append setting runs (r ∷ rest) item h may = (h.0, LawfulAfter-append setting (add_record setting runs r) rest item h.1 may)
