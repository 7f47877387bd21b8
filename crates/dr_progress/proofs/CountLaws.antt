-- What is counted is at most as many as there are records, so a count that ends at its greatest value adds one.
use Rattle.std.specs.Prelude.{ℕ, suc, ◌+◌, ◌≤◌, ◌==◌, Bool, true, false, List, [], ◌∷◌, cond, length}
use Rattle.std.proofs.Common.{arith}
use Rattle.dr_meaning.specs.Types.{Record}
use Rattle.dr_meaning.specs.Visits.{begun}
use Rattle.dr_progress.specs.Progress.{is_at, asides_in, left_in}

pub asides_few : (stage : ℕ) (log : List Record) → asides_in stage log ≤ length log
asides_few stage [] = omega arith
asides_few stage (Record.Begin run n ∷ log) = go (n == stage) (asides_few stage log)
  where
    go : (b : Bool) → asides_in stage log ≤ length log → cond b 0 (asides_in stage log) ≤ suc (length log)
    go true le = omega arith
    go false le = omega (arith, le)
asides_few stage (Record.Aside run machine by ∷ log) = go (is_at (begun log) stage) (asides_few stage log)
  where
    go : (b : Bool) → asides_in stage log ≤ length log → cond b (asides_in stage log + 1) (asides_in stage log) ≤ suc (length log)
    go true le = omega (arith, le)
    go false le = omega (arith, le)
asides_few stage (Record.Estate bytes ∷ log) = let le = asides_few stage log in omega (arith, le)
asides_few stage (Record.Start row ∷ log) = let le = asides_few stage log in omega (arith, le)
asides_few stage (Record.Attempt run moment ∷ log) = let le = asides_few stage log in omega (arith, le)
asides_few stage (Record.Done run n ∷ log) = let le = asides_few stage log in omega (arith, le)
asides_few stage (Record.Skip run n machine ∷ log) = let le = asides_few stage log in omega (arith, le)
asides_few stage (Record.Answer run step text ∷ log) = let le = asides_few stage log in omega (arith, le)
asides_few stage (Record.Code run token machine code ∷ log) = let le = asides_few stage log in omega (arith, le)
asides_few stage (Record.Finish run moment machines ∷ log) = let le = asides_few stage log in omega (arith, le)

pub left_few : (log : List Record) → left_in log ≤ length log
left_few [] = omega arith
left_few (Record.Begin run n ∷ log) = let le = left_few log in omega (arith, le)
left_few (Record.Aside run machine by ∷ log) = let le = left_few log in omega (arith, le)
left_few (Record.Estate bytes ∷ log) = let le = left_few log in omega (arith, le)
left_few (Record.Start row ∷ log) = let le = left_few log in omega (arith, le)
left_few (Record.Attempt run moment ∷ log) = let le = left_few log in omega (arith, le)
left_few (Record.Done run n ∷ log) = let le = left_few log in omega (arith, le)
left_few (Record.Skip run n machine ∷ log) = let le = left_few log in omega (arith, le)
left_few (Record.Answer run step text ∷ log) = let le = left_few log in omega (arith, le)
left_few (Record.Code run token machine code ∷ log) = let le = left_few log in omega (arith, le)
left_few (Record.Finish run moment machines ∷ log) = let le = left_few log in omega (arith, le)
