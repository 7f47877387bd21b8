-- A disk over a file tells no bytes, and no file is in the set of its images.
use Rattle.std.proofs.lemmas.Option.{none-some}
use Rattle.bench.proofs.append.append.Goals as goal

pub append-requires-clause-open : goal.append-requires-clause-open
append-requires-clause-open c = record {
  one = λ file is. absurd is;
  trimmed = λ file reads. absurd (none-some file reads);
  ends = λ file reads. absurd (none-some file reads);
}
