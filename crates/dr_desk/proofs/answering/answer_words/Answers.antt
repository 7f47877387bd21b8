use Rattle.std.proofs.Common.{refl, ap, inl, inr}
use Rattle.std.specs.Prelude.{Err}
use Rattle.dr_desk.specs.Streams.{looked_at}
use Rattle.dr_desk.proofs.answering.answer_words.Goals as goal

-- src/answering.rt:210:1
pub returns-in-Err-Failed-clause-answer : goal.returns-in-Err-Failed-clause-answer
returns-in-Err-Failed-clause-answer g c = inr (record {
  command = c.in-Ok.command;
  is_command = c.in-Ok.ensures;
  input = looked_at (g.S.Source.left c.args.source.now);
  read = λ t. refl;
  cause = inl (record {
    rose = c.in-Err-Failed.ensures.failed (ap Err c.in-Err-Failed.field-0-is);
    says = record { same = refl; told = c.tell-in-Err-Failed.ensures.short tt };
  });
})

-- src/answering.rt:210:1
pub returns-in-Err-NoMemory-clause-answer : goal.returns-in-Err-NoMemory-clause-answer
returns-in-Err-NoMemory-clause-answer g c = inr (record {
  command = c.in-Ok.command;
  is_command = c.in-Ok.ensures;
  input = looked_at (g.S.Source.left c.args.source.now);
  read = λ t. refl;
  cause = inr (inl (record { same = refl; told = c.tell-in-Err-NoMemory.ensures.short tt }));
})
