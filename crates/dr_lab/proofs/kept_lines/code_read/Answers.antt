use Rattle.std.proofs.Common.{◌≡◌, ◌∙◌, ◌++◌, [], length, None, sym, ap, subst, refl, arith}
use Rattle.std.proofs.lemmas.List.{length-append}
use Rattle.dr_lab.specs.KeptText.{BeginsWith, code_with}
use Rattle.dr_lab.proofs.Lines.{at_front, later, behind, code_later, consumes_none, consumes_more}
use Rattle.dr_lab.proofs.kept_lines.code_read.Goals as goal

pub loop-search-init : goal.loop-search-init
loop-search-init g c = record {
  token = refl;
  end = λ done. ap length c.new.ensures;
  read = ([], [], subst (λ rest. BeginsWith [] [] rest) (sym c.new.ensures) (at_front []), refl, omega arith, consumes_none (g.R.Read.remaining c.args.reader.now));
}

pub loop-search-preserved : goal.loop-search-preserved
loop-search-preserved g c =
    let so_far = c.loop-search.invariant.read in
    let new = c.in_ok-read_piece.ensures.lines in
    record {
      token = c.read_piece.ensures.token ∙ c.loop-search.invariant.token;
      end = c.in_ok-read_piece.ensures.end;
      read = (
        so_far.0 ++ new.0,
        so_far.1 ++ new.1,
        later (behind new.0 so_far.2) new.4,
        new.5 ∙ ap (λ t. code_with c.loop-search.search.code new.1 t) c.loop-search.invariant.token ∙ ap (λ z. code_with z new.1 c.args.token) so_far.3 ∙ sym (code_later None so_far.1 new.1 c.args.token),
        omega (arith, length-append so_far.0 new.0),
        consumes_more _ _ _ so_far.0 new.0 so_far.5 new.2,
      );
    }
