use Rattle.std.proofs.Common.{◌≡◌, ℕ, List, map, ◌++◌, ap, sym, ◌∙◌, subst, append_assoc, arith}
use Rattle.std.specs.Prelude.{codes}
use Rattle.std.specs.Option.{option_copied}
use Rattle.dr_report.specs.Lines.{spaced, spelled, Adds}
use Rattle.dr_report.specs.Texts.{machine_names, name_at}
use Rattle.dr_report.proofs.machines.add_machine_line.Goals as goal
use Rattle.dr_report.proofs.LineLaws.{fails_after, two_spaced}

pub returns-in_err-add_words : goal.returns-in_err-add_words
returns-in_err-add_words c =
    let words = map spelled c.args.words.now in
    let names = map (name_at (machine_names (option_copied c.args.estate))) c.args.machines.now in
    rw (two_spaced words names (codes "\n")) (fails_after c.args.out.now c.extend_from_slice.new.self c.add_words.new.out c.args.front.now (spaced words) (spaced names ++ codes "\n") _ c.from_residual-in_err-add_words.result c.from_residual-in_err-add_words.ensures.0 c.in_ok-extend_from_slice.ensures.items c.extend_from_slice.ensures.capacity c.in_err-add_words.ensures)

pub returns-in_err-add_machines : goal.returns-in_err-add_machines
returns-in_err-add_machines c =
    let words = map spelled c.args.words.now in
    let names = map (name_at (machine_names (option_copied c.args.estate))) c.args.machines.now in
    let put = c.in_ok-add_words.ensures in
    let front = c.args.front.now in
    let before = front ++ spaced words in
    let line = append_assoc front (spaced words) (spaced names ++ codes "\n") ∙ ap (λ rest. front ++ rest) (sym (two_spaced words names (codes "\n"))) in
    let items : c.add_words.new.out.items ≡ c.args.out.now.items ++ before = put.ok ∙ ap (λ text. text ++ spaced words) c.in_ok-extend_from_slice.ensures.items ∙ append_assoc c.args.out.now.items front (spaced words) in
    let result = c.from_residual-in_err-add_machines.result in
    subst (λ (text : List ℕ). Adds c.args.out.now c.add_machines.new.out text result) line (fails_after c.args.out.now c.add_words.new.out c.add_machines.new.out before (spaced names) (codes "\n") _ result c.from_residual-in_err-add_machines.ensures.0 items (omega (arith, c.extend_from_slice.ensures.capacity, put.capacity)) c.in_err-add_machines.ensures)
