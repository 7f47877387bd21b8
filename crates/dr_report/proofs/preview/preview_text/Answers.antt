use Rattle.std.specs.Prelude.{All}
use Rattle.std.proofs.Common.{◌∙◌, sym, subst, List}
use Rattle.dr_plan.specs.declared.plan.Wave.{Wave}
use Rattle.dr_report.specs.Reports.{IsWaveOf}
use Rattle.dr_report.proofs.WaveLaws.{waves_hold}
use Rattle.dr_report.proofs.preview.preview_text.Goals as goal

pub append_stages-requires : goal.append_stages-requires
append_stages-requires c =
    let P : List Wave → Type 0 = All (IsWaveOf c.args.estate.now) in
    subst P (sym (c.deref.ensures.value ∙ c.in_ok-waves.ensures)) (waves_hold c.args.estate.now c.args.plan.now c.requires)
