use Rattle.std.proofs.Common.{◌<◌, refl, sym, length, arith, below_more}
use Rattle.dr_desk.proofs.words.first_no_name.Goals as goal

pub loop-place-preserved : goal.loop-place-preserved
loop-place-preserved c =
    let within : c.loop-place.place < length c.args.words.now = c.if-not-is_name_at.ensures.within refl in
    record {
      names = below_more _ c.loop-place.place c.loop-place.invariant.names (λ from. sym (c.if-not-is_name_at.ensures.is within));
      within = omega (arith, within);
    }
